use Rattle.std.specs.Prelude.{◌≡◌, ℕ, List}
use Rattle.formulas.specs.declared.node.Node.{Node}
use Rattle.formulas.specs.Formulas.{Formula, nodes, promises}
use Rattle.formulas.specs.Trees.{laid}

-- The nodes are those of one formula, and no others, as they are laid.
pub record Formed (ns : List Node) (count temporal : ℕ) : Type 0 where
  pub formula : Formula
  pub listed : ns ≡ laid 0 0 formula
  pub size : count ≡ nodes formula
  pub numbered : temporal ≡ promises formula
