-- The root of the formula that a record holds.
use Rattle.std.proofs.Common.{◌≡◌, ℕ, ◌+◌, ◌-◌, ◌≤◌, List, [], length, sym, ap, ◌∙◌, subst, arith}
use mathlib.Core.Logic.{∥∥₁_elim, ∥∥₁_map}
use native.Mathlib.Bridge.{le_prop}
use Rattle.formulas.specs.declared.node.Node.{Node}
use Rattle.formulas.specs.Formulas.{nodes}
use Rattle.formulas.specs.Trees.{laid, Rooted, Standing}
use Rattle.formulas.proofs.Listing.{some, laid_rooted}
use Rattle.rules.specs.declared.rule.Rule.{Rule}
use Rattle.rules.specs.Formed.{Formed}
use Rattle.rules.specs.Reading.{rule_nodes}

pub some_nodes : {K : Type 0} (r : Rule K) → 1 ≤ length (rule_nodes r)
some_nodes r = ∥∥₁_elim r.formed le_prop (λ f. omega (arith, f.size, some f.formula))

pub root_stands : (ns ms : List Node) (m : ℕ) → ns ≡ ms → ∥ Formed ms (length ms) m ∥₁ → Standing ns (length ns - 1)
root_stands ns ms m same formed =
    ∥∥₁_map formed (λ f.
    let root : 0 + nodes f.formula - 1 ≡ length ns - 1 = omega (arith, ap length same, f.size) in
    (0, f.formula, subst (λ l. Rooted l (length ns - 1) 0 f.formula) (sym (same ∙ f.listed)) (subst (λ i. Rooted (laid 0 0 f.formula) i 0 f.formula) root (laid_rooted [] 0 f.formula))))
