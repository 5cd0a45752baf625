use Rattle.std.specs.Prelude.{◌≡◌, ℕ, ◌<◌, ◌≤◌, List, length, Ok, Err, Result}
use Rattle.formulas.specs.declared.word.Word.{Word}
use Rattle.formulas.specs.Formulas.{Formula, nodes, promises}
use Rattle.formulas.specs.Trees.{laid}
use Rattle.grammar.specs.declared.tree.Tree.{Tree}
use Rattle.grammar.specs.declared.misread.Misread.{Misread}
use Rattle.grammar.specs.declared.misread.Misread.TheVariants.{TooManyWords, NoRule}
use Rattle.grammar.specs.Grammar.{Rules, Fails}
use Rattle.grammar.specs.Nodes.{front}

-- The tree has the nodes of the words' formula, and no others, as they are laid.
pub record Grown (ws : List Word) (t : Tree) : Type 0 where
  pub formula : Formula
  pub rules : Rules ws formula
  pub listed : front t ≡ laid 0 0 formula
  pub count : length (front t) ≡ nodes formula
  pub operators : t.operators ≡ promises formula

-- Words have at most one formula, and fail at one word at most.
abbrev pub OneFormula : List Word → Type 0
OneFormula ws = (f g : Formula) → Rules ws f → Rules ws g → f ≡ g

abbrev pub OnePlace : List Word → Type 0
OnePlace ws = (n m : ℕ) → Fails ws n → Fails ws m → n ≡ m

abbrev pub Parsed : List Word → Result Tree Misread → Type 0
Parsed ws (Ok t) = (length ws ≤ 256) × Grown ws t
Parsed ws (Err TooManyWords) = 256 < length ws
Parsed ws (Err (NoRule n)) = (length ws ≤ 256) × Fails ws n
