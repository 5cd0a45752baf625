use Rattle.std.specs.Prelude.{◌≡◌, ℕ, ◌-◌, ◌≤◌, List, length, Ok, Err, Result}
use Rattle.formulas.specs.declared.word.Word.{Word}
use Rattle.formulas.specs.declared.node.Node.{Node}
use Rattle.formulas.specs.Formulas.{Formula, nodes, promises}
use Rattle.formulas.specs.Trees.{formula_at}
use Rattle.grammar.specs.declared.tree.Tree.{Tree}
use Rattle.grammar.specs.Nodes.{front}
use Rattle.grammar.specs.Parsing.{Grown}
use Rattle.rules.specs.Formed.{Formed}
use Rattle.rules.specs.declared.refusal.Fault.{Fault}
use Rattle.rules.specs.declared.rule.Rule.{Rule}
use Rattle.rules.specs.declared.rule.Size.{Size}
use Rattle.rules.specs.Lexing.{OneLexing}
use Rattle.rules.specs.Outcomes.{Rejected, Answer, read, refused, Outcome}

-- The nodes of a record, and the formula that it holds.
abbrev pub rule_nodes : {K : Type 0} → Rule K → List Node
rule_nodes r = r.nodes.items

abbrev pub rule_formula : {K : Type 0} → Rule K → Formula
rule_formula r = formula_at (rule_nodes r) (length (rule_nodes r) - 1)

-- The answer that a call gave with what the record then holds.
abbrev pub answer : {K : Type 0} → Rule K → Result Size Fault → Answer
answer rule (Ok size) = read (rule_formula rule)
answer rule (Err fault) = refused fault.refusal fault.place

-- What is told of a rule that was read, and what a refusal leaves.
abbrev pub Left : {K : Type 0} → Rule K → Rule K → Result Size Fault → Type 0
Left old new (Ok size) = (size.nodes ≡ nodes (rule_formula new)) × (size.promises ≡ promises (rule_formula new))
Left old new (Err fault) = new ≡ old

-- Reading is exact: the answer is the text's own, and the text has no other, nor other words; a refusal leaves the record as it was.
pub record Reading {K : Type 0} (count : ℕ) (names : ℕ → List ℕ) (text : List ℕ) (old new : Rule K) (r : Result Size Fault) : Type 0 where
  pub right : Outcome count names text (answer new r)
  pub only : (a : Answer) → Outcome count names text a → a ≡ answer new r
  pub words : OneLexing count names text
  pub left : Left old new r

-- For inner functions: the tree is one formula within the limits.
pub record Within (t : Tree) : Type 0 where
  pub formed : Formed (front t) (length (front t)) t.operators
  pub few_nodes : length (front t) ≤ 48
  pub few_temporal : t.operators ≤ 12

-- For inner functions: the record holds the tree's formula.
pub record Holding {K : Type 0} (t : Tree) (r : Rule K) : Type 0 where
  pub same : rule_nodes r ≡ front t
  pub promises : r.promises ≡ t.operators

-- For inner functions: what words with their places come to.
abbrev pub Understanding : List Word → List ℕ → ℕ → Result Tree Fault → Type 0
Understanding ws ps end (Ok t) = Grown ws t × Within t
Understanding ws ps end (Err f) = Rejected ws ps end f.refusal f.place
