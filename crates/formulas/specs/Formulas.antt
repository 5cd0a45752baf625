use Rattle.std.specs.Prelude.{ℕ, ◌+◌, Bool, true, false, cond}
use Rattle.formulas.specs.declared.unary.Unary.{Unary}
use Rattle.formulas.specs.declared.unary.Unary.TheVariants.{Not, Next, WeakNext, Finally, Globally}
use Rattle.formulas.specs.declared.binary.Binary.{Binary}
use Rattle.formulas.specs.declared.binary.Binary.TheVariants.{And, Or, Implies, Iff, Until}
use Rattle.formulas.specs.declared.word.Word.{Word}
use Rattle.formulas.specs.declared.word.Word.TheVariants.{Name, Constant, Open, Close, Prefix, Infix}

-- A formula as it is written.
pub data Formula : Type 0 where
  name : ℕ → Formula
  constant : Bool → Formula
  unary : Unary → Formula → Formula
  binary : Binary → Formula → Formula → Formula

-- Every word but a bracket is a node.
abbrev pub node : Word → Bool
node (Name n) = true
node (Constant b) = true
node Open = false
node Close = false
node (Prefix o) = true
node (Infix o) = true

-- The temporal operators are X, N, F, G and U.
abbrev pub temporal : Word → Bool
temporal (Name n) = false
temporal (Constant b) = false
temporal Open = false
temporal Close = false
temporal (Prefix Not) = false
temporal (Prefix Next) = true
temporal (Prefix WeakNext) = true
temporal (Prefix Finally) = true
temporal (Prefix Globally) = true
temporal (Infix And) = false
temporal (Infix Or) = false
temporal (Infix Implies) = false
temporal (Infix Iff) = false
temporal (Infix Until) = true

-- 1 for a word that passes the test, else 0.
abbrev pub one : (Word → Bool) → Word → ℕ
one test w = cond (test w) 1 0

-- How many of a formula's words pass the test.
abbrev pub tally : (Word → Bool) → Formula → ℕ
tally test (name n) = one test (Name n)
tally test (constant b) = one test (Constant b)
tally test (unary o f) = one test (Prefix o) + tally test f
tally test (binary o f g) = tally test f + one test (Infix o) + tally test g

-- How many nodes a formula has, and how many temporal operators, each of which has a promise of its own.
abbrev pub nodes : Formula → ℕ
nodes f = tally node f

abbrev pub promises : Formula → ℕ
promises f = tally temporal f
