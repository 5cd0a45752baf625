-- What a rule is: the grammar as a relation on lists of words.
use Rattle.std.specs.Prelude.{ℕ, ◌+◌, ◌<◌, ◌≤◌, Bool, List, [], ◌∷◌, ◌++◌, length, take}
use Rattle.formulas.specs.declared.unary.Unary.{Unary}
use Rattle.formulas.specs.declared.binary.Binary.TheVariants.{And, Or, Implies, Iff, Until}
use Rattle.formulas.specs.declared.word.Word.{Word}
use Rattle.formulas.specs.declared.word.Word.TheVariants.{Name, Constant, Open, Close, Prefix, Infix}
use Rattle.formulas.specs.Formulas.{Formula, name, constant, unary, binary}

pub data Level : Type 0 where
  rule implication alternative conjunction until operand : Level

-- Derives level ws rest f: the words of ws before their end rest are, at that level, the formula f.
pub data Derives : Level → List Word → List Word → Formula → Type 0 where
  -- a rule is an implication, or implication `=` implication
  an_implication : {ws rest : List Word} {f : Formula} → Derives implication ws rest f → Derives rule ws rest f
  an_iff : {ws vs rest : List Word} {f g : Formula} → Derives implication ws (Infix Iff ∷ vs) f → Derives implication vs rest g → Derives rule ws rest (binary Iff f g)
  -- an implication is an alternative, or alternative `>` implication
  an_alternative : {ws rest : List Word} {f : Formula} → Derives alternative ws rest f → Derives implication ws rest f
  an_implies : {ws vs rest : List Word} {f g : Formula} → Derives alternative ws (Infix Implies ∷ vs) f → Derives implication vs rest g → Derives implication ws rest (binary Implies f g)
  -- an alternative is conjunctions joined by `|`, grouped to the left
  a_conjunction : {ws rest : List Word} {f : Formula} → Derives conjunction ws rest f → Derives alternative ws rest f
  an_or : {ws vs rest : List Word} {f g : Formula} → Derives alternative ws (Infix Or ∷ vs) f → Derives conjunction vs rest g → Derives alternative ws rest (binary Or f g)
  -- a conjunction is until parts joined by `&`, grouped to the left
  a_part : {ws rest : List Word} {f : Formula} → Derives until ws rest f → Derives conjunction ws rest f
  an_and : {ws vs rest : List Word} {f g : Formula} → Derives conjunction ws (Infix And ∷ vs) f → Derives until vs rest g → Derives conjunction ws rest (binary And f g)
  -- an until part is an operand, or operand `U` until part
  an_operand : {ws rest : List Word} {f : Formula} → Derives operand ws rest f → Derives until ws rest f
  an_until : {ws vs rest : List Word} {f g : Formula} → Derives operand ws (Infix Until ∷ vs) f → Derives until vs rest g → Derives until ws rest (binary Until f g)
  -- an operand is a prefix operator before an operand, a name, a constant, or a rule in brackets
  a_prefix : {p : Unary} {ws rest : List Word} {f : Formula} → Derives operand ws rest f → Derives operand (Prefix p ∷ ws) rest (unary p f)
  a_name : {n : ℕ} {rest : List Word} → Derives operand (Name n ∷ rest) rest (name n)
  a_constant : {b : Bool} {rest : List Word} → Derives operand (Constant b ∷ rest) rest (constant b)
  a_bracket : {ws rest : List Word} {f : Formula} → Derives rule ws (Close ∷ rest) f → Derives operand (Open ∷ ws) rest f

-- The words are a rule, and f is its formula.
abbrev pub Rules : List Word → Formula → Type 0
Rules ws f = Derives rule ws [] f

-- Some completion of the words, by any words or none, is a rule.
abbrev pub Viable : List Word → Type 0
Viable ws = (more : List Word) × (f : Formula) × Rules (ws ++ more) f

-- The words are no rule: the first n of them can still become one, and with the next word they no longer can, or there is no next word.
pub record Fails (ws : List Word) (n : ℕ) : Type 0 where
  pub within : n ≤ length ws
  pub so_far : Viable (take n ws)
  pub no_more : n < length ws → Viable (take (n + 1) ws) → ⊥
  pub no_rule : (f : Formula) → Rules ws f → ⊥
