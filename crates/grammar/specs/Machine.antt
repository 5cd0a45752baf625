-- A machine that reads the words of a rule one by one, with what is pending. It serves the contracts of the parser's levels and the proofs; nothing that `parse` promises names it.
use Rattle.std.specs.Prelude.{◌≡◌, ℕ, Bool, true, false, List, [], ◌∷◌, Some, None, Option}
use Rattle.formulas.specs.declared.binary.Binary.{Binary}
use Rattle.formulas.specs.declared.binary.Binary.TheVariants.{And, Or, Implies, Iff, Until}
use Rattle.formulas.specs.declared.word.Word.{Word}
use Rattle.formulas.specs.declared.word.Word.TheVariants.{Name, Constant, Open, Close, Prefix, Infix}
use Rattle.formulas.specs.Formulas.{Formula, name, constant, unary, binary}
use Rattle.grammar.specs.Grammar.{Level, rule, implication, alternative, conjunction, until, operand}

abbrev pub Slot : Type 0
Slot = Formula → Formula

abbrev pub idle : Slot
idle f = f

-- A state has, in this order: whether an `=` was met; what is pending of `=`, `>`, `|`, `&`, `U` and of prefix operators; and the open brackets.

-- brackets that are open, each with what was pending where it opened
pub data Stack : Type 0 where
  base : Stack
  over : Bool → Slot → Slot → Slot → Slot → Slot → Slot → Stack → Stack

pub data State : Type 0 where
  wants : Bool → Slot → Slot → Slot → Slot → Slot → Slot → Stack → State
  has : Formula → Bool → Slot → Slot → Slot → Slot → Slot → Stack → State

pub data Out : Type 0 where
  read : Formula → Out
  stuck : List Word → Out

abbrev pub step : State → Word → Option State
step (wants e s t o a n p k) (Name m) = Some (has (p (name m)) e s t o a n k)
step (wants e s t o a n p k) (Constant b) = Some (has (p (constant b)) e s t o a n k)
step (wants e s t o a n p k) (Prefix q) = Some (wants e s t o a n (λ g. p (unary q g)) k)
step (wants e s t o a n p k) Open = Some (wants false idle idle idle idle idle idle (over e s t o a n p k))
step (wants e s t o a n p k) Close = None
step (wants e s t o a n p k) (Infix i) = None
step (has f e s t o a n k) (Name m) = None
step (has f e s t o a n k) (Constant b) = None
step (has f e s t o a n k) (Prefix q) = None
step (has f e s t o a n k) Open = None
step (has f e s t o a n base) Close = None
step (has f e s t o a n (over e' s' t' o' a' n' p' k)) Close = Some (has (p' (s (t (o (a (n f)))))) e' s' t' o' a' n' k)
step (has f e s t o a n k) (Infix Until) = Some (wants e s t o a (λ g. n (binary Until f g)) idle k)
step (has f e s t o a n k) (Infix And) = Some (wants e s t o (λ g. binary And (a (n f)) g) idle idle k)
step (has f e s t o a n k) (Infix Or) = Some (wants e s t (λ g. binary Or (o (a (n f))) g) idle idle idle k)
step (has f e s t o a n k) (Infix Implies) = Some (wants e s (λ g. t (binary Implies (o (a (n f))) g)) idle idle idle idle k)
step (has f false s t o a n k) (Infix Iff) = Some (wants true (λ g. binary Iff (t (o (a (n f)))) g) idle idle idle idle idle k)
step (has f true s t o a n k) (Infix Iff) = None

abbrev pub ends : State → Out
ends (wants e s t o a n p k) = stuck []
ends (has f e s t o a n base) = read (s (t (o (a (n f)))))
ends (has f e s t o a n (over e' s' t' o' a' n' p' k)) = stuck []

abbrev pub outcome : List Word → State → Out
outcome [] st = ends st
outcome (w ∷ ws) st = elim (step st w) [ Some next ↦ outcome ws next | None ↦ stuck (w ∷ ws) ]

abbrev pub start : State
start = wants false idle idle idle idle idle idle base

-- how weakly the infix at the front binds
abbrev pub weak : List Word → ℕ
weak [] = 9
weak (Name n ∷ ws) = 9
weak (Constant b ∷ ws) = 9
weak (Prefix p ∷ ws) = 9
weak (Open ∷ ws) = 9
weak (Close ∷ ws) = 9
weak (Infix Until ∷ ws) = 1
weak (Infix And ∷ ws) = 2
weak (Infix Or ∷ ws) = 3
weak (Infix Implies ∷ ws) = 4
weak (Infix Iff ∷ ws) = 5

abbrev pub rank : Binary → ℕ
rank Until = 1
rank And = 2
rank Or = 3
rank Implies = 4
rank Iff = 5

-- after a whole part of the level, the front binds this weakly at least
abbrev pub past : Level → ℕ
past operand = 0
past until = 2
past conjunction = 2
past alternative = 3
past implication = 5
past rule = 6

-- where the machine wants a part of the level, it goes on from ws to rest with the formula
abbrev pub Goes : Level → List Word → List Word → Formula → Type 0
Goes operand ws rest f = (e : Bool) (s t o a n p : Slot) (k : Stack) → outcome ws (wants e s t o a n p k) ≡ outcome rest (has (p f) e s t o a n k)
Goes until ws rest f = (e : Bool) (s t o a n : Slot) (k : Stack) → outcome ws (wants e s t o a n idle k) ≡ outcome rest (has f e s t o a n k)
Goes conjunction ws rest f = (e : Bool) (s t o : Slot) (k : Stack) → outcome ws (wants e s t o idle idle idle k) ≡ outcome rest (has f e s t o idle idle k)
Goes alternative ws rest f = (e : Bool) (s t : Slot) (k : Stack) → outcome ws (wants e s t idle idle idle idle k) ≡ outcome rest (has f e s t idle idle idle k)
Goes implication ws rest f = (e : Bool) (s t : Slot) (k : Stack) → outcome ws (wants e s t idle idle idle idle k) ≡ outcome rest (has f e s t idle idle idle k)
Goes rule ws rest f = (k : Stack) → outcome ws (wants false idle idle idle idle idle idle k) ≡ outcome rest (has f true idle idle idle idle idle k)

-- where it wants a part of the level, it is stuck from rest on
abbrev pub Dies : Level → List Word → List Word → Type 0
Dies operand ws rest = (e : Bool) (s t o a n p : Slot) (k : Stack) → outcome ws (wants e s t o a n p k) ≡ stuck rest
Dies until ws rest = (e : Bool) (s t o a n : Slot) (k : Stack) → outcome ws (wants e s t o a n idle k) ≡ stuck rest
Dies conjunction ws rest = (e : Bool) (s t o : Slot) (k : Stack) → outcome ws (wants e s t o idle idle idle k) ≡ stuck rest
Dies alternative ws rest = (e : Bool) (s t : Slot) (k : Stack) → outcome ws (wants e s t idle idle idle idle k) ≡ stuck rest
Dies implication ws rest = (e : Bool) (s t : Slot) (k : Stack) → outcome ws (wants e s t idle idle idle idle k) ≡ stuck rest
Dies rule ws rest = (k : Stack) → outcome ws (wants false idle idle idle idle idle idle k) ≡ stuck rest
