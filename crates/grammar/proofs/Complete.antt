-- The machine follows every derivation.
use Rattle.std.proofs.Common.{◌≡◌, ◌≤◌, Bool, true, false, List, ◌∷◌, refl, ◌∙◌, arith, lit≤}
use Rattle.formulas.specs.declared.binary.Binary.TheVariants.{And, Or, Implies, Iff, Until}
use Rattle.formulas.specs.declared.word.Word.{Word}
use Rattle.formulas.specs.declared.word.Word.TheVariants.{Infix}
use Rattle.formulas.specs.Formulas.{Formula, unary, binary}
use Rattle.grammar.specs.Grammar.{Level, rule, implication, Derives, a_name, a_constant, a_prefix, a_bracket, an_operand, an_until, a_part, an_and, a_conjunction, an_or, an_alternative, an_implies, an_implication, an_iff}
use Rattle.grammar.specs.Machine.{Slot, idle, Stack, over, has, outcome, weak, past, Goes}

-- a pending `U` is done where no `U` follows
pub join_until : (ws : List Word) → 2 ≤ weak ws → (f g : Formula) (e : Bool) (s t o a n : Slot) (k : Stack) → outcome ws (has g e s t o a (λ x. n (binary Until f x)) k) ≡ outcome ws (has (binary Until f g) e s t o a n k)
join_until ws h f g e s t o a n k = grind arith

-- a pending `&`
pub join_and : (ws : List Word) → 2 ≤ weak ws → (f g : Formula) (e : Bool) (s t o : Slot) (k : Stack) → outcome ws (has g e s t o (λ x. binary And f x) idle k) ≡ outcome ws (has (binary And f g) e s t o idle idle k)
join_and ws h f g e s t o k = grind arith

-- a pending `|`
pub join_or : (ws : List Word) → 3 ≤ weak ws → (f g : Formula) (e : Bool) (s t : Slot) (k : Stack) → outcome ws (has g e s t (λ x. binary Or f x) idle idle k) ≡ outcome ws (has (binary Or f g) e s t idle idle idle k)
join_or ws h f g e s t k = grind arith

-- a pending `>`
pub join_then : (ws : List Word) → 5 ≤ weak ws → (f g : Formula) (e : Bool) (s t : Slot) (k : Stack) → outcome ws (has g e s (λ x. t (binary Implies f x)) idle idle idle k) ≡ outcome ws (has (binary Implies f g) e s t idle idle idle k)
join_then ws h f g e s t k = grind arith

-- a pending `=`
pub join_same : (ws : List Word) → 5 ≤ weak ws → (f g : Formula) (k : Stack) → outcome ws (has g true (λ x. binary Iff f x) idle idle idle idle k) ≡ outcome ws (has (binary Iff f g) true idle idle idle idle idle k)
join_same ws h f g k = grind arith

-- no `=` at the level, and none follows
pub join_none : (ws : List Word) → 6 ≤ weak ws → (f : Formula) (k : Stack) → outcome ws (has f false idle idle idle idle idle k) ≡ outcome ws (has f true idle idle idle idle idle k)
join_none ws h f k = grind arith

-- every part that the grammar has, and after which no tighter infix stands, is followed by the machine
pub follows : {l : Level} {ws rest : List Word} {f : Formula} → Derives l ws rest f → past l ≤ weak rest → Goes l ws rest f
follows a_name h = λ e s t o a n p k. refl
follows a_constant h = λ e s t o a n p k. refl
follows (a_prefix {p = q} d) h = λ e s t o a n p k. follows d h e s t o a n (λ g. p (unary q g)) k
follows (a_bracket d) h = λ e s t o a n p k. follows d (lit≤ tt) (over e s t o a n p k)
follows (an_operand d) h = λ e s t o a n k. follows d (omega arith) e s t o a n idle k
follows (an_until {rest = rest} {f = f} {g = g} d d') h = λ e s t o a n k. follows d (lit≤ tt) e s t o a n idle k ∙ follows d' h e s t o a (λ x. n (binary Until f x)) k ∙ join_until rest h f g e s t o a n k
follows (a_part d) h = λ e s t o k. follows d h e s t o idle idle k
follows (an_and {rest = rest} {f = f} {g = g} d d') h = λ e s t o k. follows d (lit≤ tt) e s t o k ∙ follows d' h e s t o (λ x. binary And f x) idle k ∙ join_and rest h f g e s t o k
follows (a_conjunction d) h = λ e s t k. follows d (omega arith) e s t idle k
follows (an_or {rest = rest} {f = f} {g = g} d d') h = λ e s t k. follows d (lit≤ tt) e s t k ∙ follows d' (omega arith) e s t (λ x. binary Or f x) k ∙ join_or rest h f g e s t k
follows (an_alternative d) h = λ e s t k. follows d (omega arith) e s t k
follows (an_implies {rest = rest} {f = f} {g = g} d d') h = λ e s t k. follows d (lit≤ tt) e s t k ∙ follows d' h e s (λ x. t (binary Implies f x)) k ∙ join_then rest h f g e s t k
follows (an_implication {rest = rest} {f = f} d) h = λ k. follows d (omega arith) false idle idle k ∙ join_none rest h f k
follows (an_iff {rest = rest} {f = f} {g = g} d d') h = λ k. follows d (lit≤ tt) false idle idle k ∙ follows d' (omega arith) true (λ x. binary Iff f x) idle k ∙ join_same rest (omega arith) f g k

-- after an `=`, a second one may stand next: the machine is then stuck there
pub follows_same : {ws vs rest : List Word} {f g : Formula} → Derives implication ws (Infix Iff ∷ vs) f → Derives implication vs rest g → 5 ≤ weak rest → Goes rule ws rest (binary Iff f g)
follows_same {rest = rest} {f = f} {g = g} d d' h = λ k. follows d (lit≤ tt) false idle idle k ∙ follows d' h true (λ x. binary Iff f x) idle k ∙ join_same rest h f g k
