-- How what is done at a bench is written.
use Rattle.std.specs.Prelude.{◌≡◌, ℕ, List, ◌++◌, Ok, Err, codes, Result}
use Rattle.events.specs.declared.refusal.EventRefusal.{EventRefusal}
use Rattle.notation.specs.Refusals.{carried}
use Rattle.notation.specs.declared.refusal.LineRefusal.{LineRefusal}
use Rattle.session.specs.declared.turn.Act.{Act}
use Rattle.session.specs.declared.turn.Act.TheVariants.{Open, Take, Ask, Close}
use Rattle.lines.specs.Numerals.{NumberWritten}
use Rattle.script.specs.declared.refusal.TurnRefusal.{TurnRefusal}
use Rattle.script.specs.declared.refusal.TurnRefusal.TheVariants.{NotATurn, Event}

-- A text begins with a front, and what follows is as said.
abbrev pub After : List ℕ → List ℕ → (List ℕ → Type 0) → Type 0
After front text P = (rest : List ℕ) × (text ≡ front ++ rest) × P rest

-- The one thing of which P holds.
pub record Exactly {A : Type 0} (P : A → Type 0) (r : A) : Type 0 where
  pub holds : P r
  pub only : (s : A) → P s → s ≡ r

-- How an act is written, where `event` says how an event is written.
abbrev pub ActWritten : {E : Type 0} → (E → List ℕ) → List ℕ → Act E → Type 0
ActWritten event text Open = text ≡ codes "open"
ActWritten event text (Take e) = text ≡ codes "take " ++ event e
ActWritten event text Ask = text ≡ codes "ask"
ActWritten event text (Close place) = After (codes "close ") text (λ digits. NumberWritten digits place)

-- A take of an event that is refused, where `reads` says what reading an event answers.
abbrev pub TakeRefused : {E : Type 0} → (List ℕ → Result E LineRefusal → Type 0) → List ℕ → EventRefusal → Type 0
TakeRefused reads text x = After (codes "take ") text (λ event. reads event (Err (carried x)))

-- What reading an act answers: the act that is so written, the refusal of its event, or that it is neither.
abbrev pub ActRead : {E : Type 0} → (E → List ℕ) → (List ℕ → Result E LineRefusal → Type 0) → List ℕ → Result (Act E) TurnRefusal → Type 0
ActRead event reads text (Ok a) = ActWritten event text a
ActRead event reads text (Err (Event x)) = TakeRefused reads text x
ActRead event reads text (Err NotATurn) = ((a : Act _) → ActWritten event text a → ⊥) × ((x : EventRefusal) → TakeRefused reads text x → ⊥)
