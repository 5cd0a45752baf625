-- What the line of a turn can be.
use Rattle.std.proofs.Common.{◌≡◌, ℕ, List, ◌++◌, cond, eqb, get_or, None, Err, codes, Option, Bor, sym, refl, ap, ◌∙◌, subst}
use Rattle.std.proofs.lemmas.List.{append_cancel_left}
use Rattle.events.specs.declared.refusal.EventRefusal.{EventRefusal}
use Rattle.notation.specs.Sheets.{sheet_line, SheetRead}
use Rattle.notation.specs.Machines.{MachineRead}
use Rattle.session.specs.declared.turn.Turn.TheVariants as turn
use Rattle.script.specs.Acts.{ActRead}
use Rattle.script.specs.Seats.{called, SeatTold}
use Rattle.script.specs.Turns.{machine_line, Written, Refused, ruler, hammer, first, second, TurnRead}
use Rattle.script.specs.declared.refusal.TurnRefusal.{TurnRefusal}
use Rattle.script.specs.declared.refusal.TurnRefusal.TheVariants.{NotATurn, Event}
use Rattle.script.specs.declared.seat.Seat.{Seat}
use Rattle.script.specs.declared.seat.Seat.TheVariants.{Ruler, Hammer, First, Second}

-- The bench that a line names, by its first letter.
abbrev seat_of : List ℕ → Seat
seat_of line = cond (eqb (get_or line 0 0) 114) Ruler (cond (eqb (get_or line 0 0) 104) Hammer (cond (eqb (get_or line 0 0) 102) First Second))

seat_of_called : (s : Seat) (a : List ℕ) → seat_of (called s ++ a) ≡ s
seat_of_called Ruler a = refl
seat_of_called Hammer a = refl
seat_of_called First a = refl
seat_of_called Second a = refl

pub seat_same : (s t : Seat) (a b : List ℕ) → called s ++ a ≡ called t ++ b → (s ≡ t) × (a ≡ b)
seat_same s t a b p =
    let e : s ≡ t = sym (seat_of_called s a) ∙ ap seat_of p ∙ seat_of_called t b in
    (e, append_cancel_left (called t) a b (subst (λ (u : Seat). called u ++ a ≡ called t ++ b) e p))

abbrev pub RefusedAt : Seat → List ℕ → TurnRefusal → Type 0
RefusedAt Ruler act y = ActRead sheet_line SheetRead act (Err y)
RefusedAt Hammer act y = ActRead machine_line MachineRead act (Err y)
RefusedAt First act y = ActRead sheet_line SheetRead act (Err y)
RefusedAt Second act y = ActRead sheet_line SheetRead act (Err y)

pub no_turn : (line : List ℕ) → (line ≡ codes "ruler look" → ⊥) → ((s : Seat) (act : List ℕ) → line ≡ called s ++ act → RefusedAt s act NotATurn) → TurnRead line (Err NotATurn)
no_turn line look none = (
  λ t. elim t as (λ u. Written line u → ⊥) [
    | turn.Watch a ↦ λ p. (none Ruler p.0 p.1).0 a p.2
    | turn.Look ↦ look
    | turn.Plain a ↦ λ p. (none Hammer p.0 p.1).0 a p.2
    | turn.First a ↦ λ p. (none First p.0 p.1).0 a p.2
    | turn.Second a ↦ λ p. (none Second p.0 p.1).0 a p.2
  ],
  λ x r. elim r [
    | ruler p ↦ (none Ruler p.0 p.1).1 x p.2
    | hammer p ↦ (none Hammer p.0 p.1).1 x p.2
    | first p ↦ (none First p.0 p.1).1 x p.2
    | second p ↦ (none Second p.0 p.1).1 x p.2
  ],
)

pub no_seat : (line : List ℕ) (o : Option (Seat × Bor (List ℕ))) → o ≡ None → SeatTold line o → TurnRead line (Err NotATurn)
no_seat line o e h =
    let none : (s : Seat) (act : List ℕ) → line ≡ called s ++ act → ⊥ = rw e at h in
    no_turn line (none Ruler (codes "look")) (λ s act p. absurd (none s act p))

only_there : (s : Seat) (act : List ℕ) → RefusedAt s act NotATurn → (t : Seat) (b : List ℕ) → called s ++ act ≡ called t ++ b → RefusedAt t b NotATurn
only_there s act h t b p =
    let e = seat_same s t act b p in
    subst (λ (u : Seat). RefusedAt u b NotATurn) e.0 (subst (λ (l : List ℕ). RefusedAt s l NotATurn) e.1 h)

event_refused : (s : Seat) (act : List ℕ) (x : EventRefusal) → RefusedAt s act (Event x) → Refused (called s ++ act) x
event_refused Ruler act x h = ruler (act, refl, h)
event_refused Hammer act x h = hammer (act, refl, h)
event_refused First act x h = first (act, refl, h)
event_refused Second act x h = second (act, refl, h)

pub refused_at : (s : Seat) (act : List ℕ) (y : TurnRefusal) → (called s ++ act ≡ codes "ruler look" → ⊥) → RefusedAt s act y → TurnRead (called s ++ act) (Err y)
refused_at s act NotATurn look h = no_turn (called s ++ act) look (only_there s act h)
refused_at s act (Event x) look h = event_refused s act x h
