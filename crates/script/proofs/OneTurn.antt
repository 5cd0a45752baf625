-- A line has one reading.
use Rattle.std.proofs.Common.{◌≡◌, ℕ, ◌⊎◌, List, ◌++◌, Ok, Err, codes, Result, MatchResult, IsOkAnd, sym, refl, ap, ◌∙◌, subst, inl, inr}
use Rattle.events.specs.declared.refusal.EventRefusal.{EventRefusal}
use Rattle.events.specs.declared.sheet.SheetEvent.{SheetEvent}
use Rattle.events.specs.declared.word.MachineEvent.{MachineEvent}
use Rattle.notation.specs.Once.{sheet_once, machine_once}
use Rattle.notation.specs.Sheets.{sheet_line, SheetRead}
use Rattle.notation.specs.Machines.{MachineRead}
use Rattle.notation.specs.declared.refusal.LineRefusal.{LineRefusal}
use Rattle.session.specs.declared.turn.Act.{Act}
use Rattle.session.specs.declared.turn.Turn.{Turn}
use Rattle.session.specs.declared.turn.Turn.TheVariants as turn
use Rattle.script.specs.Acts.{ActWritten, ActRead, Exactly}
use Rattle.script.specs.Seats.{called}
use Rattle.script.specs.Turns.{machine_line, Written, Refused, ruler, hammer, first, second, TurnRead}
use Rattle.script.specs.declared.refusal.TurnRefusal.{TurnRefusal}
use Rattle.script.specs.declared.refusal.TurnRefusal.TheVariants.{NotATurn, Event}
use Rattle.script.specs.declared.seat.Seat.{Seat}
use Rattle.script.specs.declared.seat.Seat.TheVariants.{Ruler, Hammer, First, Second}
use Rattle.script.proofs.Seating.{seat_same, RefusedAt, refused_at}
use Rattle.script.proofs.OneAct.{act_once, no_look}

abbrev pub Turned : Type 0
Turned = Result (Turn SheetEvent MachineEvent) TurnRefusal

abbrev lifted : {E : Type 0} → (Act E → Turn SheetEvent MachineEvent) → Result (Act E) TurnRefusal → Turned
lifted f (Ok a) = Ok (f a)
lifted f (Err y) = Err y

-- an act at a bench, or the refusal of its event
record Acted {E : Type 0} (reads : List ℕ → Result (Act E) TurnRefusal → Type 0) (f : Act E → Turn SheetEvent MachineEvent) (act : List ℕ) (r : Turned) : Type 0 where
  done : Result (Act E) TurnRefusal
  read : reads act done
  told : r ≡ lifted f done
  some : done ≡ Err NotATurn → ⊥

abbrev ReadAt : Seat → List ℕ → Turned → Type 0
ReadAt Ruler act r = ((act ≡ codes "look") × (r ≡ Ok turn.Look)) ⊎ Acted (ActRead sheet_line SheetRead) turn.Watch act r
ReadAt Hammer act r = Acted (ActRead machine_line MachineRead) turn.Plain act r
ReadAt First act r = Acted (ActRead sheet_line SheetRead) turn.First act r
ReadAt Second act r = Acted (ActRead sheet_line SheetRead) turn.Second act r

record Placed (line : List ℕ) (r : Turned) : Type 0 where
  seat : Seat
  act : List ℕ
  whole : line ≡ called seat ++ act
  here : ReadAt seat act r

acted : {E : Type 0} (reads : List ℕ → Result (Act E) TurnRefusal → Type 0) (f : Act E → Turn SheetEvent MachineEvent) (act : List ℕ) (a : Act E) → reads act (Ok a) → Acted reads f act (Ok (f a))
acted reads f act a h = record { done = Ok a; read = h; told = refl; some = λ e. (cc) }

acted_refused : {E : Type 0} (reads : List ℕ → Result (Act E) TurnRefusal → Type 0) (f : Act E → Turn SheetEvent MachineEvent) (act : List ℕ) (x : EventRefusal) → reads act (Err (Event x)) → Acted reads f act (Err (Event x))
acted_refused reads f act x h = record { done = Err (Event x); read = h; told = refl; some = λ e. (cc) }

written_placed : (line : List ℕ) (t : Turn SheetEvent MachineEvent) → Written line t → Placed line (Ok t)
written_placed line (turn.Watch a) p = record { seat = Ruler; act = p.0; whole = p.1; here = inr (acted (ActRead sheet_line SheetRead) turn.Watch p.0 a p.2) }
written_placed line turn.Look p = record { seat = Ruler; act = codes "look"; whole = p; here = inl (refl, refl) }
written_placed line (turn.Plain a) p = record { seat = Hammer; act = p.0; whole = p.1; here = acted (ActRead machine_line MachineRead) turn.Plain p.0 a p.2 }
written_placed line (turn.First a) p = record { seat = First; act = p.0; whole = p.1; here = acted (ActRead sheet_line SheetRead) turn.First p.0 a p.2 }
written_placed line (turn.Second a) p = record { seat = Second; act = p.0; whole = p.1; here = acted (ActRead sheet_line SheetRead) turn.Second p.0 a p.2 }

refused_placed : (line : List ℕ) (x : EventRefusal) → Refused line x → Placed line (Err (Event x))
refused_placed line x (ruler p) = record { seat = Ruler; act = p.0; whole = p.1; here = inr (acted_refused (ActRead sheet_line SheetRead) turn.Watch p.0 x p.2) }
refused_placed line x (hammer p) = record { seat = Hammer; act = p.0; whole = p.1; here = acted_refused (ActRead machine_line MachineRead) turn.Plain p.0 x p.2 }
refused_placed line x (first p) = record { seat = First; act = p.0; whole = p.1; here = acted_refused (ActRead sheet_line SheetRead) turn.First p.0 x p.2 }
refused_placed line x (second p) = record { seat = Second; act = p.0; whole = p.1; here = acted_refused (ActRead sheet_line SheetRead) turn.Second p.0 x p.2 }

abbrev pub Single : {A : Type 0} → (A → Type 0) → Type 0
Single {A} P = (x y : A) → P x → P y → x ≡ y

acted_once : {E : Type 0} (W : List ℕ → Result (Act E) TurnRefusal → Type 0) (f : Act E → Turn SheetEvent MachineEvent) (act : List ℕ) → Single (W act) → (r s : Turned) → Acted W f act r → Acted W f act s → r ≡ s
acted_once W f act single r s p q = p.told ∙ (ap (lifted f) (single p.done q.done p.read q.read) ∙ sym q.told)

sheet_act_once : (act : List ℕ) → Single (ActRead sheet_line SheetRead act)
sheet_act_once act = act_once sheet_line SheetRead (λ x. refl) sheet_once act

looked : (act : List ℕ) (r : Turned) → act ≡ codes "look" → Acted (ActRead sheet_line SheetRead) turn.Watch act r → ⊥
looked act r e p = p.some (no_look sheet_line SheetRead act p.done p.read e)

at_once : (seat : Seat) (act : List ℕ) (r s : Turned) → ReadAt seat act r → ReadAt seat act s → r ≡ s
at_once Ruler act r s (inl p) (inl q) = p.1 ∙ sym q.1
at_once Ruler act r s (inl p) (inr q) = absurd (looked act s p.0 q)
at_once Ruler act r s (inr p) (inl q) = absurd (looked act r q.0 p)
at_once Ruler act r s (inr p) (inr q) = acted_once (ActRead sheet_line SheetRead) turn.Watch act (sheet_act_once act) r s p q
at_once Hammer act r s p q = acted_once (ActRead machine_line MachineRead) turn.Plain act (act_once machine_line MachineRead (λ x. refl) machine_once act) r s p q
at_once First act r s p q = acted_once (ActRead sheet_line SheetRead) turn.First act (sheet_act_once act) r s p q
at_once Second act r s p q = acted_once (ActRead sheet_line SheetRead) turn.Second act (sheet_act_once act) r s p q

placed_once : (line : List ℕ) (r s : Turned) → Placed line r → Placed line s → r ≡ s
placed_once line r s p q =
    let e = seat_same p.seat q.seat p.act q.act (sym p.whole ∙ q.whole) in
    at_once q.seat q.act r s (subst (λ (u : Seat). ReadAt u q.act r) e.0 (subst (λ (l : List ℕ). ReadAt p.seat l r) e.1 p.here)) q.here

turn_once : (line : List ℕ) (r s : Turned) → TurnRead line r → TurnRead line s → r ≡ s
turn_once line (Ok t) (Ok u) p q = placed_once line (Ok t) (Ok u) (written_placed line t p) (written_placed line u q)
turn_once line (Ok t) (Err NotATurn) p q = absurd (q.0 t p)
turn_once line (Ok t) (Err (Event y)) p q = placed_once line (Ok t) (Err (Event y)) (written_placed line t p) (refused_placed line y q)
turn_once line (Err NotATurn) (Ok u) p q = absurd (p.0 u q)
turn_once line (Err NotATurn) (Err NotATurn) p q = refl
turn_once line (Err NotATurn) (Err (Event y)) p q = absurd (p.1 y q)
turn_once line (Err (Event x)) (Ok u) p q = placed_once line (Err (Event x)) (Ok u) (refused_placed line x p) (written_placed line u q)
turn_once line (Err (Event x)) (Err NotATurn) p q = absurd (q.1 x p)
turn_once line (Err (Event x)) (Err (Event y)) p q = placed_once line (Err (Event x)) (Err (Event y)) (refused_placed line x p) (refused_placed line y q)

pub turn_exact : (line : List ℕ) (r : Turned) → TurnRead line r → Exactly (TurnRead line) r
turn_exact line r h = record { holds = h; only = λ s k. turn_once line s r k h }

-- what `map` makes of an act
lifted_by : {E : Type 0} (f : Act E → Turn SheetEvent MachineEvent) (done : Result (Act E) TurnRefusal) (r : Turned) → MatchResult done (λ a. IsOkAnd r (λ t. t ≡ f a)) (λ y. r ≡ Err y) → r ≡ lifted f done
lifted_by f (Ok a) (Ok t) m = ap Ok m
lifted_by f (Ok a) (Err y) m = absurd m
lifted_by f (Err y) r m = m

module _ {E : Type 0} (written : E → List ℕ) (means : List ℕ → Result E LineRefusal → Type 0) (f : Act E → Turn SheetEvent MachineEvent) (seat : Seat) (line act : List ℕ) (as_turn : (a : Act E) → ActWritten written act a → Written (called seat ++ act) (f a)) (as_refused : (y : TurnRefusal) → ActRead written means act (Err y) → RefusedAt seat act y) (whole : line ≡ called seat ++ act) (look : line ≡ codes "ruler look" → ⊥) where
  turn_at : (done : Result (Act E) TurnRefusal) → ActRead written means act done → TurnRead (called seat ++ act) (lifted f done)
  turn_at (Ok a) h = as_turn a h
  turn_at (Err y) h = refused_at seat act y (λ e. look (whole ∙ e)) (as_refused y h)

  -- a turn at a bench, or why it is none
  pub seated : (done : Result (Act E) TurnRefusal) (r : Turned) → ActRead written means act done → MatchResult done (λ a. IsOkAnd r (λ t. t ≡ f a)) (λ y. r ≡ Err y) → Exactly (TurnRead line) r
  seated done r h m = turn_exact line r (rw (whole, lifted_by f done r m) (turn_at done h))
