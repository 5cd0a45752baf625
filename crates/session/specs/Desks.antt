-- How four benches stand at their histories, and the law of one turn.
use Rattle.std.specs.Prelude.{◌≡◌, ℕ, Bool, List, Option}
use Rattle.events.specs.declared.sheet.SheetEvent.{SheetEvent}
use Rattle.bench.specs.declared.slip.Slip.{Slip}
use Rattle.answers.specs.declared.Reply.{Reply}
use Rattle.bench.specs.declared.looking.LookBench.{LookBench}
use Rattle.bench.specs.Log.{Log, fresh, Exchange, log_of}
use Rattle.session.specs.declared.turn.Turn.{Turn}
use Rattle.session.specs.declared.desk.Desk.{Desk}
use Rattle.session.specs.Acts.{AllAnswered}
use Rattle.session.specs.Histories.{Histories, Noted}

-- a bench's number, and its observer's rule
pub record Seat (E : Type 0) : Type 0 where
  pub number : ℕ
  pub rule : List E → Bool

-- the seats of the bench with look, of the plain one, and of the two over flow ports
pub record Seats (E F : Type 0) : Type 0 where
  pub watch : Seat E
  pub plain : Seat F
  pub first : Seat SheetEvent
  pub second : Seat SheetEvent

-- how benches stand at logs
abbrev pub Standing : Type 0 → Type 0 → Type 1
Standing E B = ℕ → (List E → Bool) → B → Log E → Type 0

-- a bench stands at its history, and each call of it was answered as its log settles
pub record StandsAfter {E B : Type 0} (S : Standing E B) (s : Seat E) (b : B) (h : List (Exchange E)) : Type 0 where
  pub stands : S s.number s.rule b (log_of s.number h)
  pub answered : AllAnswered s.number s.rule fresh h

-- all four benches stand at their histories
pub record DeskStands {E F L P X Y : Type 0} (W : Standing E (LookBench L)) (Q : Standing F P) (R : Standing SheetEvent X) (S : Standing SheetEvent Y) (s : Seats E F) (d : Desk L P X Y) (h : Histories E F) : Type 0 where
  pub watching : StandsAfter W s.watch d.watch h.watch
  pub plain : StandsAfter Q s.plain d.plain h.plain
  pub first : StandsAfter R s.first d.first h.first
  pub second : StandsAfter S s.second d.second h.second

-- whatever histories the benches stand at, a turn with its reply adds to them what it does, and they stand there
abbrev pub TurnLaw : {E F L P X Y : Type 0} → Standing E (LookBench L) → Standing F P → Standing SheetEvent X → Standing SheetEvent Y → Desk L P X Y → List Slip → Turn E F → Option Reply → Desk L P X Y → List Slip → Type 0
TurnLaw {E} {F} W Q R S d held u r d' held' = (s : Seats E F) (h : Histories E F) → held ≡ h.held → DeskStands W Q R S s d h → (h₂ : Histories E F) × Noted h u r h₂ × DeskStands W Q R S s d' h₂ × (held' ≡ h₂.held)
