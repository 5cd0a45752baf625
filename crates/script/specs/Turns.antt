-- How a turn is written on a line.
use Rattle.std.specs.Prelude.{◌≡◌, ℕ, List, Ok, Err, codes, Result}
use Rattle.events.specs.declared.refusal.EventRefusal.{EventRefusal}
use Rattle.events.specs.declared.sheet.SheetEvent.{SheetEvent}
use Rattle.events.specs.declared.word.MachineEvent.{MachineEvent}
use Rattle.notation.specs.Sheets.{sheet_line, SheetRead}
use Rattle.notation.specs.Machines.{word_line, MachineRead}
use Rattle.session.specs.declared.turn.Turn.{Turn}
use Rattle.session.specs.declared.turn.Turn.TheVariants.{Watch, Look, Plain, First, Second}
use Rattle.script.specs.Acts.{After, ActWritten, TakeRefused}
use Rattle.script.specs.declared.refusal.TurnRefusal.{TurnRefusal}
use Rattle.script.specs.declared.refusal.TurnRefusal.TheVariants.{NotATurn, Event}

-- How a machine event is written.
abbrev pub machine_line : MachineEvent → List ℕ
machine_line m = word_line m.word

-- How a turn is written: the name of its bench, a space, and what is done there.
abbrev pub Written : List ℕ → Turn SheetEvent MachineEvent → Type 0
Written line (Watch a) = After (codes "ruler ") line (λ act. ActWritten sheet_line act a)
Written line Look = line ≡ codes "ruler look"
Written line (Plain a) = After (codes "hammer ") line (λ act. ActWritten machine_line act a)
Written line (First a) = After (codes "first ") line (λ act. ActWritten sheet_line act a)
Written line (Second a) = After (codes "second ") line (λ act. ActWritten sheet_line act a)

-- A take at a bench, of an event that is refused.
pub data Refused (line : List ℕ) (x : EventRefusal) : Type 0 where
  ruler : After (codes "ruler ") line (λ act. TakeRefused SheetRead act x) → Refused line x
  hammer : After (codes "hammer ") line (λ act. TakeRefused MachineRead act x) → Refused line x
  first : After (codes "first ") line (λ act. TakeRefused SheetRead act x) → Refused line x
  second : After (codes "second ") line (λ act. TakeRefused SheetRead act x) → Refused line x

-- What reading a line answers: the turn that is so written, the refusal of its event, or that it is neither.
abbrev pub TurnRead : List ℕ → Result (Turn SheetEvent MachineEvent) TurnRefusal → Type 0
TurnRead line (Ok t) = Written line t
TurnRead line (Err (Event x)) = Refused line x
TurnRead line (Err NotATurn) = ((t : Turn SheetEvent MachineEvent) → Written line t → ⊥) × ((x : EventRefusal) → Refused line x → ⊥)
