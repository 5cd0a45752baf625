use Rattle.std.specs.Prelude.{◌≡◌, ℕ, ◌*◌, ◌/◌, ◌%◌, ◌^◌, ◌<◌, ◌≤◌, cond, List, Ok, Err, codes, Result, ◌==◌}
use Rattle.std.proofs.Common.{lit<}
use Rattle.events.specs.Cells.{cell_of}
use Rattle.events.specs.Rooms.{room}
use Rattle.events.specs.declared.refusal.EventRefusal.{EventRefusal}
use Rattle.events.specs.declared.refusal.EventRefusal.TheVariants.{CellOver63, KindUnknown, BitNotZero}
use Rattle.events.specs.declared.word.MachineEvent.{MachineEvent}
use Rattle.events.specs.declared.machine.Action.{Action}
use Rattle.events.specs.declared.machine.Action.TheVariants as act
use Rattle.events.specs.declared.machine.MachineName.{MachineName}
use Rattle.events.specs.declared.machine.MachineName.TheVariants.{Strike, Feed, Park, Jam, Cover}

-- What comes of a word: the event that it is, a refusal from kind 5 on, or else one where a bit is set that the kind does not use.
abbrev pub MachineMade : ℕ → Result MachineEvent EventRefusal → Type 0
MachineMade word (Ok m) = m.word ≡ word
MachineMade word (Err CellOver63) = ⊥
MachineMade word (Err KindUnknown) = 5 ≤ word / 2 ^ 29
MachineMade word (Err BitNotZero) = (word / 2 ^ 29 < 5) × (room (word / 2 ^ 29) ≤ word % 2 ^ 29)

-- The number of a name.
abbrev pub machine_number : MachineName → ℕ
machine_number Strike = 0
machine_number Feed = 1
machine_number Park = 2
machine_number Jam = 3
machine_number Cover = 4

-- The name with a number below 5.
abbrev pub machine_name_at : ℕ → MachineName
machine_name_at n = cond (n == 0) Strike (cond (n == 1) Feed (cond (n == 2) Park (cond (n == 3) Jam Cover)))

-- The name of a machine event: bits 31 to 29 are its number.
abbrev pub machine_name : MachineEvent → MachineName
machine_name m = machine_name_at (m.word / 2 ^ 29)

-- The text of a name.
abbrev pub machine_text : MachineName → List ℕ
machine_text Strike = codes "strike"
machine_text Feed = codes "feed"
machine_text Park = codes "park"
machine_text Jam = codes "jam"
machine_text Cover = codes "cover"

-- What was done, by its name and its word: bits 5 to 0 are the dots of a strike, and bit 0 is set in the feed of a sheet.
abbrev pub action_at : MachineName → ℕ → Action
action_at Strike word = act.Strike (cell_of word)
action_at Feed word = cond (word % 2 == 0) act.FeedLine act.FeedSheet
action_at Park word = act.Park
action_at Jam word = act.Jam
action_at Cover word = act.Cover

-- What a machine event tells.
abbrev pub action_of : MachineEvent → Action
action_of m = action_at (machine_name m) m.word

-- A machine event of each name: its kind, and no other bit.
abbrev pub machine_example : MachineName → MachineEvent
machine_example Strike = record { word = 0 * 2 ^ 29; known = lit< tt; clean = lit< tt }
machine_example Feed = record { word = 1 * 2 ^ 29; known = lit< tt; clean = lit< tt }
machine_example Park = record { word = 2 * 2 ^ 29; known = lit< tt; clean = lit< tt }
machine_example Jam = record { word = 3 * 2 ^ 29; known = lit< tt; clean = lit< tt }
machine_example Cover = record { word = 4 * 2 ^ 29; known = lit< tt; clean = lit< tt }
