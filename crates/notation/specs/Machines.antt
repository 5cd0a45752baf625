use Rattle.std.specs.Prelude.{◌≡◌, ℕ, ◌^◌, ◌<◌, List, Some, None, Ok, Err, Option, Result, ◌≢◌}
use Rattle.events.specs.declared.refusal.EventRefusal.TheVariants as event
use Rattle.events.specs.declared.word.MachineEvent.{MachineEvent}
use Rattle.events.specs.Machines.{MachineMade}
use Rattle.notation.specs.Digits.{hex_line}
use Rattle.notation.specs.declared.refusal.LineRefusal.{LineRefusal}
use Rattle.notation.specs.declared.refusal.LineRefusal.TheVariants.{CellOver63, KindUnknown, BitNotZero, NotAnEvent}

-- How a word is written: its eight hexadecimal digits.
abbrev pub word_line : ℕ → List ℕ
word_line w = hex_line 8 w

-- What a line says as a word: the word that is so written, or nothing where there is none.
abbrev pub WordTold : List ℕ → Option ℕ → Type 0
WordTold line (Some w) = (w < 2 ^ 32) × (line ≡ word_line w)
WordTold line None = (w : ℕ) → w < 2 ^ 32 → line ≢ word_line w

-- What reading a line answers: what comes of its word, and 61 where it is no word.
abbrev pub MachineRead : List ℕ → Result MachineEvent LineRefusal → Type 0
MachineRead line (Ok m) = line ≡ word_line m.word
MachineRead line (Err CellOver63) = ⊥
MachineRead line (Err KindUnknown) = (w : ℕ) × (WordTold line (Some w) × MachineMade w (Err event.KindUnknown))
MachineRead line (Err BitNotZero) = (w : ℕ) × (WordTold line (Some w) × MachineMade w (Err event.BitNotZero))
MachineRead line (Err NotAnEvent) = WordTold line None
