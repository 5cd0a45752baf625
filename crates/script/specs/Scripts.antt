-- How a text is a script.
use Rattle.std.specs.Prelude.{◌≡◌, ℕ, ◌+◌, ◌<◌, List, [], ◌∷◌, ◌++◌, length, Err}
use Rattle.events.specs.declared.sheet.SheetEvent.{SheetEvent}
use Rattle.events.specs.declared.word.MachineEvent.{MachineEvent}
use Rattle.session.specs.declared.turn.Turn.{Turn}
use Rattle.lines.specs.Lines.{Cut}
use Rattle.script.specs.Turns.{Written, TurnRead}
use Rattle.script.specs.declared.refusal.TurnRefusal.{TurnRefusal}
use Rattle.script.specs.declared.reading.ScriptError.{ScriptError}
use Rattle.script.specs.declared.reading.ScriptError.TheVariants.{Memory, Line}

-- The first lines of a text are these turns, and this is the rest of it.
pub data Begins (text : List ℕ) : List (Turn SheetEvent MachineEvent) → List ℕ → Type 0 where
  none : Begins text [] text
  more : (turns : List (Turn SheetEvent MachineEvent)) (rest line after : List ℕ) (t : Turn SheetEvent MachineEvent) → Begins text turns rest → 0 < length rest → Cut rest line after → Written line t → Begins text (turns ++ (t ∷ [])) after

-- The lines before the one with this number are turns, and that one is refused so.
pub record BadAt (text : List ℕ) (number : ℕ) (refusal : TurnRefusal) : Type 0 where
  pub turns : List (Turn SheetEvent MachineEvent)
  pub rest : List ℕ
  pub line : List ℕ
  pub after : List ℕ
  pub before : Begins text turns rest
  pub some : 0 < length rest
  pub cut : Cut rest line after
  pub numbered : number ≡ length turns + 1
  pub refused : TurnRead line (Err refusal)

-- Where memory runs out nothing is said of the text.
abbrev pub Unread : List ℕ → ScriptError → Type 0
Unread text Memory = Unit {0}
Unread text (Line b) = BadAt text b.number b.refusal
