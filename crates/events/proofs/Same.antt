-- Two cells with the same dots are one, and two machine events with the same word.
use Rattle.std.proofs.Common.{◌≡◌, ◌/◌, ◌%◌, ◌^◌, ◌<◌}
use Rattle.std.specs.Coded.{le_prop}
use mathlib.Core.HLevel.{is_prop→PathP}
use Rattle.events.specs.declared.cell.Cell.{Cell}
use Rattle.events.specs.declared.word.MachineEvent.{MachineEvent}
use Rattle.events.specs.Rooms.{room}

pub same : (c d : Cell) → c.dots ≡ d.dots → c ≡ d
same c d e = λ i. record { dots = e i; six = is_prop→PathP (λ j. e j < 64) (λ j. le_prop) c.six d.six i }

pub same_event : (a b : MachineEvent) → a.word ≡ b.word → a ≡ b
same_event a b e = λ i. record {
  word = e i;
  known = is_prop→PathP (λ j. e j / 2 ^ 29 < 5) (λ j. le_prop) a.known b.known i;
  clean = is_prop→PathP (λ j. e j % 2 ^ 29 < room (e j / 2 ^ 29)) (λ j. le_prop) a.clean b.clean i;
}
