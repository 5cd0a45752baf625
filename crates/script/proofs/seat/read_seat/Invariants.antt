use Rattle.std.proofs.Common.{◌≡◌, ℕ, ◌<◌, List, ◌++◌, get_or}
use Rattle.script.specs.Seats.{called}
use Rattle.script.specs.declared.seat.Seat.TheVariants.{Ruler}
use Rattle.script.proofs.seat.read_seat.Given as goal

abbrev pub invariant-loop-seat : goal.invariant-loop-seat
invariant-loop-seat l = (k : ℕ) (act : List ℕ) → k < l.seat-index → l.line ≡ called (get_or l.seat-items k Ruler) ++ act → ⊥
