use Rattle.std.proofs.Common.{◌≡◌, ◌++◌, arith}
use Rattle.script.specs.Seats.{called}
use Rattle.script.specs.declared.seat.Seat.TheVariants.{Ruler, Hammer, First, Second}
use Rattle.script.proofs.seat.read_seat.Goals as goal

pub returns : goal.returns
returns c s act = elim s as (λ t. c.args.line.now ≡ called t ++ act → ⊥) [
  | Ruler ↦ c.loop-seat.invariant 0 act (omega arith)
  | Hammer ↦ c.loop-seat.invariant 1 act (omega arith)
  | First ↦ c.loop-seat.invariant 2 act (omega arith)
  | Second ↦ c.loop-seat.invariant 3 act (omega arith)
]
