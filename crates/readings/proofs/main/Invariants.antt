use Rattle.std.proofs.Common.{◌+◌, ◌≤◌}
use Rattle.std.specs.Iterator.Adapters.{zip_first}
use Rattle.readings.proofs.main.Given as goal

abbrev pub invariant-loop-number : goal.invariant-loop-number
invariant-loop-number l =
    (goal.iterator-loop-number).can_next l.number-iterator ×
    (goal.iterator-loop-number).is_finite l.number-iterator ×
    (l.same + l.differ + 1 ≤ (zip_first l.number-iterator).start)
