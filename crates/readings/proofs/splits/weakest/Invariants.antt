use Rattle.std.proofs.Common.{◌<◌, ◌≤◌, IfSome}
use Rattle.readings.proofs.splits.weakest.Given as goal

abbrev pub invariant-loop-i : goal.invariant-loop-i
invariant-loop-i l = (l.open ≤ l.i) × IfSome l.found (λ s. (s.first < l.i) × (s.last < l.i))
