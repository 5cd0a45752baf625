use Rattle.std.proofs.Common.{◌≤◌}
use Rattle.readings.proofs.splits.open_brackets.Given as goal

abbrev pub invariant-loop-word : goal.invariant-loop-word
invariant-loop-word l = l.open ≤ l.word-index
