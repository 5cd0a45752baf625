use Rattle.std.proofs.Common.{replicate}
use Rattle.output.specs.Writing.{Wrote}
use Rattle.ruletext.proofs.faults.show_spaces.Given as goal

abbrev pub invariant-loop : goal.invariant-loop
invariant-loop l = Wrote l.initial.out (replicate l.counter 32) l.out
