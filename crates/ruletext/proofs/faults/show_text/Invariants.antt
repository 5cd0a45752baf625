use Rattle.std.proofs.Common.{map, take}
use Rattle.output.specs.Writing.{Wrote}
use Rattle.ruletext.specs.Reports.{printing}
use Rattle.ruletext.proofs.faults.show_text.Given as goal

abbrev pub invariant-loop-b : goal.invariant-loop-b
invariant-loop-b l = Wrote l.initial.out (map printing (take l.b-index l.text)) l.out
