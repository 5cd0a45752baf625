use Rattle.std.proofs.Common.{map}
use Rattle.ruletext.proofs.Telling.{Sofar}
use Rattle.ruletext.proofs.checks.report_lines.Given as goal

abbrev pub invariant-loop-line : goal.invariant-loop-line
invariant-loop-line g l = Sofar g.K.Kind.NAMES g.K.Kind.text (map (λ x. x.now) l.yielded) l.initial.out l.out
