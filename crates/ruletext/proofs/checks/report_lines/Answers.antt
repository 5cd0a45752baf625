use Rattle.std.proofs.Common.{sym, subst}
use Rattle.lines.specs.Lines.{Lined}
use Rattle.lines.specs.Walks.{lines_left}
use Rattle.lines.proofs.Walking.{all_walked}
use Rattle.ruletext.proofs.Telling.{at_last}
use Rattle.ruletext.proofs.checks.report_lines.Goals as goal

pub returns : goal.returns
returns g c =
    let lined = subst (λ s. Lined c.args.text.now (lines_left s)) (sym c.into_iter-line-iterator.ensures.into_iter_gives) c.new-line-items.ensures.lined in
    at_last _ _ g.met.K.Kind.apart _ _ _ _ (all_walked _ _ _ c.next.new.self _ _ lined c.loop-line.yielded_by c.in-None.is c.next.ensures.steps) c.loop-line.invariant
