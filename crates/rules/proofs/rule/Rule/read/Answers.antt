use Rattle.std.proofs.Common.{Err, refl, ap, ◌∙◌, arith}
use Rattle.std.proofs.lemmas.Result.{err_from_is_err_and}
use Rattle.rules.specs.Outcomes.{too_long, no_word, rejected, a_rule}
use Rattle.rules.proofs.Moved.{grown_formed, reading_refused, reading_done}
use Rattle.rules.proofs.rule.Rule.read.Goals as goal

pub returns-then-text-gt-LONGEST : goal.returns-then-text-gt-LONGEST
returns-then-text-gt-LONGEST g c =
    reading_refused _ _ _ g.met.K.Kind.apart _ _ _ _ _ refl refl (too_long c.if-text-gt-LONGEST.true)

pub returns-in_err-lex : goal.returns-in_err-lex
returns-in_err-lex g c =
    let p = err_from_is_err_and c.from_residual.result c.from_residual.ensures.1 in
    reading_refused _ _ _ g.met.K.Kind.apart _ _ _ _ _ (p.1 ∙ ap Err p.2) refl (no_word (omega arith) c.in_err-lex.ensures)

pub returns-in_err-tree : goal.returns-in_err-tree
returns-in_err-tree g c =
    let p = err_from_is_err_and c.from_residual-in_err-tree.result c.from_residual-in_err-tree.ensures.1 in
    let l = c.in_ok-lex.ensures in
    reading_refused _ _ _ g.met.K.Kind.apart _ _ _ _ _ (p.1 ∙ ap Err p.2) refl (rejected (omega arith) l.0 (rw (← l.1) c.in_err-tree.ensures))

pub returns : goal.returns
returns g c =
    let l = c.in_ok-lex.ensures in
    let (grown, within) = c.in_ok-tree.ensures in
    let formed = grown_formed _ _ grown in
    reading_done _ _ _ g.met.K.Kind.apart _ _ _ _ _ formed c.of.ensures c.len.ensures.value refl (a_rule (omega arith) l.0 grown.rules (omega (arith, formed.size, within.few_nodes)) (omega (arith, grown.operators, within.few_temporal)))
