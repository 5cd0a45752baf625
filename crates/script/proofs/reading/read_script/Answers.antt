use Rattle.std.proofs.Common.{◌≡◌, ◌+◌, length, vec_items, Ok, Err, arith}
use Rattle.std.proofs.lemmas.Grind.{common_steps}
use Rattle.std.proofs.lemmas.Result.{err_from_is_err_and}
use Rattle.script.proofs.Walking.{unread, one_more, bad}
use Rattle.script.proofs.reading.read_script.Goals as goal

pub loop-line-init : goal.loop-line-init
loop-line-init c = unread c.args.text.now (vec_items c.new-turns.result) c.new-line-items.result c.into_iter-line-iterator.result c.new-turns.ensures.items c.into_iter-line-iterator.ensures.into_iter_gives c.new-line-items.ensures.lined

pub returns-in_err-turn-clause-unread : goal.returns-in_err-turn-clause-unread
returns-in_err-turn-clause-unread c =
    let p = err_from_is_err_and c.from_residual.result c.from_residual.ensures.1 in
    let b = c.in_err-turn.field-0.0 in
    let read : c.read_turn.result ≡ Err b.refusal = grind (arith, common_steps) in
    let numbered : b.number ≡ length (vec_items c.loop-line.turns) + 1 = grind (arith, common_steps) in
    rw (p.1, p.2) (bad c.args.text.now (vec_items c.loop-line.turns) c.loop-line.line-iterator c.next.new.self c.in-Some.line.now c.loop-line.invariant c.in-Some.ensures.steps b.number b.refusal numbered (rw read at c.read_turn.ensures.holds))

pub loop-line-preserved : goal.loop-line-preserved
loop-line-preserved c =
    let read : c.read_turn.result ≡ Ok c.in_ok-turn.turn = grind (arith, common_steps) in
    rw c.in_ok-push.ensures.items (one_more c.args.text.now (vec_items c.loop-line.turns) c.loop-line.line-iterator c.next.new.self c.in-Some.line.now c.loop-line.invariant c.in-Some.ensures.steps c.in_ok-turn.turn (rw read at c.read_turn.ensures.holds))
