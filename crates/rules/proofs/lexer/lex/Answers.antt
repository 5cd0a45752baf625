use Rattle.std.proofs.Common.{◌≡◌, length, Ok, Err, ap, ◌∙◌, arith}
use Rattle.std.proofs.lemmas.Grind.{common_steps}
use Rattle.std.proofs.lemmas.Result.{err_from_is_err_and}
use Rattle.rules.proofs.Sofar.{spoils, at_last, one_more}
use Rattle.rules.proofs.lexer.lex.Goals as goal

pub loop-piece-preserved : goal.loop-piece-preserved
loop-piece-preserved g c =
    let k = c.loop-piece.invariant in
    let n = c.in-Some.ensures in
    let p = c.in-Some.piece in
    let taken = rw k.same at n.steps.1 in
    let read : c.meaning.result ≡ Ok c.in_ok-word.word = grind (arith, common_steps) in
    record {
      can_next = tt;
      is_finite = tt;
      same = n.steps.0 ∙ k.same;
      sofar = rw (c.push.ensures.words, c.push.ensures.places) (one_more _ _ _ _ _ _ k.sofar p _ _ taken (omega (arith, (n.goes.on tt).2, ap length n.steps.0)) (rw read at c.meaning.ensures));
      end = c.push.ensures.end ∙ k.end;
    }

pub returns-in_err-word : goal.returns-in_err-word
returns-in_err-word g c =
    let k = c.loop-piece.invariant in
    let p = c.in-Some.piece in
    let taken = rw k.same at c.in-Some.ensures.steps.1 in
    let e = err_from_is_err_and c.from_residual.result c.from_residual.ensures.1 in
    let fault = c.in_err-word.field-0.0 in
    let read : c.meaning.result ≡ Err fault.refusal = grind (arith, common_steps) in
    let placed : fault.place ≡ p.place = grind (arith, common_steps) in
    rw (e.1, e.2, placed) (spoils _ _ _ _ _ _ k.sofar p c.next.new.self.at _ taken (rw read at c.meaning.ensures))

pub returns : goal.returns
returns g c =
    let k = c.loop-piece.invariant in
    let taken = rw k.same at c.in-None.ensures.steps.1 in
    (at_last _ _ _ _ _ _ k.sofar c.next.new.self.at taken, k.end)
