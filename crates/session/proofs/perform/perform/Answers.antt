use Rattle.std.proofs.Common.{◌≡◌, arith, rules}
use Rattle.answers.specs.declared.Reply.TheVariants.{Taken, Told}
use Rattle.bench.specs.Calls.{take_reply, ask_reply}
use Rattle.session.proofs.Acted.{told_is, act_opened, act_unopened, act_take, act_ask, act_closed, act_unclosed, act_none}
use Rattle.session.proofs.perform.perform.Goals as goal

pub returns-in-Ok-clause-law : goal.returns-in-Ok-clause-law
returns-in-Ok-clause-law g c = rw (c.in-Open.is, c.bench.ensures, c.run.ensures, c.push_reserved.ensures.items) (act_opened _ _ _ c.in-Ok.slip c.in-Ok.ensures.law)

pub returns-in-Err-clause-law : goal.returns-in-Err-clause-law
returns-in-Err-clause-law g c = rw c.in-Open.is (act_unopened _ _ _ _ c.in-Err.ensures.law)

pub returns-in-Take-clause-law : goal.returns-in-Take-clause-law
returns-in-Take-clause-law g c =
    let is : c.map_or_else.result ≡ take_reply c.take.result = told_is (λ _. Taken) c.take.result _ c.map_or_else.ensures (λ x p. search rules) (λ x p. search rules) in
    rw (c.in-Take.is, is) (act_take _ _ _ _ _ c.take.ensures.law)

pub returns-in-Ask-clause-law : goal.returns-in-Ask-clause-law
returns-in-Ask-clause-law g c =
    let is : c.map_or_else-in-Ask.result ≡ ask_reply c.ask.result = told_is Told c.ask.result _ c.map_or_else-in-Ask.ensures (λ x p. search rules) (λ x p. search rules) in
    rw (c.in-Ask.is, is) (act_ask _ _ _ _ c.ask.ensures)

pub returns-then-k-len-clause-law : goal.returns-then-k-len-clause-law
returns-then-k-len-clause-law g c = rw c.in-Close.is (act_none _ _ _ (omega (arith, c.args.held.now.ok.0, c.len.ensures)))

pub returns-in-Ok-close-clause-law : goal.returns-in-Ok-close-clause-law
returns-in-Ok-close-clause-law g c = rw (c.in-Close.is, c.remove.ensures.items) (act_closed _ _ _ _ _ _ (omega (arith, c.args.held.now.ok.0, c.len.ensures)) c.remove.ensures.value c.in-Ok-close.ensures.law)

pub returns-in-Err-close-clause-law : goal.returns-in-Err-close-clause-law
returns-in-Err-close-clause-law g c =
    let there = rw c.unwrap.ensures at c.insert.ensures.items in
    rw (c.in-Close.is, there, c.remove.ensures.items, c.in-Err-close.ensures.back) (act_unclosed _ _ _ _ _ _ (omega (arith, c.args.held.now.ok.0, c.len.ensures)) c.remove.ensures.value c.in-Err-close.ensures.law)
