use Rattle.std.proofs.Common.{◌≡◌, [], length, vec_items, sym, refl, ap, ◌∙◌, append_assoc, append-nil, arith}
use Rattle.std.specs.Vec.Iter.{into_iter_items}
use Rattle.std.proofs.lemmas.List.{nil_from_length}
use Rattle.session.specs.Histories.{begun, nothing}
use Rattle.session.specs.Sessions.{seated}
use Rattle.session.proofs.Turned.{performed_more}
use Rattle.session.proofs.Laws.{replayed}
use Rattle.session.proofs.script.replay.Goals as goal

pub loop-turn-init : goal.loop-turn-init
loop-turn-init g c =
    let n = ap length c.into_iter-turn-iterator.ensures.into_iter_gives.0 in
    let none : vec_items c.reserve.new.self ≡ [] = c.reserve.ensures.items ∙ c.clear.ensures.items in
    let brought = vec_items c.reserve-2.new.self in
    record {
      taken = refl;
      room = omega (arith, c.in_ok-reserve-2.ensures.ok, c.len-2.ensures, c.args.turns.ok.0, n);
      room_for_replies = omega (arith, c.in_ok-reserve.ensures.ok, c.len.ensures, c.args.turns.ok.0, n);
      stands = λ s st. (begun brought, rw none (nothing (begun brought)), st, refl);
    }

pub loop-turn-preserved : goal.loop-turn-preserved
loop-turn-preserved g c =
    let inv = c.loop-turn.invariant in
    let step = c.in-Some.ensures.steps.0 in
    record {
      taken = rw (append_assoc, ← step) inv.taken;
      room = c.turn-reply.ensures.room _ (omega (arith, inv.room, ap length step));
      room_for_replies = omega (arith, c.push_reserved.ensures.len, c.push_reserved.ensures.capacity, inv.room_for_replies, ap length step);
      stands = λ s st.
          let p = inv.stands s st in
          let q = c.turn-reply.ensures.law s p.0 p.3 p.2 in
          (q.0, rw c.push_reserved.ensures.items (performed_more q.0 c.in-Some.turn c.turn-reply.result p.1 q.1), q.2, q.3);
    }

pub returns-clause-law : goal.returns-clause-law
returns-clause-law g c =
    let past = c.loop-turn.yielded in
    let inv = c.loop-turn.invariant in
    let left = into_iter_items c.loop-turn.turn-iterator in
    let k = c.args.numbers in
    let w = g.L.Observer.rule c.args.watch in
    let o = g.O.Observer.rule c.args.plain in
    let x = g.X.Observer.rule c.args.first in
    let y = g.Y.Observer.rule c.args.second in
    let p = inv.stands (seated k w o x y) (record {
      watching = record { stands = c.new.ensures; answered = tt };
      plain = record { stands = c.new-2.ensures; answered = tt };
      first = record { stands = rw c.new-3.ensures.below at c.new-4.ensures; answered = tt };
      second = record { stands = rw c.new-5.ensures.below at c.new-6.ensures; answered = tt };
    }) in
    let none : left ≡ [] = nil_from_length left (omega (arith, c.in-None.ensures.steps.0, c.loop-turn.turn-iterator.rest.ok.0)) in
    let all : past ≡ vec_items c.args.turns = sym (append-nil past) ∙ rw (← none) inv.taken ∙ c.into_iter-turn-iterator.ensures.into_iter_gives.0 in
    let done = rw (c.reserve-2.ensures.items, all) at p.1 in
    let st = p.2 in
    replayed k w o x y (vec_items c.args.held.now) _ (vec_items c.args.turns) (vec_items c.loop-turn.replies) p.0 done p.3 st.watching.answered st.plain.answered st.first.answered st.second.answered
