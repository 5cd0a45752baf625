use Rattle.std.proofs.Common.{◌≡◌, ◌++◌, length, vec_items}
use Rattle.std.specs.Vec.Iter.{into_iter_items}
use Rattle.bench.specs.Calls.{Stands, LookStands}
use Rattle.session.specs.Places.{HasRoom}
use Rattle.session.specs.Histories.{Histories, begun, Performed}
use Rattle.session.specs.Desks.{Seats, DeskStands}
use Rattle.session.proofs.Laws.{over_flow}
use Rattle.session.proofs.script.replay.Given as goal

abbrev pub invariant-loop-turn : goal.invariant-loop-turn
invariant-loop-turn g l =
    let past = l.yielded in
    let left = into_iter_items l.turn-iterator in
    let brought = vec_items l.initial.held in
    record {
      taken : past ++ left ≡ into_iter_items l.initial.turn-iterator;
      room : HasRoom l.held (length left);
      room_for_replies : HasRoom l.replies (length left);
      stands : (s : Seats g.row.L-Event.Denot g.row.O-Event.Denot) → DeskStands (LookStands g.L.Observer.rule g.L.Observer.rest) (Stands g.O.Observer.rule g.O.Observer.rest) (Stands (over_flow g.X.Observer.rule) (over_flow g.X.Observer.rest)) (Stands (over_flow g.Y.Observer.rule) (over_flow g.Y.Observer.rest)) s l.initial.desk (begun brought) →
          (h : Histories g.row.L-Event.Denot g.row.O-Event.Denot) × Performed (begun brought) past (vec_items l.replies) h × DeskStands (LookStands g.L.Observer.rule g.L.Observer.rest) (Stands g.O.Observer.rule g.O.Observer.rest) (Stands (over_flow g.X.Observer.rule) (over_flow g.X.Observer.rest)) (Stands (over_flow g.Y.Observer.rule) (over_flow g.Y.Observer.rest)) s l.desk h × (vec_items l.held ≡ h.held);
    }
