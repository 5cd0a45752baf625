use Rattle.std.proofs.Common.{[], ◌∷◌, ◌++◌, refl}
use Rattle.std.proofs.lemmas.Result.{err_from_is_err_and}
use Rattle.bench.specs.Log.{Take, grown}
use Rattle.bench.specs.Calls.{LookStands}
use Rattle.linewatch.proofs.Seen.{took, step_is}
use Rattle.linewatch.proofs.take_line.Goals as goal

pub returns-in_err-take : goal.returns-in_err-take
returns-in_err-take g c n rule l st =
    let p = err_from_is_err_and c.from_residual-in_err-take.result c.from_residual-in_err-take.ensures.1 in
    let q = c.in_err-take.ensures in
    rw (p.1, p.2) (c.in_ok-event.event, c.in_ok-event.ensures, ((q.law n rule l st).0.settled.refused c.in_err-take.field-0.0).0 refl, q.same, refl)

pub returns-in-Some : goal.returns-in-Some
returns-in-Some g c n rule l st =
    let e = c.in_ok-event.event in
    let q = c.in_ok-take.ensures.law n rule l st in
    let t = took (LookStands g.O.Observer.rule g.O.Observer.rest) n rule l e c.take.new.self q.0 q.1 in
    (e, c.in_ok-event.ensures, t.0, t.2, (c.in-Some.ensures n rule (grown l (Take e)) t.2 t.1, refl))

pub returns : goal.returns
returns g c n rule l st =
    let e = c.in_ok-event.event in
    let q = c.in_ok-take.ensures.law n rule l st in
    let t = took (LookStands g.O.Observer.rule g.O.Observer.rest) n rule l e c.take.new.self q.0 q.1 in
    (e, c.in_ok-event.ensures, t.0, t.2, step_is rule (l.run ++ (e ∷ [])) e c.args.row.now c.follow.new.self c.follow.result (c.in_default.ensures n rule (grown l (Take e)) t.2 t.1) c.follow.ensures.value c.follow.ensures.after)
