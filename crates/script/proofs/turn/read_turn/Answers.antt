use Rattle.std.proofs.Common.{rules, ◌≡◌, None, Ok, Err, refl, arith}
use Rattle.std.proofs.lemmas.Grind.{common_steps}
use Rattle.std.proofs.lemmas.Result.{err_from_is_err_and}
use Rattle.notation.specs.Sheets.{sheet_line, SheetRead}
use Rattle.notation.specs.Machines.{MachineRead}
use Rattle.session.specs.declared.turn.Turn.TheVariants as turn
use Rattle.script.specs.Turns.{machine_line}
use Rattle.script.specs.declared.seat.Seat.TheVariants.{Ruler, Hammer, First, Second}
use Rattle.script.specs.declared.refusal.TurnRefusal.TheVariants.{NotATurn}
use Rattle.script.proofs.Seating.{no_seat}
use Rattle.script.proofs.OneTurn.{turn_exact, seated}
use Rattle.script.proofs.turn.read_turn.Goals as goal

pub returns-then-eq : goal.returns-then-eq
returns-then-eq c = turn_exact c.args.line.now (Ok turn.Look) (search rules)

pub returns-in_err-seat : goal.returns-in_err-seat
returns-in_err-seat c =
    let p = err_from_is_err_and c.from_residual.result c.from_residual.ensures.1 in
    let e : c.in_err-seat.field-0.0 ≡ NotATurn = grind (arith, common_steps) in
    let none : c.read_seat.result ≡ None = grind (arith, common_steps) in
    rw (p.1, p.2, e) (turn_exact c.args.line.now (Err NotATurn) (no_seat c.args.line.now c.read_seat.result none c.read_seat.ensures))

pub returns-in-Ruler : goal.returns-in-Ruler
returns-in-Ruler c = seated sheet_line SheetRead turn.Watch Ruler _ c.in_ok-seat.act.now (λ a h. (_, refl, h)) (λ y h. h) (grind (arith, common_steps)) (λ e. search rules) _ _ c.read_act.ensures c.map.ensures.cases

pub returns-in-Hammer : goal.returns-in-Hammer
returns-in-Hammer c = seated machine_line MachineRead turn.Plain Hammer _ c.in_ok-seat.act.now (λ a h. (_, refl, h)) (λ y h. h) (grind (arith, common_steps)) (λ e. search rules) _ _ c.read_act-in-Hammer.ensures c.map-in-Hammer.ensures.cases

pub returns-in-First : goal.returns-in-First
returns-in-First c = seated sheet_line SheetRead turn.First First _ c.in_ok-seat.act.now (λ a h. (_, refl, h)) (λ y h. h) (grind (arith, common_steps)) (λ e. search rules) _ _ c.read_act-in-First.ensures c.map-in-First.ensures.cases

pub returns-in-Second : goal.returns-in-Second
returns-in-Second c = seated sheet_line SheetRead turn.Second Second _ c.in_ok-seat.act.now (λ a h. (_, refl, h)) (λ y h. h) (grind (arith, common_steps)) (λ e. search rules) _ _ c.read_act-in-Second.ensures c.map-in-Second.ensures.cases
