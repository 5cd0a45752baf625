use Rattle.std.proofs.Common.{◌≤◌, ◌≢◌, length, get_or, sym, arith}
use borrow.Author.Tests.{eqb-false}
use Rattle.std.proofs.lemmas.Str.Parse.{digit_at}
use Rattle.lines.proofs.Numbering.{small, more, whole}
use Rattle.lines.proofs.number.read_number.Goals as goal

pub overflow_mul-number : goal.overflow_mul-number
overflow_mul-number c =
    omega (arith, small c.args.digits.now c.loop-byte.byte-index c.loop-byte.number c.loop-byte.invariant.0 c.loop-byte.invariant.1 (omega arith))

pub overflow_add-number : goal.overflow_add-number
overflow_add-number c =
    omega (arith, small c.args.digits.now c.loop-byte.byte-index c.loop-byte.number c.loop-byte.invariant.0 c.loop-byte.invariant.1 (omega arith))

pub returns-in_default : goal.returns-in_default
returns-in_default c =
    λ n w. omega (arith, digit_at c.args.digits.now c.loop-byte.byte-index w.0.1 (omega arith))

pub returns-in_default-2 : goal.returns-in_default-2
returns-in_default-2 c =
    λ n w. omega (arith, digit_at c.args.digits.now c.loop-byte.byte-index w.0.1 (omega arith))

pub loop-byte-preserved : goal.loop-byte-preserved
loop-byte-preserved c =
    let ds = c.args.digits.now in
    let i = c.loop-byte.byte-index in
    let lo : 48 ≤ get_or ds i 0 = omega arith in
    let hi : get_or ds i 0 ≤ 57 = omega arith in
    let next = more ds i c.loop-byte.number (omega arith) lo hi c.loop-byte.invariant.0 c.loop-byte.invariant.1 in
    (next.0, omega (arith, next.1))

pub returns : goal.returns
returns c =
    let ds = c.args.digits.now in
    let all = whole ds c.loop-byte.byte-index c.loop-byte.number (omega arith) c.loop-byte.invariant.0 c.loop-byte.invariant.1 in
    let some : length ds ≢ 0 = eqb-false (length ds) 0 (sym c.if-is_empty.ensures) in
    ((omega arith, all.0), omega arith, all.1)
