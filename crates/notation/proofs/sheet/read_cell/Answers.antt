use Rattle.std.proofs.Common.{◌≡◌, ℕ, [], ◌∷◌, ◌++◌, ◌+◌, ◌*◌, ◌/◌, ◌%◌, ◌<◌, ◌≤◌, Some, codes, arith}
use Rattle.std.proofs.lemmas.Result.{err_from_is_err_and}
use Rattle.notation.specs.Digits.{DigitTold}
use Rattle.notation.specs.Sheets.{cell_line}
use Rattle.notation.proofs.sheet.read_cell.Goals as goal

over : (a b t o : ℕ) → DigitTold 10 a (Some t) → DigitTold 10 b (Some o) → 64 ≤ 10 * t + o → (n : ℕ) × (64 ≤ n) × (n < 100) × (codes "c" ++ (a ∷ b ∷ []) ≡ cell_line n)
over a b t o p q h =
    let tens : (10 * t + o) / 10 ≡ t = omega arith in
    let ones : (10 * t + o) % 10 ≡ o = omega arith in
    (10 * t + o, h, omega arith, cc)

pub returns-in_err-cell : goal.returns-in_err-cell
returns-in_err-cell c =
    let p = err_from_is_err_and c.from_residual-in_err-cell.result c.from_residual-in_err-cell.ensures.1 in
    let t = rw c.in_ok-t.ensures.ok_part at c.digit.ensures in
    let o = rw c.in_ok-o.ensures.ok_part at c.digit-2.ensures in
    rw (p.1, p.2, c.in_err-cell.ensures.1) (over _ _ c.in_ok-t.t c.in_ok-o.o t o c.in_err-cell.ensures.0)
