-- What the digits of a number say of it.
use Rattle.std.specs.Prelude.{◌≡◌, ℕ, zero, suc, ◌+◌, ◌*◌, ◌/◌, ◌%◌, ◌^◌, ◌<◌, List, [], ◌∷◌, ◌++◌, length, take, slice_index, refl}
use Rattle.std.proofs.Common.{sym, ◌∙◌, ⊎_elim, pow-suc, add-one, arith}
use Rattle.std.proofs.lemmas.List.{take_more, length_push, get_or_push, get_or_append_left}
use Rattle.std.proofs.lemmas.Bool.{cases_lt}
use Rattle.notation.specs.Digits.{digit, hex_line}

pub length-hex_line : (k n : ℕ) → length (hex_line k n) ≡ k
length-hex_line zero n = refl
length-hex_line (suc k) n = length_push (hex_line k (n / 16)) _ ∙ omega (arith, length-hex_line k (n / 16))

pub hex_line_push : (k n d : ℕ) → d < 16 → hex_line (suc k) (n * 16 + d) ≡ hex_line k n ++ (digit d ∷ [])
hex_line_push k n d h =
    let q : (n * 16 + d) / 16 ≡ n = omega arith in
    let r : (n * 16 + d) % 16 ≡ d = omega arith in
    rw (q, r)

pub hex_line_digit : (k n i : ℕ) → i < k → (d : ℕ) × (d < 16) × (slice_index (hex_line k n) i ≡ digit d)
hex_line_digit zero n i h = absurd (omega arith)
hex_line_digit (suc k) n i h = ⊎_elim
    (λ lt. let e = hex_line_digit k (n / 16) i lt in
    let l : i < length (hex_line k (n / 16)) = omega (arith, length-hex_line k (n / 16)) in
    (e.0, e.1, get_or_append_left (hex_line k (n / 16)) _ 0 i l ∙ e.2))
    (λ ge. (n % 16, omega arith, get_or_push (hex_line k (n / 16)) _ 0 i (omega (arith, length-hex_line k (n / 16)))))
    (cases_lt i k)

pub hex_line_more : (l : List ℕ) (i w d : ℕ) → i < length l → d < 16 → slice_index l i ≡ digit d → w < 16 ^ i → take i l ≡ hex_line i w → (w * 16 + d < 16 ^ (i + 1)) × (take (i + 1) l ≡ hex_line (i + 1) (w * 16 + d))
hex_line_more l i w d h lt p u t =
    let more : take (i + 1) l ≡ hex_line i w ++ (digit d ∷ []) = take_more l i 0 h ∙ (cc) in
    rw (add-one i, pow-suc 16 i) (omega arith, rw (add-one i) at more ∙ sym (hex_line_push i w d lt))
