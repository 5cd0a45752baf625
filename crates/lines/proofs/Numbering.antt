-- Digits that are read one by one.
use Rattle.std.proofs.Common.{◌≡◌, ℕ, ◌+◌, ◌-◌, ◌*◌, ◌^◌, ◌<◌, ◌≤◌, List, length, get_or, take, sym, ◌∙◌, arith, lit<, length-take}
use native.Mathlib.Nat.{pow-le-pow_right}
use Rattle.std.specs.Str.Parse.{AllDigits, digits_value}
use Rattle.std.specs.Char.{digit_value as digitValue}
use Rattle.std.proofs.lemmas.Int.Digits.{digits_value-lt, digits_value_more, digits_more}
use Rattle.std.proofs.lemmas.List.{take_all}

digit_value : (c : ℕ) → 48 ≤ c → c ≤ 57 → digitValue c ≡ c - 48
digit_value c h k = grind arith

pub small : (ds : List ℕ) (i v : ℕ) → AllDigits 10 (take i ds) → v ≡ digits_value 10 (take i ds) → i ≤ 8 → v < 10 ^ 8
small ds i v d e h =
    let l : length (take i ds) ≤ 8 = simp length-take (omega arith) in
    omega (arith, digits_value-lt 10 (take i ds) d, pow-le-pow_right {n = 10} (lit< tt) {i = length (take i ds)} {j = 8} l)

pub more : (ds : List ℕ) (i v : ℕ) → i < length ds → 48 ≤ get_or ds i 0 → get_or ds i 0 ≤ 57 → AllDigits 10 (take i ds) → v ≡ digits_value 10 (take i ds) → AllDigits 10 (take (i + 1) ds) × (v * 10 + (get_or ds i 0 - 48) ≡ digits_value 10 (take (i + 1) ds))
more ds i v h lo hi d e =
    let b = digit_value (get_or ds i 0) lo hi in
    (digits_more 10 ds i h d (omega arith), sym (digits_value_more 10 ds i h ∙ (cc)))

pub whole : (ds : List ℕ) (i v : ℕ) → length ds ≤ i → AllDigits 10 (take i ds) → v ≡ digits_value 10 (take i ds) → AllDigits 10 ds × (v ≡ digits_value 10 ds)
whole ds i v h d e = let all : take i ds ≡ ds = take_all i ds h in (rw all at d, rw all at e)
