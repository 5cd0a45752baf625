use Rattle.std.specs.Prelude.{◌≡◌, ℕ, ◌≤◌, List, length, Some, None, Option}
use Rattle.std.specs.Str.Parse.{IsNumeral, digits_value}

-- One to nine decimal digits, and the number that they write.
abbrev pub NumberWritten : List ℕ → ℕ → Type 0
NumberWritten digits n = IsNumeral 10 digits × (length digits ≤ 9) × (n ≡ digits_value 10 digits)

-- What reading digits answers: the number that is so written, or nothing where there is none.
abbrev pub NumberTold : List ℕ → Option ℕ → Type 0
NumberTold digits (Some n) = NumberWritten digits n
NumberTold digits None = (n : ℕ) → NumberWritten digits n → ⊥
