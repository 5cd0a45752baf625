use Rattle.std.specs.Prelude.{◌≡◌, ℕ, zero, suc, ◌+◌, ◌/◌, ◌%◌, ◌<◌, cond, List, [], ◌∷◌, ◌++◌, Some, None, Option, ◌≢◌, nat_lt}

-- The byte of a digit: 0 to 9 from code 48 on, then a to f from code 97 on.
abbrev pub digit : ℕ → ℕ
digit d = cond (nat_lt d 10) (48 + d) (87 + d)

-- What a byte says as a digit of a base: its value, or nothing where it is no digit of that base.
abbrev pub DigitTold : ℕ → ℕ → Option ℕ → Type 0
DigitTold base byte (Some d) = (d < base) × (byte ≡ digit d)
DigitTold base byte None = (d : ℕ) → d < base → byte ≢ digit d

-- The last digits of a number in base 16, as many as said, the most significant first.
abbrev pub hex_line : ℕ → ℕ → List ℕ
hex_line zero n = []
hex_line (suc k) n = hex_line k (n / 16) ++ (digit (n % 16) ∷ [])
