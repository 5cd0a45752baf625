use Rattle.std.specs.Prelude.{ℕ, ◌<◌, ◌≤◌, List, length, slice_index}

-- A label has 1 to 8 letters, each from a (97) to z (122).
pub record Label (s : List ℕ) : Type 0 where
  pub some : 1 ≤ length s
  pub short : length s ≤ 8
  pub letters : (i : ℕ) → i < length s → (97 ≤ slice_index s i) × (slice_index s i ≤ 122)
