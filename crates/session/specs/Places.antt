-- The places of a list that are still free.
use Rattle.std.specs.Prelude.{ℕ, ◌+◌, ◌≤◌, vec_len, vec_capacity}
use Rattle.std.specs.declared.vec.Vec.{Vec}

module _ {X Z : Type 0} where
  -- there are places for n more
  abbrev pub HasRoom : Vec X Z → ℕ → Type 0
  HasRoom v n = vec_len v + n ≤ vec_capacity v

  -- one place at most is taken
  abbrev pub TakesOnePlace : Vec X Z → Vec X Z → Type 0
  TakesOnePlace v w = (n : ℕ) → HasRoom v (n + 1) → HasRoom w n
