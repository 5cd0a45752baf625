use Rattle.std.specs.Prelude.{◌≡◌, ℕ, List, ◌++◌, Some, None, codes, Option, ◌≢◌}
use Rattle.std.specs.Borrow.{Bor}
use Rattle.script.specs.declared.seat.Seat.{Seat}
use Rattle.script.specs.declared.seat.Seat.TheVariants.{Ruler, Hammer, First, Second}

-- A bench's name and a space.
abbrev pub called : Seat → List ℕ
called Ruler = codes "ruler "
called Hammer = codes "hammer "
called First = codes "first "
called Second = codes "second "

-- What a line begins with: the name of a bench with a space, and what follows, or no such name.
abbrev pub SeatTold : List ℕ → Option (Seat × Bor (List ℕ)) → Type 0
SeatTold line (Some p) = line ≡ called p.0 ++ p.1.now
SeatTold line None = (s : Seat) (act : List ℕ) → line ≢ called s ++ act
