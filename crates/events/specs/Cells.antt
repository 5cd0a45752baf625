use Rattle.std.specs.Prelude.{◌≡◌, ℕ, ◌%◌, ◌<◌, ◌≤◌, Ok, Err, Result}
use Rattle.std.proofs.Common.{mod-lt, lit<}
use Rattle.events.specs.declared.cell.Cell.{Cell}
use Rattle.events.specs.declared.refusal.EventRefusal.{EventRefusal}
use Rattle.events.specs.declared.refusal.EventRefusal.TheVariants.{CellOver63}

-- The cell of the low six bits of a number.
abbrev pub cell_of : ℕ → Cell
cell_of n = record { dots = n % 64; six = mod-lt n (lit< tt) }

-- The cell with no dots.
abbrev pub blank : Cell
blank = cell_of 0

-- What comes of dots: the cell that has them, or over 63 a refusal.
abbrev pub CellMade : ℕ → Result Cell EventRefusal → Type 0
CellMade dots (Ok c) = (dots < 64) × (c.dots ≡ dots)
CellMade dots (Err e) = (64 ≤ dots) × (e ≡ CellOver63)
