use Rattle.std.specs.Prelude.{◌≡◌, ℕ, ◌/◌, ◌%◌, ◌<◌, ◌≤◌, List, [], ◌∷◌, ◌++◌, Ok, Err, codes, Result, ◌≢◌}
use Rattle.events.specs.declared.sheet.SheetEvent.{SheetEvent}
use Rattle.events.specs.declared.sheet.SheetEvent.TheVariants.{Struck, LineEnd, SheetEnd}
use Rattle.notation.specs.Digits.{digit}
use Rattle.notation.specs.declared.refusal.LineRefusal.{LineRefusal}
use Rattle.notation.specs.declared.refusal.LineRefusal.TheVariants.{CellOver63, KindUnknown, BitNotZero, NotAnEvent}

-- The letter c and the two decimal digits of a number below 100.
abbrev pub cell_line : ℕ → List ℕ
cell_line n = codes "c" ++ (digit (n / 10) ∷ digit (n % 10) ∷ [])

-- How a sheet event is written.
abbrev pub sheet_line : SheetEvent → List ℕ
sheet_line (Struck c) = cell_line c.dots
sheet_line LineEnd = codes "e"
sheet_line SheetEnd = codes "p"

-- What reading a line answers: the event that is so written, 21 at the number of no cell, and 61 at what is none of these.
abbrev pub SheetRead : List ℕ → Result SheetEvent LineRefusal → Type 0
SheetRead line (Ok e) = line ≡ sheet_line e
SheetRead line (Err CellOver63) = (n : ℕ) × (64 ≤ n) × (n < 100) × (line ≡ cell_line n)
SheetRead line (Err KindUnknown) = ⊥
SheetRead line (Err BitNotZero) = ⊥
SheetRead line (Err NotAnEvent) = ((n : ℕ) → n < 100 → line ≢ cell_line n) × (line ≢ codes "e") × (line ≢ codes "p")
