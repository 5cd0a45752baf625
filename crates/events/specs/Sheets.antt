use Rattle.std.specs.Prelude.{ℕ, Bool, cond, ◌||◌, List, codes, ◌==◌}
use Rattle.events.specs.Cells.{cell_of}
use Rattle.events.specs.declared.sheet.SheetEvent.{SheetEvent}
use Rattle.events.specs.declared.sheet.SheetEvent.TheVariants.{Struck, LineEnd, SheetEnd}
use Rattle.events.specs.declared.sheet.SheetName.{SheetName}
use Rattle.events.specs.declared.sheet.SheetName.TheVariants.{Cap, Num, Dig, Sp, Oth, Eol, Eop}

-- Whether dots are the cell of a digit: 1 to 9, then 0.
abbrev pub digit : ℕ → Bool
digit d = d == 1 || d == 3 || d == 9 || d == 25 || d == 17 || d == 11 || d == 27 || d == 19 || d == 10 || d == 26

-- The name of a cell.
abbrev pub cell_name : ℕ → SheetName
cell_name d = cond (d == 32) Cap (cond (d == 60) Num (cond (digit d) Dig (cond (d == 0) Sp Oth)))

-- The name of a sheet event.
abbrev pub sheet_name : SheetEvent → SheetName
sheet_name (Struck c) = cell_name c.dots
sheet_name LineEnd = Eol
sheet_name SheetEnd = Eop

-- The number of a name.
abbrev pub sheet_number : SheetName → ℕ
sheet_number Cap = 0
sheet_number Num = 1
sheet_number Dig = 2
sheet_number Sp = 3
sheet_number Oth = 4
sheet_number Eol = 5
sheet_number Eop = 6

-- The name with a number below 7.
abbrev pub sheet_name_at : ℕ → SheetName
sheet_name_at n = cond (n == 0) Cap (cond (n == 1) Num (cond (n == 2) Dig (cond (n == 3) Sp (cond (n == 4) Oth (cond (n == 5) Eol Eop)))))

-- The text of a name.
abbrev pub sheet_text : SheetName → List ℕ
sheet_text Cap = codes "cap"
sheet_text Num = codes "num"
sheet_text Dig = codes "dig"
sheet_text Sp = codes "sp"
sheet_text Oth = codes "oth"
sheet_text Eol = codes "eol"
sheet_text Eop = codes "eop"

-- A sheet event of each name.
abbrev pub sheet_example : SheetName → SheetEvent
sheet_example Cap = Struck (cell_of 32)
sheet_example Num = Struck (cell_of 60)
sheet_example Dig = Struck (cell_of 1)
sheet_example Sp = Struck (cell_of 0)
sheet_example Oth = Struck (cell_of 2)
sheet_example Eol = LineEnd
sheet_example Eop = SheetEnd
