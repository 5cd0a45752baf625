-- Lines of a run of sheet events: line ends and sheet ends close a line.
use Rattle.std.specs.Prelude.{◌≡◌, ℕ, ◌+◌, ◌≤◌, Bool, ◌&&◌, List, [], ◌∷◌, ◌++◌, map, length, nat_le}
use Rattle.events.specs.declared.cell.Cell.{Cell}
use Rattle.events.specs.declared.sheet.SheetEvent.{SheetEvent}
use Rattle.events.specs.declared.sheet.SheetEvent.TheVariants.{Struck, LineEnd, SheetEnd}

-- no line has more cells than the width: wherever cells stand one after another in the run, with no end between them, they are at most so many
abbrev pub NoLineOver : ℕ → List SheetEvent → Type 0
NoLineOver width run = (before after : List SheetEvent) (line : List Cell) → run ≡ before ++ (map Struck line ++ after) → length line ≤ width

-- the same as a test, where the first line has k cells already
abbrev pub fits : ℕ → ℕ → List SheetEvent → Bool
fits width k [] = nat_le k width
fits width k (Struck c ∷ t) = fits width (k + 1) t
fits width k (LineEnd ∷ t) = nat_le k width && fits width 0 t
fits width k (SheetEnd ∷ t) = nat_le k width && fits width 0 t
