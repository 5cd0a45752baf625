-- Rows of a sheet: a cell makes the row longer, a line end or a sheet end closes it and begins the next.
use Rattle.std.specs.Prelude.{ℕ, ◌+◌, ◌-◌, ◌^◌, min}
use Rattle.events.specs.declared.sheet.SheetEvent.{SheetEvent}
use Rattle.events.specs.declared.sheet.SheetEvent.TheVariants.{Struck, LineEnd, SheetEnd}
use Rattle.linewatch.specs.declared.Row.{Row}
use Rattle.linewatch.specs.declared.Step.{Step}
use Rattle.linewatch.specs.declared.Step.TheVariants.{Struck as struck, RowClosed}

-- one more, or the largest number of 32 bits
abbrev pub more : ℕ → ℕ
more n = min (n + 1) (2 ^ 32 - 1)

abbrev pub row_after : SheetEvent → Row → Row
row_after (Struck c) row = record { number = row.number; cells = more row.cells }
row_after LineEnd row = record { number = more row.number; cells = 0 }
row_after SheetEnd row = record { number = more row.number; cells = 0 }

-- what is told of an event with which the run is not lost
abbrev pub row_step : SheetEvent → Row → Step
row_step (Struck c) row = struck
row_step LineEnd row = RowClosed row
row_step SheetEnd row = RowClosed row
