-- What comes of a width: a ruler at the beginning of a line, that keeps the runs with no line over the width, or a refusal.
use Rattle.std.specs.Prelude.{◌≡◌, ℕ, ◌<◌, ◌≤◌, true, ◌↔◌, List, Ok, Err, Result}
use Rattle.events.specs.declared.sheet.SheetEvent.{SheetEvent}
use Rattle.sheets.specs.declared.ruler.Ruler.{Ruler}
use Rattle.sheets.specs.declared.measure.RulerRefusal.{RulerRefusal}
use Rattle.sheets.specs.declared.measure.RulerRefusal.TheVariants.{WidthNot1To100}
use Rattle.sheets.specs.Lines.{NoLineOver, fits}

abbrev pub ruler_number : RulerRefusal → ℕ
ruler_number WidthNot1To100 = 24

-- a ruler of a width, before any event
pub record RulerOf (width : ℕ) (s : Ruler) : Type 0 where
  pub least : 1 ≤ width
  pub most : width ≤ 100
  pub measures : s.width ≡ width
  pub begins : s.cells ≡ 0
  pub keeps : (run : List SheetEvent) → (fits s.width 0 run ≡ true) ↔ NoLineOver width run

-- refused exactly where the width is below 1 or above 100
abbrev pub RulerMade : ℕ → Result Ruler RulerRefusal → Type 0
RulerMade width (Ok s) = RulerOf width s
RulerMade width (Err x) = 1 ≤ width → 100 < width
