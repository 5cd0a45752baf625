-- The test of lines says that no line is over the width; enough cells break any line.
use Rattle.std.proofs.Common.{◌≡◌, ℕ, zero, suc, ◌+◌, ◌<◌, ◌≤◌, true, false, ◌&&◌, leb, ◌↔◌, List, [], ◌∷◌, ◌++◌, map, length, refl, ap, arith}
use Rattle.std.proofs.lemmas.Bool.{leb-true, le-leb, lt-leb, and_parts, and_from}
use Rattle.events.specs.declared.cell.Cell.{Cell}
use Rattle.events.specs.declared.sheet.SheetEvent.{SheetEvent}
use Rattle.events.specs.declared.sheet.SheetEvent.TheVariants.{Struck, LineEnd, SheetEnd}
use Rattle.events.specs.Cells.{blank}
use Rattle.sheets.specs.Lines.{NoLineOver, fits}

-- a line that is too long stays so
pub over : (w k : ℕ) → w < k → (t : List SheetEvent) → fits w k t ≡ false
over w k h [] = lt-leb k w h
over w k h (Struck c ∷ t) = over w (k + 1) (omega arith) t
over w k h (LineEnd ∷ t) = rw (lt-leb k w h)
over w k h (SheetEnd ∷ t) = rw (lt-leb k w h)

-- cells in a row
abbrev pub blanks : ℕ → List SheetEvent
blanks zero = []
blanks (suc m) = Struck blank ∷ blanks m

pub too_many : (w k m : ℕ) → w < k + m → fits w k (blanks m) ≡ false
too_many w k zero h = lt-leb k w (omega arith)
too_many w k (suc m) h = too_many w (k + 1) m (omega arith)

-- where the first line has k cells already: with them it is at most the width, and so is every other
pub record Within (w k : ℕ) (t : List SheetEvent) : Type 0 where
  pub front : (line : List Cell) (after : List SheetEvent) → t ≡ map Struck line ++ after → k + length line ≤ w
  pub inner : NoLineOver w t

module _ (w k : ℕ) (t : List SheetEvent) where
  -- one cell more in the line
  front_cell : (c : Cell) → Within w (k + 1) t → (line : List Cell) (after : List SheetEvent) → Struck c ∷ t ≡ map Struck line ++ after → k + length line ≤ w
  front_cell c h [] after e = omega (arith, h.front [] t refl)
  front_cell c h (d ∷ line) after e = omega (arith, h.front line after (cc))

  inner_cell : (c : Cell) → Within w (k + 1) t → NoLineOver w (Struck c ∷ t)
  inner_cell c h [] after line e = omega (arith, front_cell c h line after e)
  inner_cell c h (b ∷ before) after line e = h.inner before after line (cc)

  -- an end closes the line
  front_end : (x : SheetEvent) → ((c : Cell) → x ≡ Struck c → ⊥) → k ≤ w → (line : List Cell) (after : List SheetEvent) → x ∷ t ≡ map Struck line ++ after → k + length line ≤ w
  front_end x end h [] after e = omega arith
  front_end x end h (d ∷ line) after e = absurd (end d (cc))

  inner_end : (x : SheetEvent) → ((c : Cell) → x ≡ Struck c → ⊥) → Within w 0 t → NoLineOver w (x ∷ t)
  inner_end x end h [] after [] e = omega arith
  inner_end x end h [] after (d ∷ line) e = absurd (end d (cc))
  inner_end x end h (b ∷ before) after line e = h.inner before after line (cc)

  closes : (x : SheetEvent) → ((c : Cell) → x ≡ Struck c → ⊥) → (leb k w && fits w 0 t) ≡ true → (fits w 0 t ≡ true → Within w 0 t) → Within w k (x ∷ t)
  closes x end e f =
      let p = and_parts (leb k w) (fits w 0 t) e in
      record { front = front_end x end (leb-true k w p.0); inner = inner_end x end (f p.1) }

  after_end : (x : SheetEvent) → Within w k (x ∷ t) → Within w 0 t
  after_end x h = record { front = λ line after e. omega (arith, h.inner (x ∷ []) after line (ap (λ (r : List SheetEvent). x ∷ r) e)); inner = λ before after line e. h.inner (x ∷ before) after line (ap (λ (r : List SheetEvent). x ∷ r) e) }

  after_cell : (c : Cell) → Within w k (Struck c ∷ t) → Within w (k + 1) t
  after_cell c h = record { front = λ line after e. omega (arith, h.front (c ∷ line) after (ap (λ (r : List SheetEvent). Struck c ∷ r) e)); inner = λ before after line e. h.inner (Struck c ∷ before) after line (ap (λ (r : List SheetEvent). Struck c ∷ r) e) }

-- nothing has no line
none : (w : ℕ) → NoLineOver w []
none w before after [] e = omega arith
none w [] after (c ∷ line) e = absurd (cc)
none w (b ∷ before) after (c ∷ line) e = absurd (cc)

none_front : (w k : ℕ) → k ≤ w → (line : List Cell) (after : List SheetEvent) → [] ≡ map Struck line ++ after → k + length line ≤ w
none_front w k h [] after e = omega arith
none_front w k h (c ∷ line) after e = absurd (cc)

no_cell_line : (c : Cell) → LineEnd ≡ Struck c → ⊥
no_cell_line c e = cc

no_cell_sheet : (c : Cell) → SheetEnd ≡ Struck c → ⊥
no_cell_sheet c e = cc

from_test : (w k : ℕ) (t : List SheetEvent) → fits w k t ≡ true → Within w k t
from_test w k [] e = record { front = none_front w k (leb-true k w e); inner = none w }
from_test w k (Struck c ∷ t) e = record { front = front_cell w k t c (from_test w (k + 1) t e); inner = inner_cell w k t c (from_test w (k + 1) t e) }
from_test w k (LineEnd ∷ t) e = closes w k t LineEnd no_cell_line e (from_test w 0 t)
from_test w k (SheetEnd ∷ t) e = closes w k t SheetEnd no_cell_sheet e (from_test w 0 t)

to_test : (w k : ℕ) (t : List SheetEvent) → Within w k t → fits w k t ≡ true
to_test w k [] h = le-leb k w (omega (arith, h.front [] [] refl))
to_test w k (Struck c ∷ t) h = to_test w (k + 1) t (after_cell w k t c h)
to_test w k (LineEnd ∷ t) h = and_from (leb k w) (fits w 0 t) (le-leb k w (omega (arith, h.front [] (LineEnd ∷ t) refl))) (to_test w 0 t (after_end w k t LineEnd h))
to_test w k (SheetEnd ∷ t) h = and_from (leb k w) (fits w 0 t) (le-leb k w (omega (arith, h.front [] (SheetEnd ∷ t) refl))) (to_test w 0 t (after_end w k t SheetEnd h))

pub lines_kept : (w : ℕ) (t : List SheetEvent) → (fits w 0 t ≡ true) ↔ NoLineOver w t
lines_kept w t = (λ e. (from_test w 0 t e).inner, λ h. to_test w 0 t (record { front = λ line after e. omega (arith, h [] after line e); inner = h }))
