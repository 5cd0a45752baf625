-- What comes of a line of input, on a bench with look.
use Rattle.std.specs.Prelude.{◌≡◌, ℕ, Bool, true, List, [], ◌∷◌, ◌++◌, Some, None, Ok, Err, Option, Result}
use Rattle.events.specs.declared.sheet.SheetEvent.{SheetEvent}
use Rattle.notation.specs.Sheets.{SheetRead}
use Rattle.bench.specs.Log.{Log, Take, refusal, grown}
use Rattle.bench.specs.Sight.{LostAt}
use Rattle.linewatch.specs.declared.Row.{Row}
use Rattle.linewatch.specs.declared.Step.{Step}
use Rattle.linewatch.specs.declared.Step.TheVariants.{Struck, RowClosed, Lost}
use Rattle.linewatch.specs.declared.refusal.TakeRefusal.{TakeRefusal}
use Rattle.linewatch.specs.declared.refusal.TakeRefusal.TheVariants.{Line, Bench}
use Rattle.linewatch.specs.Rows.{row_after, row_step}

-- no number of events of the run is the one at which it is lost
abbrev pub NotLost : {E : Type 0} → (List E → Bool) → List E → Type 0
NotLost rule run = (m : ℕ) → LostAt rule run m → ⊥

-- since when the open run is lost, if it is
abbrev pub LostOrNot : {E : Type 0} → (List E → Bool) → List E → Option ℕ → Type 0
LostOrNot rule run None = NotLost rule run
LostOrNot rule run (Some m) = LostAt rule run m

abbrev pub LostLaw : {E B : Type 0} → (ℕ → (List E → Bool) → B → Log E → Type 0) → B → Option ℕ → Type 0
LostLaw {E} S b r = (n : ℕ) (rule : List E → Bool) (l : Log E) → S n rule b l → l.running ≡ true → LostOrNot rule l.run r

-- after the event e, with which the run is this one: lost with a count exactly when the run is lost at it, else what the row tells
abbrev pub StepIs : (List SheetEvent → Bool) → List SheetEvent → SheetEvent → Row → Row → Step → Type 0
StepIs rule run e row row' Struck = NotLost rule run × (row_step e row ≡ Struck) × (row' ≡ row_after e row)
StepIs rule run e row row' (RowClosed q) = NotLost rule run × (row_step e row ≡ RowClosed q) × (row' ≡ row_after e row)
StepIs rule run e row row' (Lost m) = LostAt rule run m × (row' ≡ row)

-- the line is an event, it is taken, and the step is told; or the line is refused; or the event is; a refusal leaves bench and row
abbrev pub Came : {B : Type 0} → (B → Log SheetEvent → Type 0) → ℕ → (List SheetEvent → Bool) → Log SheetEvent → B → Row → List ℕ → B → Row → Result Step TakeRefusal → Type 0
Came S n rule l b row line b' row' (Ok step) = (e : SheetEvent) × SheetRead line (Ok e) × (refusal n l (Take e) ≡ None) × S b' (grown l (Take e)) × StepIs rule (l.run ++ (e ∷ [])) e row row' step
Came S n rule l b row line b' row' (Err (Line x)) = SheetRead line (Err x) × (b' ≡ b) × (row' ≡ row)
Came S n rule l b row line b' row' (Err (Bench x)) = (e : SheetEvent) × SheetRead line (Ok e) × (refusal n l (Take e) ≡ Some x) × (b' ≡ b) × (row' ≡ row)

-- whatever log the bench stands at
abbrev pub LineLaw : {B : Type 0} → (ℕ → (List SheetEvent → Bool) → B → Log SheetEvent → Type 0) → B → Row → List ℕ → Result Step TakeRefusal → B → Row → Type 0
LineLaw S b row line r b' row' = (n : ℕ) (rule : List SheetEvent → Bool) (l : Log SheetEvent) → S n rule b l → Came (S n rule) n rule l b row line b' row' r
