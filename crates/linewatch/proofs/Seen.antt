-- What a look at an open run tells.
use Rattle.std.proofs.Common.{◌≡◌, ℕ, Bool, true, false, cond, List, Some, None, Ok, Err, Option, Result, sym, refl, subst}
use Rattle.events.specs.declared.sheet.SheetEvent.{SheetEvent}
use Rattle.events.specs.declared.sheet.SheetEvent.TheVariants.{Struck, LineEnd, SheetEnd}
use Rattle.answers.specs.declared.Refusal.{Refusal}
use Rattle.answers.specs.declared.Refusal.TheVariants.{NoRunOpen}
use Rattle.answers.specs.declared.Sight.{Sight}
use Rattle.answers.specs.declared.Sight.TheVariants.{Lost}
use Rattle.answers.specs.declared.Reply.TheVariants.{Taken, Looked, Refused}
use Rattle.bench.specs.Log.{Log, Take, Look, refusal, grown, after}
use Rattle.bench.specs.Sight.{Sees, LostAt}
use Rattle.bench.specs.Law.{Answered}
use Rattle.bench.specs.Calls.{look_reply}
use Rattle.bench.proofs.Ways.{grows}
use Rattle.linewatch.specs.declared.Row.{Row}
use Rattle.linewatch.specs.declared.Step.{Step}
use Rattle.linewatch.specs.declared.Step.TheVariants as step
use Rattle.linewatch.specs.Rows.{row_after, row_step}
use Rattle.linewatch.specs.Taking.{NotLost, StepIs}

module _ {E : Type 0} (n : ℕ) (rule : List E → Bool) (l : Log E) (on : l.running ≡ true) where
  free : refusal n l Look ≡ None
  free = simp on

  pub not_refused : (x : Refusal) → Answered n rule l Look (Refused x) → ⊥
  not_refused x p = cc (free, (p.settled.refused x).0 refl)

  pub seen : (s : Sight) → Answered n rule l Look (Looked s) → Sees rule l.run s
  seen s p = let t = p.sighted free in subst (λ (v : Sight). Sees rule l.run v) (cc (t.1)) t.2

  -- an open run is not refused a look
  given : (r : Result Sight Refusal) → Answered n rule l Look (look_reply r) → (s : Sight) × (r ≡ Ok s) × Sees rule l.run s
  given (Ok s) p = (s, refl, seen s p)
  given (Err x) p = absurd (not_refused x p)

  pub lost : (r : Result Sight Refusal) (m : ℕ) → r ≡ Ok (Lost m) → Answered n rule l Look (look_reply r) → LostAt rule l.run m
  lost r m e p = let q = given r p in (q.2.lost m).0 (cc (q.1))

  pub not_lost : (r : Result Sight Refusal) → ((m : ℕ) → r ≡ Ok (Lost m) → ⊥) → Answered n rule l Look (look_reply r) → NotLost rule l.run
  not_lost r other p m h = let q = given r p in other m (cc (q.1, (q.2.lost m).1 h))

-- a take that is not refused is of an open run
pub is_running : (b : Bool) (o : Option Refusal) → cond b o (Some NoRunOpen) ≡ None → b ≡ true
is_running true o e = refl
is_running false o e = absurd (cc)

-- an event that is taken is taken on an open run, whose log grows
pub took : {E B : Type 0} (S : ℕ → (List E → Bool) → B → Log E → Type 0) (n : ℕ) (rule : List E → Bool) (l : Log E) (e : E) (b : B) → Answered n rule l (Take e) Taken → S n rule b (after n l (Take e)) → (refusal n l (Take e) ≡ None) × (l.running ≡ true) × S n rule b (grown l (Take e))
took {E} S n rule l e b p st =
    let free = (p.settled.taken.0 refl).1 in
    (free, is_running l.running _ free, subst (λ (x : Log E). S n rule b x) (grows n rule l (Take e) free) st)

-- what a row tells is never that the run is lost
never_lost : (e : SheetEvent) (row : Row) (m : ℕ) → step.Lost m ≡ row_step e row → ⊥
never_lost (Struck c) row m e = cc
never_lost LineEnd row m e = cc
never_lost SheetEnd row m e = cc

pub step_is : (rule : List SheetEvent → Bool) (run : List SheetEvent) (e : SheetEvent) (row row' : Row) (s : Step) → NotLost rule run → s ≡ row_step e row → row' ≡ row_after e row → StepIs rule run e row row' s
step_is rule run e row row' step.Struck p q r = (p, sym q, r)
step_is rule run e row row' (step.RowClosed x) p q r = (p, sym q, r)
step_is rule run e row row' (step.Lost m) p q r = absurd (never_lost e row m q)
