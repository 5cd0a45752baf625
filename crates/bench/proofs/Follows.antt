-- The law of each call of a bench with look, from the law of the same call of the bench inside.
use Rattle.std.proofs.Common.{◌≡◌, ℕ, Bool, true, List, ◌++◌, length, Some, None, Ok, Err, Option, Result, refl, is_some, IfSome, IsSomeAnd, MatchOption, arith}
use Rattle.std.specs.Option.{ok_or}
use Rattle.std.specs.Result.{IsErrAnd}
use Rattle.bench.specs.declared.slip.Slip.{Slip}
use Rattle.answers.specs.declared.Refusal.{Refusal}
use Rattle.answers.specs.declared.Refusal.TheVariants.{NoRunOpen}
use Rattle.answers.specs.declared.Report.{Report}
use Rattle.answers.specs.declared.Sight.{Sight}
use Rattle.answers.specs.declared.Sight.TheVariants as sight
use Rattle.answers.specs.declared.Reply.{Reply}
use Rattle.answers.specs.declared.Reply.TheVariants.{Opened, Taken, Closed, Refused}
use Rattle.bench.specs.declared.plain.Bench.{Bench}
use Rattle.bench.specs.declared.run.Run.{Run}
use Rattle.bench.specs.declared.run.Run.TheVariants as run
use Rattle.bench.specs.declared.looking.LookBench.{LookBench}
use Rattle.bench.specs.Log.{Log, Call, Open, Take, Ask, Look, Close, grown, after}
use Rattle.bench.specs.Law.{Answered}
use Rattle.bench.specs.Calls.{events_of, open_count, Stands, Remembers, SeenAfter, SeenNow, LookStands, Lawful, look_reply}
use Rattle.bench.proofs.Ways.{grew, stays, looked, unlooked}
use Rattle.bench.proofs.Sights.{OpenBefore, looks, open_before, lasts, seen_now}

-- what is asked of the outlook of an open run is what can be seen of it, where the run was open to both before
seen_at : {E : Type 0} (rule : List E → Bool) (l : Log E) (rest : List E → Bool) (o : Option ℕ) (s : Option Sight) → is_some o ≡ l.running → IfSome o (λ k. k ≡ length l.run) → (l.running ≡ true → (t : List E) → rest t ≡ rule (l.run ++ t)) → OpenBefore rule l.run → MatchOption o (s ≡ None) (λ k. IsSomeAnd s (SeenAfter rest k)) → (is_some s ≡ l.running) × IfSome s (Remembers rule l.run)
seen_at rule l rest None None on count at wide p = (on, tt)
seen_at rule l rest None (Some s) on count at wide p = absurd cc
seen_at rule l rest (Some k) None on count at wide p = absurd p
seen_at rule l rest (Some k) (Some s) on count at wide p = (on, seen_now rule l.run rest k s count wide (at (cc)) p)

-- a look tells what is remembered, if a run is open
looks_at : {E : Type 0} (n : ℕ) (rule : List E → Bool) (l : Log E) (s : Option Sight) → is_some s ≡ l.running → IfSome s (Remembers rule l.run) → Answered n rule l Look (look_reply (ok_or s NoRunOpen))
looks_at n rule l None on known = unlooked n rule l NoRunOpen (simp (← on))
looks_at n rule l (Some s) on known = looked n rule l s (simp (← on)) (looks rule l.run s known)

-- the count of an open run is the count of the run
counts : (r : Run) (n : ℕ) → events_of r ≡ n → IfSome (open_count r) (λ k. k ≡ n)
counts (run.Open k) n e = e
counts (run.Ended k) n e = tt

module _ {E O : Type 0} {rules rests : O → List E → Bool} where
  sees : (n : ℕ) (rule : List E → Bool) (l : Log E) (b : Bench O) (s : Option Sight) → Stands rules rests n rule b l → OpenBefore rule l.run → SeenNow rests b s → LookStands rules rests n rule (record { bench = b; sight = s }) l
  sees n rule l b s st wide p = let q = seen_at rule l (rests b.observer) (open_count b.run) s st.running_is (counts b.run (length l.run) st.counted) st.rests_at wide p in record { bare = st; looking_is = q.0; sighted = q.1 }

  -- the outlook of a run that was open to both is asked again, and what is settled lasts
  followed : (n : ℕ) (rule : List E → Bool) (l : Log E) (e : E) (o : Option Sight) (b : Bench O) (s : Option Sight) → Stands rules rests n rule b (grown l (Take e)) → is_some o ≡ l.running → IfSome o (Remembers rule l.run) → (o ≡ Some sight.Open → SeenNow rests b s) → ((o ≡ Some sight.Open → ⊥) → s ≡ o) → LookStands rules rests n rule (record { bench = b; sight = s }) (grown l (Take e))
  followed n rule l e None b s st on known asked kept = rw (kept (λ p. cc)) (record { bare = st; looking_is = on; sighted = tt })
  followed n rule l e (Some sight.Open) b s st on known asked kept = sees n rule (grown l (Take e)) b s st (open_before rule l.run e known) (asked refl)
  followed n rule l e (Some (sight.Lost k)) b s st on known asked kept = rw (kept (λ p. cc)) (record { bare = st; looking_is = on; sighted = lasts rule l.run e (sight.Lost k) (λ p. cc) known })
  followed n rule l e (Some (sight.Safe k)) b s st on known asked kept = rw (kept (λ p. cc)) (record { bare = st; looking_is = on; sighted = lasts rule l.run e (sight.Safe k) (λ p. cc) known })

  -- a call that is refused, which the result r tells, leaves what is remembered
  pub refused : {A X : Type 0} (reply : Result A X → Reply) (c : Call E) (x : Refusal) (y : X) (b : LookBench O) (b' : Bench O) (r : Result A X) → reply (Err y) ≡ Refused x → Lawful (Stands rules rests) b.bench c (reply (Err y)) b' → IsErrAnd r (λ z. z ≡ y) → Lawful (LookStands rules rests) b c (reply r) (record { bench = b'; sight = b.sight })
  refused reply c x y b b' (Ok a) told law is n rule l st = absurd is
  refused reply c x y b b' (Err z) told law is n rule l st =
      let q = law n rule l st.bare in
      let left = stays n rule l c x ((q.0.settled.refused x).0 told) in
      rw is (q.0, record { bare = q.1; looking_is = rw left st.looking_is; sighted = rw left st.sighted })

  pub opens : (m k : ℕ) (b : LookBench O) (b' : Bench O) (s : Option Sight) → Lawful (Stands rules rests) b.bench Open (Opened m k) b' → SeenNow rests b' s → Lawful (LookStands rules rests) b Open (Opened m k) (record { bench = b'; sight = s })
  opens m k b b' s law p n rule l st =
      let q = law n rule l st.bare in
      let more = grew n rule l Open (Opened m k) q.0 (λ x p. cc) in
      (q.0, sees n rule (after n l Open) b' s q.1 (rw more (λ i h. absurd (omega arith))) p)

  pub takes : (e : E) (b : LookBench O) (b' : Bench O) (s : Option Sight) → Lawful (Stands rules rests) b.bench (Take e) Taken b' → (b.sight ≡ Some sight.Open → SeenNow rests b' s) → ((b.sight ≡ Some sight.Open → ⊥) → s ≡ b.sight) → Lawful (LookStands rules rests) b (Take e) Taken (record { bench = b'; sight = s })
  takes e b b' s law asked kept n rule l st =
      let q = law n rule l st.bare in
      let more = grew n rule l (Take e) Taken q.0 (λ x p. cc) in
      (q.0, rw more (followed n rule l e b.sight b' s (rw more at q.1) st.looking_is st.sighted asked kept))

  pub closes : (slip : Slip) (p : Report) (b : LookBench O) (b' : Bench O) → Lawful (Stands rules rests) b.bench (Close slip) (Closed p) b' → Lawful (LookStands rules rests) b (Close slip) (Closed p) (record { bench = b'; sight = None })
  closes slip p b b' law n rule l st =
      let q = law n rule l st.bare in
      let more = grew n rule l (Close slip) (Closed p) q.0 (λ x e. cc) in
      (q.0, record { bare = q.1; looking_is = rw more refl; sighted = tt })

  pub asks : (r : Reply) (b : LookBench O) → Lawful (Stands rules rests) b.bench Ask r b.bench → Lawful (LookStands rules rests) b Ask r b
  asks r b law n rule l st = ((law n rule l st.bare).0, st)

  pub looks_law : (b : LookBench O) → Lawful (LookStands rules rests) b Look (look_reply (ok_or b.sight NoRunOpen)) b
  looks_law b n rule l st = (looks_at n rule l b.sight st.looking_is st.sighted, st)
