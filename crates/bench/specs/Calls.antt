-- How a bench stands at its log, and the law of each call.
use Rattle.std.specs.Prelude.{◌≡◌, ℕ, ◌≤◌, Bool, true, false, List, ◌++◌, length, Some, None, Ok, Err, Option, Result, is_some, IfSome, IsSomeAnd, MatchOption}
use Rattle.std.specs.Result.{result_map_both}
use Rattle.bench.specs.declared.slip.Slip.{Slip}
use Rattle.answers.specs.declared.Refusal.{Refusal}
use Rattle.answers.specs.declared.Report.{Report}
use Rattle.answers.specs.declared.Sight.{Sight}
use Rattle.answers.specs.declared.Sight.TheVariants.{Open, Lost, Safe}
use Rattle.answers.specs.declared.Reply.{Reply}
use Rattle.answers.specs.declared.Reply.TheVariants.{Opened, Taken, Told, Looked, Closed, Refused}
use Rattle.bench.specs.declared.plain.Bench.{Bench}
use Rattle.bench.specs.declared.run.Run.{Run}
use Rattle.bench.specs.declared.run.Run.TheVariants.{Open as openRun, Ended}
use Rattle.bench.specs.declared.looking.LookBench.{LookBench}
use Rattle.observers.specs.declared.observer.Outlook.{Outlook}
use Rattle.observers.specs.declared.observer.Outlook.TheVariants.{Lost as outlookLost, Safe as outlookSafe, Open as outlookOpen}
use Rattle.observers.specs.Foresight.{One, Foresees}
use Rattle.bench.specs.Log.{Log, Call, after}
use Rattle.bench.specs.Sight.{beyond, LostAt, SafeAt}
use Rattle.bench.specs.Law.{Answered}

-- how many events a run has
abbrev pub events_of : Run → ℕ
events_of (openRun k) = k
events_of (Ended k) = k

-- how many events a run has, while it is open
abbrev pub open_count : Run → Option ℕ
open_count (openRun k) = Some k
open_count (Ended k) = None

-- a bench of the number n, over an observer of this rule, stands at the log l; rules and rests are those of its observers
pub record Stands {E O : Type 0} (rules rests : O → List E → Bool) (n : ℕ) (rule : List E → Bool) (b : Bench O) (l : Log E) : Type 0 where
  pub number_is : b.number ≡ n
  pub rule_is : rules b.observer ≡ rule
  pub opened_is : b.opened ≡ l.opened
  pub running_is : is_some (open_count b.run) ≡ l.running
  pub counted : events_of b.run ≡ length l.run
  pub rests_at : l.running ≡ true → (t : List E) → rests b.observer t ≡ rule (l.run ++ t)

-- what a bench with look remembers of its run: open after each number of events so far, or since when it is lost or safe
abbrev pub Remembers : {E : Type 0} → (List E → Bool) → List E → Sight → Type 0
Remembers rule run Open = (m : ℕ) → m ≤ length run → One (beyond rule run m) true × One (beyond rule run m) false
Remembers rule run (Lost n) = LostAt rule run n
Remembers rule run (Safe n) = SafeAt rule run n

-- what is remembered of an outlook that was told after n events
abbrev pub sight_at : Outlook → ℕ → Sight
sight_at outlookLost n = Lost n
sight_at outlookSafe n = Safe n
sight_at outlookOpen n = Open

-- what is remembered once the outlook of this rest was asked after n events
abbrev pub SeenAfter : {E : Type 0} → (List E → Bool) → ℕ → Sight → Type 0
SeenAfter rest n s = (o : Outlook) × Foresees rest o × (s ≡ sight_at o n)

-- what is remembered once the outlook of the bench's open run was asked, if one is open
abbrev pub SeenNow : {E O : Type 0} → (O → List E → Bool) → Bench O → Option Sight → Type 0
SeenNow rests b s = MatchOption (open_count b.run) (s ≡ None) (λ n. IsSomeAnd s (SeenAfter (rests b.observer) n))

-- a bench with look stands at the log l where the bench inside does, and while a run is open it remembers what can be seen of it
pub record LookStands {E O : Type 0} (rules rests : O → List E → Bool) (n : ℕ) (rule : List E → Bool) (b : LookBench O) (l : Log E) : Type 0 where
  pub bare : Stands rules rests n rule b.bench l
  pub looking_is : is_some b.sight ≡ l.running
  pub sighted : IfSome b.sight (Remembers rule l.run)

-- the law of a call c that is answered r: whatever log the bench stands at, the answer is what that log settles, and the bench then stands at the log after the call
abbrev pub Lawful : {E B : Type 0} → (ℕ → (List E → Bool) → B → Log E → Type 0) → B → Call E → Reply → B → Type 0
Lawful {E} S b c r b' = (n : ℕ) (rule : List E → Bool) (l : Log E) → S n rule b l → Answered n rule l c r × S n rule b' (after n l c)

-- the answer of a call, as one type: what is told of its value, or the refusal
abbrev pub reply_of : {A : Type 0} → (A → Reply) → Result A Refusal → Reply
reply_of told (Ok x) = told x
reply_of told (Err x) = Refused x

abbrev pub open_reply : Result Slip Refusal → Reply
open_reply r = reply_of (λ s. Opened s.bench s.run) r

abbrev pub take_reply : Result (Unit {0}) Refusal → Reply
take_reply r = reply_of (λ _. Taken) r

abbrev pub ask_reply : Result Report Refusal → Reply
ask_reply r = reply_of Told r

abbrev pub look_reply : Result Sight Refusal → Reply
look_reply r = reply_of Looked r

-- a close that is refused hands the slip back beside
abbrev pub close_reply : Result Report (Slip × Refusal) → Reply
close_reply r = reply_of Closed (result_map_both (λ p. p) (λ p. p.1) r)
