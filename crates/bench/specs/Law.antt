-- The law of the bench: what holds of a call on the bench n over an observer of this rule, where the log before it is l.
use Rattle.std.specs.Prelude.{◌≡◌, ℕ, ◌+◌, Bool, ◌↔◌, List, length, Some, None}
use Rattle.answers.specs.declared.Refusal.{Refusal}
use Rattle.answers.specs.declared.Report.{Report}
use Rattle.answers.specs.declared.Sight.{Sight}
use Rattle.answers.specs.declared.Reply.{Reply}
use Rattle.answers.specs.declared.Reply.TheVariants.{Opened, Taken, Told, Looked, Closed, Refused}
use Rattle.bench.specs.Log.{Log, Call, Open, Take, Ask, Look, Close, refusal, Exchange, At}
use Rattle.bench.specs.Sight.{Sees}

-- the log settles the refusals, which and when, and the slips given, which and when; a take that is not refused is answered as taken
pub record SettledCall {E : Type 0} (n : ℕ) (l : Log E) (c : Call E) (r : Reply) : Type 0 where
  pub refused : (x : Refusal) → (r ≡ Refused x) ↔ (refusal n l c ≡ Some x)
  pub given : (b k : ℕ) → (r ≡ Opened b k) ↔ ((c ≡ Open) × (refusal n l c ≡ None) × (b ≡ n) × (k ≡ l.opened + 1))
  pub taken : (r ≡ Taken) ↔ (((e : E) × (c ≡ Take e)) × (refusal n l c ≡ None))

-- whether the log's run keeps the rule, and how many events it has
abbrev pub report_of : {E : Type 0} → (List E → Bool) → Log E → Report
report_of rule l = record { mark = rule l.run; count = length l.run }

-- an ask or a closing that is not refused tells the mark and the count of the log's run
abbrev pub MarkedCall : {E : Type 0} → ℕ → (List E → Bool) → Log E → Call E → Reply → Type 0
MarkedCall n rule l Open r = Unit {0}
MarkedCall n rule l (Take e) r = Unit {0}
MarkedCall n rule l Ask r = refusal n l Ask ≡ None → r ≡ Told (report_of rule l)
MarkedCall n rule l Look r = Unit {0}
MarkedCall n rule l (Close s) r = refusal n l (Close s) ≡ None → r ≡ Closed (report_of rule l)

-- a look that is not refused tells what can be seen of the log's run
abbrev pub SightedCall : {E : Type 0} → ℕ → (List E → Bool) → Log E → Call E → Reply → Type 0
SightedCall n rule l Open r = Unit {0}
SightedCall n rule l (Take e) r = Unit {0}
SightedCall n rule l Ask r = Unit {0}
SightedCall n rule l Look r = refusal n l Look ≡ None → (s : Sight) × (r ≡ Looked s) × Sees rule l.run s
SightedCall n rule l (Close s) r = Unit {0}

-- the three, of one call
pub record Answered {E : Type 0} (n : ℕ) (rule : List E → Bool) (l : Log E) (c : Call E) (r : Reply) : Type 0 where
  pub settled : SettledCall n l c r
  pub marked : MarkedCall n rule l c r
  pub sighted : SightedCall n rule l c r

-- the three, of every call of a bench that began new
abbrev pub Settled : {E : Type 0} → ℕ → List (Exchange E) → Type 0
Settled {E} n h = (l : Log E) (c : Call E) (r : Reply) → At n h l c r → SettledCall n l c r

abbrev pub Marks : {E : Type 0} → ℕ → (List E → Bool) → List (Exchange E) → Type 0
Marks {E} n rule h = (l : Log E) (c : Call E) (r : Reply) → At n h l c r → MarkedCall n rule l c r

abbrev pub Looks : {E : Type 0} → ℕ → (List E → Bool) → List (Exchange E) → Type 0
Looks {E} n rule h = (l : Log E) (c : Call E) (r : Reply) → At n h l c r → SightedCall n rule l c r
