-- An act at a bench, with the slips held.
use Rattle.std.specs.Prelude.{◌≡◌, ℕ, Bool, List, [], ◌∷◌, ◌++◌, Some, None, Option}
use Rattle.std.specs.List.{slice_get, remove}
use Rattle.bench.specs.declared.slip.Slip.{Slip}
use Rattle.answers.specs.declared.Refusal.{Refusal}
use Rattle.answers.specs.declared.Report.{Report}
use Rattle.answers.specs.declared.Reply.{Reply}
use Rattle.answers.specs.declared.Reply.TheVariants.{Opened, Closed, Refused}
use Rattle.bench.specs.Log.{Log, Call, Open, Take, Ask, Close, Exchange, after, log_from}
use Rattle.bench.specs.Law.{Answered}
use Rattle.session.specs.declared.turn.Act.{Act}
use Rattle.session.specs.declared.turn.Act.TheVariants.{Open as opens, Take as takes, Ask as asks, Close as closes}

-- a call and its answer
abbrev pub exchange : {E : Type 0} → Call E → Reply → List (Exchange E)
exchange c r = record { call = c; reply = r } ∷ []

-- with these slips held, an act has this reply, which is that of these calls (one, or none), and these slips are held then:
-- a slip that is given is held last, the slip of a run that is closed is gone, one that is refused stays in its place, and a close of a place that holds none is no call
pub data Done {E : Type 0} (held : List Slip) : Act E → Option Reply → List (Exchange E) → List Slip → Type 0 where
  opened : (b k : ℕ) → Done held opens (Some (Opened b k)) (exchange Open (Opened b k)) (held ++ (record { bench = b; run = k } ∷ []))
  unopened : (x : Refusal) → Done held opens (Some (Refused x)) (exchange Open (Refused x)) held
  took : (e : E) (r : Reply) → Done held (takes e) (Some r) (exchange (Take e) r) held
  asked : (r : Reply) → Done held asks (Some r) (exchange Ask r) held
  closed : (k : ℕ) (s : Slip) (p : Report) → slice_get held k ≡ Some s → Done held (closes k) (Some (Closed p)) (exchange (Close s) (Closed p)) (remove held k)
  unclosed : (k : ℕ) (s : Slip) (x : Refusal) → slice_get held k ≡ Some s → Done held (closes k) (Some (Refused x)) (exchange (Close s) (Refused x)) held
  no_slip : (k : ℕ) → slice_get held k ≡ None → Done held (closes k) None [] held

-- each of these calls, from the log l on, is answered as its log settles
abbrev pub AllAnswered : {E : Type 0} → ℕ → (List E → Bool) → Log E → List (Exchange E) → Type 0
AllAnswered n rule l [] = Unit {0}
AllAnswered n rule l (x ∷ h) = Answered n rule l x.call x.reply × AllAnswered n rule (after n l x.call) h

-- the law of an act, on a bench that stands as S says
pub record ActLaw {E B : Type 0} (S : ℕ → (List E → Bool) → B → Log E → Type 0) (b : B) (held : List Slip) (a : Act E) (r : Option Reply) (b' : B) (held' : List Slip) : Type 0 where
  pub calls : List (Exchange E)
  pub done : Done held a r calls held'
  pub lawful : (n : ℕ) (rule : List E → Bool) (l : Log E) → S n rule b l → AllAnswered n rule l calls × S n rule b' (log_from n l calls)
