-- A bench's log, made from what its calls are given and from nothing else, and the refusals that it settles.
use Rattle.std.specs.Prelude.{◌≡◌, ℕ, ◌+◌, Bool, true, false, cond, ◌&&◌, List, [], ◌∷◌, ◌++◌, length, Some, None, Option, ◌==◌, nat_lt}
use Rattle.bench.specs.declared.slip.Slip.{Slip}
use Rattle.answers.specs.declared.Refusal.{Refusal}
use Rattle.answers.specs.declared.Refusal.TheVariants.{RunsSpent, NoRunOpen, RunFull, SlipNotOfRun}
use Rattle.answers.specs.declared.Reply.{Reply}

-- how many runs were opened, whether one is open, and the run: the events taken since the last opening
pub record Log (E : Type 0) : Type 0 where
  pub opened : ℕ
  pub running : Bool
  pub run : List E

-- the log of a new bench
abbrev pub fresh : {E : Type 0} → Log E
fresh = record { opened = 0; running = false; run = [] }

-- a call on a bench, with what it is given
pub data Call (E : Type 0) : Type 0 where
  Open : Call E
  Take : E → Call E
  Ask : Call E
  Look : Call E
  Close : Slip → Call E

-- a slip is of the open run of the bench n: one is open, and the slip has n and the number of runs opened
abbrev pub of_open_run : {E : Type 0} → ℕ → Log E → Slip → Bool
of_open_run n l s = l.running && (s.bench == n && s.run == l.opened)

-- the refusal of a call on the bench n, if any: the 65,535 runs are spent, no run is open, the run has its 1,000,000 events, the slip is not of the open run
abbrev pub refusal : {E : Type 0} → ℕ → Log E → Call E → Option Refusal
refusal n l Open = cond (nat_lt l.opened 65535) None (Some RunsSpent)
refusal n l (Take e) = cond l.running (cond (nat_lt (length l.run) 1000000) None (Some RunFull)) (Some NoRunOpen)
refusal n l Ask = cond l.running None (Some NoRunOpen)
refusal n l Look = cond l.running None (Some NoRunOpen)
refusal n l (Close s) = cond (of_open_run n l s) None (Some SlipNotOfRun)

-- the log after a call that is not refused
abbrev pub grown : {E : Type 0} → Log E → Call E → Log E
grown l Open = record { opened = l.opened + 1; running = true; run = [] }
grown l (Take e) = record { opened = l.opened; running = l.running; run = l.run ++ (e ∷ []) }
grown l Ask = l
grown l Look = l
grown l (Close s) = record { opened = l.opened; running = false; run = l.run }

-- the one where nothing is refused, the other where something is
abbrev pub unless : {A : Type 0} → Option Refusal → A → A → A
unless None x y = x
unless (Some r) x y = y

-- the log after any call: ask, look and what is refused leave it
abbrev pub after : {E : Type 0} → ℕ → Log E → Call E → Log E
after n l Open = unless (refusal n l Open) (grown l Open) l
after n l (Take e) = unless (refusal n l (Take e)) (grown l (Take e)) l
after n l Ask = l
after n l Look = l
after n l (Close s) = unless (refusal n l (Close s)) (grown l (Close s)) l

-- a call and its answer
pub record Exchange (E : Type 0) : Type 0 where
  pub call : Call E
  pub reply : Reply

-- the log of the bench n after these calls, oldest first, from the log l on
abbrev pub log_from : {E : Type 0} → ℕ → Log E → List (Exchange E) → Log E
log_from n l [] = l
log_from n l (x ∷ h) = log_from n (after n l x.call) h

-- the log of a bench that began new, after these calls
abbrev pub log_of : {E : Type 0} → ℕ → List (Exchange E) → Log E
log_of n h = log_from n fresh h

-- somewhere in the history h of the bench n, which began new, the call c is answered r, and the log before it is l
pub record At {E : Type 0} (n : ℕ) (h : List (Exchange E)) (l : Log E) (c : Call E) (r : Reply) : Type 0 where
  pub past : List (Exchange E)
  pub future : List (Exchange E)
  pub parts : h ≡ past ++ (record { call = c; reply = r } ∷ future)
  pub before : l ≡ log_of n past
