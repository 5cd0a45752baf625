-- What the answers of a bench are in words.
use Rattle.std.specs.Prelude.{ℕ, cond, List, ◌++◌, codes, decimal}
use Rattle.answers.specs.Numbers.{refusal_number}
use Rattle.answers.specs.declared.Refusal.{Refusal}
use Rattle.answers.specs.declared.Refusal.TheVariants.{RunsSpent, NoRunOpen, RunFull, SlipNotOfRun}
use Rattle.answers.specs.declared.Report.{Report}
use Rattle.answers.specs.declared.Sight.{Sight}
use Rattle.answers.specs.declared.Sight.TheVariants.{Open, Lost, Safe}
use Rattle.answers.specs.declared.Reply.{Reply}
use Rattle.answers.specs.declared.Reply.TheVariants.{Opened, Taken, Told, Looked, Closed, Refused}

-- A report: whether the run is kept, and its count of events.
abbrev pub report_words : Report → List ℕ
report_words p = cond p.mark (codes "kept, ") (codes "not kept, ") ++ (decimal p.count ++ codes " events")

-- A sight: lost or safe, with the count since which it is so, or open.
abbrev pub sight_words : Sight → List ℕ
sight_words Open = codes "open"
sight_words (Lost n) = codes "lost after " ++ (decimal n ++ codes " events")
sight_words (Safe n) = codes "safe after " ++ (decimal n ++ codes " events")

-- Why a call is refused.
abbrev pub reason : Refusal → List ℕ
reason RunsSpent = codes "no run number is left"
reason NoRunOpen = codes "no run is open"
reason RunFull = codes "the run is full"
reason SlipNotOfRun = codes "the slip is not of the open run"

-- A refusal: its number, and why.
abbrev pub refused_words : Refusal → List ℕ
refused_words x = codes "refused " ++ (decimal (refusal_number x) ++ (codes ": " ++ reason x))

-- A reply.
abbrev pub answer_words : Reply → List ℕ
answer_words (Opened b k) = codes "opened bench " ++ (decimal b ++ (codes " run " ++ decimal k))
answer_words Taken = codes "taken"
answer_words (Told p) = report_words p
answer_words (Looked s) = sight_words s
answer_words (Closed p) = codes "closed: " ++ report_words p
answer_words (Refused x) = refused_words x
