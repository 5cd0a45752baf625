-- What replies and refusals are in words.
use Rattle.std.specs.Prelude.{ℕ, List, ◌++◌, Some, None, codes, decimal, Option}
use Rattle.events.specs.Refusals as event
use Rattle.events.specs.declared.refusal.EventRefusal.{EventRefusal}
use Rattle.answers.specs.Words.{answer_words}
use Rattle.answers.specs.declared.Reply.{Reply}
use Rattle.script.specs.declared.refusal.TurnRefusal.{TurnRefusal}
use Rattle.script.specs.declared.refusal.TurnRefusal.TheVariants.{NotATurn, Event}

-- A reply, or that there is none since no slip is held at the place.
abbrev pub reply_words : Option Reply → List ℕ
reply_words (Some r) = answer_words r
reply_words None = codes "no slip at that place"

-- The line with this number is no turn.
abbrev pub bad_line_words : ℕ → List ℕ
bad_line_words line = codes "line " ++ (decimal line ++ codes " is no turn")

-- The line with this number is a take of an event that is refused so.
abbrev pub bad_event_words : ℕ → EventRefusal → List ℕ
bad_event_words line x = codes "line " ++ (decimal line ++ (codes " is no turn: refused " ++ decimal (event.refusal_number x)))

-- Why the line with this number is no turn.
abbrev pub no_turn_words : ℕ → TurnRefusal → List ℕ
no_turn_words line NotATurn = bad_line_words line
no_turn_words line (Event x) = bad_event_words line x
