-- How a refusal of a line of input is known and told.
use Rattle.std.specs.Prelude.{ℕ, List, codes}
use Rattle.notation.specs.Refusals.{line_number, line_refusal_words}
use Rattle.answers.specs.Numbers.{refusal_number}
use Rattle.linewatch.specs.declared.refusal.TakeRefusal.{TakeRefusal}
use Rattle.linewatch.specs.declared.refusal.TakeRefusal.TheVariants.{Line, Bench}

-- the number of a refusal is that of the line's or of the bench's
abbrev pub take_number : TakeRefusal → ℕ
take_number (Line x) = line_number x
take_number (Bench x) = refusal_number x

-- why the line is refused, or that the bench refuses its event
abbrev pub take_words : TakeRefusal → List ℕ
take_words (Line x) = line_refusal_words x
take_words (Bench x) = codes "the run takes no more events"
