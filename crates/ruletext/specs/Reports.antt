use Rattle.std.specs.Prelude.{◌≡◌, ℕ, cond, ◌&&◌, List, [], ◌∷◌, ◌++◌, map, replicate, codes, decimal, nat_le}
use Rattle.formulas.specs.Formulas.{nodes, promises}
use Rattle.output.specs.declared.writer.Writer.{Writer}
use Rattle.output.specs.Writing.{Wrote}
use Rattle.rules.specs.Refusals.{refusal_number}
use Rattle.rules.specs.Outcomes.{Answer, read, refused, Outcome}
use Rattle.ruletext.specs.Shown.{shown}

-- The bytes 32 to 126 print; another is shown as ?.
abbrev pub printing : ℕ → ℕ
printing b = cond (nat_le 32 b && nat_le b 126) b 63

abbrev pub line_feed : List ℕ
line_feed = 10 ∷ []

-- `nodes N promises P`
abbrev pub size_words : ℕ → ℕ → List ℕ
size_words n p = codes "nodes " ++ (decimal n ++ (codes " promises " ++ decimal p))

-- `fault NUMBER at PLACE`
abbrev pub fault_words : ℕ → ℕ → List ℕ
fault_words n p = codes "fault " ++ (decimal n ++ (codes " at " ++ decimal p))

-- What is told of a text: its size and its formula, or its fault, and the text with a mark under the place.
abbrev pub told : ℕ → (ℕ → List ℕ) → List ℕ → Answer → List ℕ
told count names text (read f) = size_words (nodes f) (promises f) ++ (line_feed ++ (shown count names f ++ line_feed))
told count names text (refused r p) = fault_words (refusal_number r) p ++ (line_feed ++ (map printing text ++ (line_feed ++ (replicate p 32 ++ (codes "^" ++ line_feed)))))

-- What was put is what is told of the text's own answer, of which there is one.
pub record Reported (count : ℕ) (names : ℕ → List ℕ) (text : List ℕ) (w v : Writer) : Type 0 where
  pub answer : Answer
  pub outcome : Outcome count names text answer
  pub only : (a : Answer) → Outcome count names text a → a ≡ answer
  pub wrote : Wrote w (told count names text answer) v
