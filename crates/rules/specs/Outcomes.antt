use Rattle.std.specs.Prelude.{ℕ, ◌<◌, ◌≤◌, List, length, slice_index_or}
use Rattle.formulas.specs.declared.word.Word.{Word}
use Rattle.formulas.specs.Formulas.{Formula, node, temporal, nodes, promises}
use Rattle.grammar.specs.Grammar.{Rules, Fails}
use Rattle.rules.specs.declared.refusal.RuleRefusal.{RuleRefusal}
use Rattle.rules.specs.declared.refusal.RuleRefusal.TheVariants.{TooLong, NoRule, TooManyNodes, TooManyTemporal}
use Rattle.rules.specs.Lexing.{lexed, spoilt, Lexes}
use Rattle.rules.specs.declared.limits.Limit.TheVariants.{Nodes, Temporal}
use Rattle.rules.specs.Limits.{most, Exceeds}

-- Why words with their places are refused, in this order, and the place of the word: the end of the text where there is none.
pub data Rejected (ws : List Word) (ps : List ℕ) (end : ℕ) : RuleRefusal → ℕ → Type 0 where
  no_rule : {n : ℕ} → Fails ws n → Rejected ws ps end NoRule (slice_index_or ps n end)
  too_many_nodes : {f : Formula} {i : ℕ} → Rules ws f → Exceeds node (most Nodes) ws i → Rejected ws ps end TooManyNodes (slice_index_or ps i end)
  too_many_temporal : {f : Formula} {i : ℕ} → Rules ws f → nodes f ≤ most Nodes → Exceeds temporal (most Temporal) ws i → Rejected ws ps end TooManyTemporal (slice_index_or ps i end)

-- What a text comes to: the formula that it is, or its refusal with the place.
pub data Answer : Type 0 where
  read : Formula → Answer
  refused : RuleRefusal → ℕ → Answer

-- What comes of a text, for a kind with so many names of these letters: each text has one answer.
pub data Outcome (count : ℕ) (names : ℕ → List ℕ) (text : List ℕ) : Answer → Type 0 where
  too_long : 256 < length text → Outcome count names text (refused TooLong 256)
  no_word : {r : RuleRefusal} {p : ℕ} → length text ≤ 256 → Lexes count names text 0 (spoilt r p) → Outcome count names text (refused r p)
  rejected : {ws : List Word} {ps : List ℕ} {r : RuleRefusal} {p : ℕ} → length text ≤ 256 → Lexes count names text 0 (lexed ws ps) → Rejected ws ps (length text) r p → Outcome count names text (refused r p)
  a_rule : {ws : List Word} {ps : List ℕ} {f : Formula} → length text ≤ 256 → Lexes count names text 0 (lexed ws ps) → Rules ws f → nodes f ≤ most Nodes → promises f ≤ most Temporal → Outcome count names text (read f)
