use Rattle.std.specs.Prelude.{◌≡◌, ℕ, ◌<◌, ◌≤◌, Bool, true, List, length, take, count_by, Ok, Err, Result, slice_index_or}
use Rattle.formulas.specs.declared.word.Word.{Word}
use Rattle.formulas.specs.declared.word.Word.TheVariants.{Name}
use Rattle.formulas.specs.Formulas.{node, temporal}
use Rattle.rules.specs.declared.refusal.RuleRefusal.{RuleRefusal}
use Rattle.rules.specs.declared.refusal.RuleRefusal.TheVariants.{TooManyNodes, TooManyTemporal}
use Rattle.rules.specs.declared.refusal.Fault.{Fault}
use Rattle.rules.specs.declared.limits.Limit.{Limit}
use Rattle.rules.specs.declared.limits.Limit.TheVariants.{Nodes, Temporal}

-- What a limit counts, and how many there may be.
abbrev pub counts : Limit → Word → Bool
counts Nodes = node
counts Temporal = temporal

abbrev pub most : Limit → ℕ
most Nodes = 48
most Temporal = 12

-- Why a rule with more is refused.
abbrev pub limit_refusal : Limit → RuleRefusal
limit_refusal Nodes = TooManyNodes
limit_refusal Temporal = TooManyTemporal

-- The i-th word is the first that is one too many: it passes the test, and as many before it do as may.
pub record Exceeds (test : Word → Bool) (limit : ℕ) (ws : List Word) (i : ℕ) : Type 0 where
  pub inside : i < length ws
  pub full : count_by test (take i ws) ≡ limit
  pub there : test (slice_index_or ws i (Name 0)) ≡ true

-- For inner functions: what a limit comes to for words with their places.
abbrev pub Limited : Limit → List Word → List ℕ → ℕ → Result (Unit {0}) Fault → Type 0
Limited limit ws ps end (Ok _) = count_by (counts limit) ws ≤ most limit
Limited limit ws ps end (Err f) = (f.refusal ≡ limit_refusal limit) × (i : ℕ) × Exceeds (counts limit) (most limit) ws i × (f.place ≡ slice_index_or ps i end)
