-- From which count on a run is lost or safe.
use Rattle.std.specs.Prelude.{◌≡◌, ℕ, ◌<◌, ◌≤◌, Bool, true, false, ◌↔◌, List, ◌++◌, length, take}
use Rattle.observers.specs.Foresight.{Every, One}
use Rattle.answers.specs.declared.Sight.{Sight}
use Rattle.answers.specs.declared.Sight.TheVariants.{Open, Lost, Safe}

-- whether a continuation of the first n events of a run keeps the rule
abbrev pub beyond : {E : Type 0} → (List E → Bool) → List E → ℕ → List E → Bool
beyond rule run n t = rule (take n run ++ t)

-- after n events of the run no continuation keeps the rule, and after each smaller number one does
pub record LostAt {E : Type 0} (rule : List E → Bool) (run : List E) (n : ℕ) : Type 0 where
  pub reached : n ≤ length run
  pub never : Every (beyond rule run n) false
  pub first : (m : ℕ) → m < n → One (beyond rule run m) true

-- after n events of the run every continuation keeps the rule, and after each smaller number one does not
pub record SafeAt {E : Type 0} (rule : List E → Bool) (run : List E) (n : ℕ) : Type 0 where
  pub reached : n ≤ length run
  pub always : Every (beyond rule run n) true
  pub first : (m : ℕ) → m < n → One (beyond rule run m) false

-- what a look tells: lost with n exactly when the run is lost at n, safe with n exactly when it is safe at n, and otherwise open
pub record Sees {E : Type 0} (rule : List E → Bool) (run : List E) (s : Sight) : Type 0 where
  pub lost : (n : ℕ) → (s ≡ Lost n) ↔ LostAt rule run n
  pub safe : (n : ℕ) → (s ≡ Safe n) ↔ SafeAt rule run n
  pub otherwise : (s ≡ Open) ↔ (((n : ℕ) → LostAt rule run n → ⊥) × ((n : ℕ) → SafeAt rule run n → ⊥))
