-- A word is as long as the run of letters at its front, and never empty.
use Rattle.std.proofs.Common.{◌≡◌, ℕ, ◌+◌, max, true, false, cond, List, [], ◌∷◌, refl, arith}
use Rattle.rules.specs.Texts.{letter, letters, size}

pub max-size : (s : List ℕ) → max (letters s) 1 ≡ size s
max-size [] = refl
max-size (b ∷ s) = elim (letter b) as (λ t. max (cond t (1 + letters s) 0) 1 ≡ cond t (cond t (1 + letters s) 0) 1) [ true ↦ omega arith | false ↦ refl ]
