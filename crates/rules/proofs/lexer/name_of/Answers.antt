use Rattle.std.proofs.Common.{rules, ◌≡◌, ℕ, ◌<◌, ◌≤◌, ◌≢◌, MatchOption, Option, Some, None, List, arith}
use Rattle.std.proofs.lemmas.Iterator.{first_from_Range}
use Rattle.rules.proofs.lexer.name_of.Goals as goal

module _ (count : ℕ) (names : ℕ → List ℕ) (s : List ℕ) where
  abbrev Named : ℕ → Type 0
  Named n = (n < count) × (names n ≡ s)

  -- What a search through the numbers below the count found.
  found : (end : ℕ) (r : Option ℕ) → end ≡ count → MatchOption r ((n : ℕ) → 0 ≤ n → n < end → Named n → ⊥) (λ n. (0 ≤ n) × (n < end) × Named n × ((k : ℕ) → 0 ≤ k → k < n → Named k → ⊥)) → MatchOption r ((n : ℕ) → n < count → names n ≢ s) Named
  found end None e none = λ n lt same. none n (omega arith) (omega arith) (lt, same)
  found end (Some n) e hit = hit.2

pub returns : goal.returns
returns g c =
    let named = Named g.K.Kind.NAMES g.K.Kind.text c.args.letters.now in
    found _ _ _ _ _ c.NAMES.ensures (first_from_Range _ _ _ _ named (λ n. named n → ⊥) c.find.ensures.ran (λ x q k. search rules) (λ x q k. search rules))
