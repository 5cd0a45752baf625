-- What stands at a number among the words that pass a test.
use Rattle.std.proofs.Common.{◌≡◌, ℕ, zero, suc, ◌+◌, ◌≤◌, Bool, true, false, cond, List, [], ◌∷◌, take, Option, Some, None, MatchOption, filter, count_by, Bor, refl, sym, ap, subst, arith}
use Rattle.std.specs.List.{slice_get, enumerate_from}
use Rattle.std.specs.Option.{IsSomeAnd, option_map}
use Rattle.std.proofs.lemmas.List.Sums.{sum_by-cons}
use Rattle.formulas.specs.declared.word.Word.{Word}
use Rattle.formulas.specs.Formulas.{one}
use Rattle.rules.specs.Limits.{Exceeds}

module _ (test : Word → Bool) where
  abbrev pub passing : ℕ → List Word → List (ℕ × Word)
  passing k ws = filter (λ p. test p.1) (enumerate_from k ws)

  -- The word that was found, where the first has the number k: as many before it as may pass, or as many in all.
  abbrev pub Told : ℕ → ℕ → List Word → Option (ℕ × Word) → Type 0
  Told k n ws None = count_by test ws ≤ n
  Told k n ws (Some p) = (j : ℕ) × (p.0 ≡ k + j) × Exceeds test n ws j

  one_on : (k n m : ℕ) (w : Word) (ws : List Word) (r : Option (ℕ × Word)) → n ≡ m + one test w → Told (k + 1) m ws r → Told k n (w ∷ ws) r
  one_on k n m w ws None e few = omega (arith, sum_by-cons (one test) w ws)
  one_on k n m w ws (Some p) e (j, is, x) =
      (suc j, omega arith, record { inside = omega (arith, x.inside); full = omega (arith, sum_by-cons (one test) w (take j ws), x.full); there = x.there })

  told : (k n : ℕ) (ws : List Word) → Told k n ws (slice_get (passing k ws) n)
  told k n [] = omega arith
  told k n (w ∷ ws) = go n (test w) refl (λ m. told (k + 1) m ws)
    where
      go : (n : ℕ) (t : Bool) → test w ≡ t → ((m : ℕ) → Told (k + 1) m ws (slice_get (passing (k + 1) ws) m)) → Told k n (w ∷ ws) (slice_get (cond t ((k, w) ∷ passing (k + 1) ws) (passing (k + 1) ws)) n)
      go n false e rest = one_on k n n w ws _ (omega (arith, ap {B = ℕ} (λ t. cond t 1 0) e)) (rest n)
      go zero true e rest = (0, omega arith, record { inside = omega arith; full = refl; there = e })
      go (suc n) true e rest = one_on k (suc n) n w ws _ (omega (arith, ap {B = ℕ} (λ t. cond t 1 0) e)) (rest n)

  -- What is made of the found word's number, where `Makes` says what a call made of it.
  pub found : (Makes : ℕ × Bor Word → ℕ → Type 0) → ((p : ℕ × Bor Word) (v : ℕ) → Makes p v → v ≡ p.0) → (n : ℕ) (ws : List Word) (r : Option (ℕ × Bor Word)) (i : Option ℕ) → option_map (λ p. (p.0, p.1.now)) r ≡ slice_get (passing 0 ws) n → MatchOption r (i ≡ None) (λ p. IsSomeAnd i (Makes p)) → MatchOption i (count_by test ws ≤ n) (λ v. Exceeds test n ws v)
  found Makes same n ws None i e is = rw is (subst (Told 0 n ws) (sym e) (told 0 n ws))
  found Makes same n ws (Some p) None e is = absurd is
  found Makes same n ws (Some p) (Some v) e is =
      let (j, at, x) = subst (Told 0 n ws) (sym e) (told 0 n ws) in
      let here : j ≡ v = omega (arith, same p v is) in
      subst (Exceeds test n ws) here x
