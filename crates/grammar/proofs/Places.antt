-- Where the machine is stuck, the words before can still become a rule, and with the next word they cannot.
use Rattle.std.proofs.Common.{◌≡◌, ℕ, zero, suc, ◌+◌, ◌<◌, ◌≤◌, Bool, true, List, [], ◌∷◌, ◌++◌, length, take, drop, Some, None, Option, sym, refl, ap, ◌∙◌, subst, append_assoc, add-one, arith, lit≤, length-drop, take-append-drop, take-take}
use Rattle.formulas.specs.declared.word.Word.{Word}
use Rattle.formulas.specs.declared.word.Word.TheVariants.{Constant, Close}
use Rattle.formulas.specs.Formulas.{Formula, constant}
use Rattle.grammar.specs.Grammar.{Rules, Fails}
use Rattle.grammar.specs.Machine.{Slot, Stack, base, over, State, wants, has, Out, read, stuck, step, outcome, start}
use Rattle.grammar.proofs.Complete.{follows}
use Rattle.grammar.proofs.Sound.{sound, unread}

closing : Stack → List Word
closing base = []
closing (over e s t o a n p k) = Close ∷ closing k

closes : (k : Stack) (f : Formula) (e : Bool) (s t o a n : Slot) → (g : Formula) × (outcome (closing k) (has f e s t o a n k) ≡ read g)
unfolding closing
closes base f e s t o a n = (_, refl)
closes (over e' s' t' o' a' n' p' k) f e s t o a n = closes k _ e' s' t' o' a' n'

-- every state has words that end it well
finish : (st : State) → (more : List Word) × (g : Formula) × (outcome more st ≡ read g)
finish (wants e s t o a n p k) = let c = closes k (p (constant true)) e s t o a n in (Constant true ∷ closing k, c.0, c.1)
finish (has f e s t o a n k) = let c = closes k f e s t o a n in (closing k, c.0, c.1)

-- one step, then the rest
abbrev onward : Option State → Word → List Word → Out
onward m w ws = elim m [ Some next ↦ outcome ws next | None ↦ stuck (w ∷ ws) ]

-- what is left where the machine is stuck is no longer than what it was given
short : (ws : List Word) (st : State) (rest : List Word) → outcome ws st ≡ stuck rest → length rest ≤ length ws
short [] st rest e = grind arith
short (w ∷ ws) st rest e = go (step st w) (λ next i. short ws next rest i) e
  where
    go : (m : Option State) → ((next : State) → outcome ws next ≡ stuck rest → length rest ≤ length ws) → onward m w ws ≡ stuck rest → length rest ≤ suc (length ws)
    go None more i = grind arith
    go (Some next) more i = omega (arith, more next i)

-- the words up to where the machine is stuck can be completed
live : (ws : List Word) (st : State) (n : ℕ) → n ≤ length ws → outcome ws st ≡ stuck (drop n ws) → (more : List Word) × (g : Formula) × (outcome (take n ws ++ more) st ≡ read g)
live ws st zero h e = finish st
live [] st (suc n) h e = absurd (omega arith)
live (w ∷ ws) st (suc n) h e = go (step st w) (λ next i. live ws next n (omega arith) i) e
  where
    go : (m : Option State) → ((next : State) → outcome ws next ≡ stuck (drop n ws) → (more : List Word) × (g : Formula) × (outcome (take n ws ++ more) next ≡ read g)) → onward m w ws ≡ stuck (drop n ws) → (more : List Word) × (g : Formula) × (onward m w (take n ws ++ more) ≡ read g)
    go None more i = absurd (grind (arith, length-drop n ws))
    go (Some next) more i = more next i

-- with the word at which it is stuck they cannot
dead : (ws : List Word) (st : State) (n : ℕ) → n < length ws → outcome ws st ≡ stuck (drop n ws) → (more : List Word) → (rest : List Word) × (outcome (take (suc n) ws ++ more) st ≡ stuck rest)
dead [] st n h e more = absurd (omega arith)
dead (w ∷ ws) st zero h e more = go (step st w) e
  where
    go : (m : Option State) → onward m w ws ≡ stuck (w ∷ ws) → (rest : List Word) × (onward m w more ≡ stuck rest)
    go None i = (w ∷ more, refl)
    go (Some next) i = absurd (omega (arith, short ws next (w ∷ ws) i))
dead (w ∷ ws) st (suc n) h e more = go (step st w) (λ next i. dead ws next n (omega arith) i more) e
  where
    go : (m : Option State) → ((next : State) → outcome ws next ≡ stuck (drop n ws) → (rest : List Word) × (outcome (take (suc n) ws ++ more) next ≡ stuck rest)) → onward m w ws ≡ stuck (drop n ws) → (rest : List Word) × (onward m w (take (suc n) ws ++ more) ≡ stuck rest)
    go None again i = absurd (grind (arith, length-drop n ws))
    go (Some next) again i = again next i

pub one_formula : (ws : List Word) (f g : Formula) → Rules ws f → Rules ws g → f ≡ g
one_formula ws f g d d' = let same : read f ≡ read g = sym (follows d (lit≤ tt) base) ∙ follows d' (lit≤ tt) base in cc

pub stuck_fails : (ws : List Word) (n : ℕ) → n ≤ length ws → outcome ws start ≡ stuck (drop n ws) → Fails ws n
stuck_fails ws n h e = record {
  within = h;
  so_far = let (more, g, r) = live ws start n h e in (more, g, sound _ _ r);
  no_more = λ lt v. let (rest, r) = dead ws start n lt e v.0 in unread rest v.1 (sym r ∙ ap (λ i. outcome (take i ws ++ v.0) start) (sym (add-one n)) ∙ follows v.2 (lit≤ tt) base);
  no_rule = λ f d. unread (drop n ws) f (sym e ∙ follows d (lit≤ tt) base);
}

-- The word at which words fail is one.
fails_before : (ws : List Word) (n m : ℕ) → Fails ws n → Fails ws m → n < m → ⊥
fails_before ws n m p q lt =
    let (more, f, d) = q.so_far in
    let front : take m ws ≡ take (n + 1) ws ++ drop (n + 1) (take m ws) = sym (take-append-drop (n + 1) (take m ws)) ∙ ap (λ vs. vs ++ drop (n + 1) (take m ws)) (take-take (n + 1) m ws (omega arith)) in
    let all = ap (λ vs. vs ++ more) front ∙ append_assoc (take (n + 1) ws) (drop (n + 1) (take m ws)) more in
    p.no_more (omega arith) (drop (n + 1) (take m ws) ++ more, f, subst (λ vs. Rules vs f) all d)

pub fails_once : (ws : List Word) (n m : ℕ) → Fails ws n → Fails ws m → n ≡ m
fails_once ws n m p q =
    let low : n < m → ⊥ = fails_before ws n m p q in
    let high : m < n → ⊥ = fails_before ws m n q p in
    omega arith
