-- What a bench remembers of a run is what a look tells of it, and how it lasts.
use Rattle.std.proofs.Common.{◌≡◌, ℕ, ◌+◌, ◌<◌, ◌≤◌, Bool, true, false, List, [], ◌∷◌, ◌++◌, length, take, drop, sym, refl, ap, ◌∙◌, subst, ⊎_elim, arith, length-append, take-append-drop, take_all, take-take}
use lib.Seq.{take-append-le}
use Rattle.std.proofs.lemmas.Bool.{cases_lt}
use Rattle.observers.specs.declared.observer.Outlook.{Outlook}
use Rattle.observers.specs.declared.observer.Outlook.TheVariants.{Lost as outlookLost, Safe as outlookSafe, Open as outlookOpen}
use Rattle.observers.specs.Foresight.{Every, One, Foresees}
use Rattle.answers.specs.declared.Sight.{Sight}
use Rattle.answers.specs.declared.Sight.TheVariants.{Open, Lost, Safe}
use Rattle.bench.specs.Sight.{beyond, LostAt, SafeAt, Sees}
use Rattle.bench.specs.Calls.{Remembers, sight_at, SeenAfter}

-- after each smaller number of events than the run has, it was open
abbrev pub OpenBefore : {E : Type 0} → (List E → Bool) → List E → Type 0
OpenBefore rule run = (m : ℕ) → m < length run → One (beyond rule run m) true × One (beyond rule run m) false

-- the look at a run
module _ {E : Type 0} (rule : List E → Bool) (run : List E) where
  -- what every continuation is answered after n events it is answered after more
  later : (answer : Bool) (n m : ℕ) → n ≤ m → Every (beyond rule run n) answer → rule (take m run) ≡ answer
  later answer n m h all =
      let whole : take n run ++ drop n (take m run) ≡ take m run = ap (λ (r : List E). r ++ drop n (take m run)) (sym (take-take n m run h)) ∙ take-append-drop n (take m run) in
      ap rule (sym whole) ∙ all (drop n (take m run))

  apart : (n m : ℕ) → LostAt rule run n → SafeAt rule run m → ⊥
  apart n m p q = ⊎_elim
      (λ h. cc (later true m m (omega arith) q.always, later false n m (omega arith) p.never))
      (λ h. cc (later true m n h q.always, later false n n (omega arith) p.never))
      (cases_lt n m)

  lost_once : (n m : ℕ) → LostAt rule run n → LostAt rule run m → n ≤ m
  lost_once n m p q = ⊎_elim (λ h. absurd (cc ((p.first m h).1, q.never (p.first m h).0))) (λ h. h) (cases_lt m n)

  safe_once : (n m : ℕ) → SafeAt rule run n → SafeAt rule run m → n ≤ m
  safe_once n m p q = ⊎_elim (λ h. absurd (cc (q.always (p.first m h).0, (p.first m h).1))) (λ h. h) (cases_lt m n)

  pub looks : (s : Sight) → Remembers rule run s → Sees rule run s
  looks Open w =
      let not_lost : (n : ℕ) → LostAt rule run n → ⊥ = λ n p. cc ((w n p.reached).0.1, p.never (w n p.reached).0.0) in
      let not_safe : (n : ℕ) → SafeAt rule run n → ⊥ = λ n p. cc (p.always (w n p.reached).1.0, (w n p.reached).1.1) in
      record {
        lost = λ n. (λ e. cc, λ p. absurd (not_lost n p));
        safe = λ n. (λ e. cc, λ p. absurd (not_safe n p));
        otherwise = (λ _. (not_lost, not_safe), λ _. refl);
      }
  looks (Lost k) w = record {
    lost = λ n. (λ e. let j : k ≡ n = cc in subst (λ (i : ℕ). LostAt rule run i) j w, λ p. let j : k ≡ n = omega (arith, lost_once k n w p, lost_once n k p w) in ap Lost j);
    safe = λ n. (λ e. cc, λ p. absurd (apart k n w p));
    otherwise = (λ e. cc, λ p. absurd (p.0 k w));
  }
  looks (Safe k) w = record {
    lost = λ n. (λ e. cc, λ p. absurd (apart n k p w));
    safe = λ n. (λ e. let j : k ≡ n = cc in subst (λ (i : ℕ). SafeAt rule run i) j w, λ p. let j : k ≡ n = omega (arith, safe_once k n w p, safe_once n k p w) in ap Safe j);
    otherwise = (λ e. cc, λ p. absurd (p.1 k w));
  }

  -- where the outlook is asked: after each smaller number of events the run was open
  pub arrive : (rest : List E → Bool) (o : Outlook) (k : ℕ) → k ≡ length run → OpenBefore rule run → ((t : List E) → rest t ≡ rule (run ++ t)) → Foresees rest o → Remembers rule run (sight_at o k)
  arrive rest outlookLost k e w is f = record { reached = omega arith; never = λ t. ap (λ (r : List E). rule (r ++ t)) (take_all k run (omega arith)) ∙ sym (is t) ∙ f.lost.0 refl t; first = λ m h. (w m (omega arith)).0 }
  arrive rest outlookSafe k e w is f = record { reached = omega arith; always = λ t. ap (λ (r : List E). rule (r ++ t)) (take_all k run (omega arith)) ∙ sym (is t) ∙ f.safe.0 refl t; first = λ m h. (w m (omega arith)).1 }
  arrive rest outlookOpen k e w is f = λ m h. ⊎_elim (λ below. w m below)
      (λ end. let p = f.undecided.0 refl in let at : (t : List E) → beyond rule run m t ≡ rest t = λ t. ap (λ (r : List E). rule (r ++ t)) (take_all m run (omega arith)) ∙ sym (is t) in
      ((p.0.0, at p.0.0 ∙ p.0.1), (p.1.0, at p.1.0 ∙ p.1.1)))
      (cases_lt m (length run))

  pub seen_now : (rest : List E → Bool) (k : ℕ) (s : Sight) → k ≡ length run → OpenBefore rule run → ((t : List E) → rest t ≡ rule (run ++ t)) → SeenAfter rest k s → Remembers rule run s
  seen_now rest k s e w is p = subst (λ (v : Sight). Remembers rule run v) (sym p.2) (arrive rest p.0 k e w is p.1)

-- one event more
module _ {E : Type 0} (rule : List E → Bool) (run : List E) (x : E) where
  again : (m : ℕ) → m ≤ length run → (t : List E) → beyond rule (run ++ (x ∷ [])) m t ≡ beyond rule run m t
  again m h t = ap (λ (r : List E). rule (r ++ t)) (take-append-le m run (x ∷ []) h)

  longer : length (run ++ (x ∷ [])) ≡ length run + 1
  longer = length-append run (x ∷ [])

  pub open_before : Remembers rule run Open → OpenBefore rule (run ++ (x ∷ []))
  open_before w m h =
      let le : m ≤ length run = omega (arith, longer) in
      let p = w m le in
      ((p.0.0, again m le p.0.0 ∙ p.0.1), (p.1.0, again m le p.1.0 ∙ p.1.1))

  pub lasts : (s : Sight) → (s ≡ Open → ⊥) → Remembers rule run s → Remembers rule (run ++ (x ∷ [])) s
  lasts Open closed w = absurd (closed refl)
  lasts (Lost n) closed w = record { reached = omega (arith, longer, w.reached); never = λ t. again n w.reached t ∙ w.never t; first = λ m h. let q = w.first m h in (q.0, again m (omega (arith, w.reached)) q.0 ∙ q.1) }
  lasts (Safe n) closed w = record { reached = omega (arith, longer, w.reached); always = λ t. again n w.reached t ∙ w.always t; first = λ m h. let q = w.first m h in (q.0, again m (omega (arith, w.reached)) q.0 ∙ q.1) }
