-- A text is cut in one way.
use Rattle.std.proofs.Common.{◌≡◌, ℕ, suc, ◌<◌, List, [], ◌∷◌, ◌++◌, length, get_or, sym, refl, ◌∙◌, subst, inl, inr, arith}
use Rattle.lines.specs.Lines.{Cut, Lined, none, more}

-- No line feed is in it.
abbrev pub Plain : List ℕ → Type 0
Plain l = (k : ℕ) → k < length l → get_or l k 0 ≡ 10 → ⊥

shorter : (x : ℕ) (l : List ℕ) → Plain (x ∷ l) → Plain l
shorter x l p k lt e = p (suc k) (omega arith) e

-- The first line feed stands at one place,
fed_once : (l m r s : List ℕ) → Plain l → Plain m → l ++ (10 ∷ r) ≡ m ++ (10 ∷ s) → (l ≡ m) × (r ≡ s)
fed_once [] [] r s p q e = (refl, (cc))
fed_once [] (y ∷ m) r s p q e = absurd (q 0 (omega arith) (cc))
fed_once (x ∷ l) [] r s p q e = absurd (p 0 (omega arith) (cc))
fed_once (x ∷ l) (y ∷ m) r s p q e =
    let rest : l ++ (10 ∷ r) ≡ m ++ (10 ∷ s) = cc in
    let first : x ≡ y = cc in
    let (a, b) = fed_once l m r s (shorter x l p) (shorter y m q) rest in
    ((cc), b)

-- or at none.
not_fed : (l m r : List ℕ) → Plain m → l ++ (10 ∷ r) ≡ m → ⊥
not_fed [] [] r p e = cc
not_fed [] (y ∷ m) r p e = p 0 (omega arith) (cc)
not_fed (x ∷ l) [] r p e = cc
not_fed (x ∷ l) (y ∷ m) r p e = not_fed l m r (shorter y m p) (cc)

pub cut_once : (text l r m s : List ℕ) → Cut text l r → Cut text m s → (l ≡ m) × (r ≡ s)
cut_once text l r m s c d =
    elim c.whole [
      | inl a ↦ elim d.whole [
        | inl b ↦ fed_once l m r s c.plain d.plain (sym a ∙ b)
        | inr b ↦ absurd (not_fed l m r d.plain (sym a ∙ b.0))
      ]
      | inr a ↦ elim d.whole [
        | inl b ↦ absurd (not_fed m l s c.plain (sym b ∙ a.0))
        | inr b ↦ (sym a.0 ∙ b.0, a.1 ∙ sym b.1)
      ]
    ]

pub lined_once : {text : List ℕ} {ls ms : List (List ℕ)} → Lined text ls → Lined text ms → ls ≡ ms
lined_once none none = refl
lined_once none (more some c t) = absurd (omega arith)
lined_once (more some c t) none = absurd (omega arith)
lined_once {text} (more {line = l} {rest = r} {lines = ls} some c t) (more {line = m} {rest = s} {lines = ms} some' d u) =
    let (a, b) = cut_once text l r m s c d in
    let q = lined_once (subst (λ x. Lined x ls) b t) u in
    cc
