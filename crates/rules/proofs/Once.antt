-- Each text has one outcome.
use Rattle.std.proofs.Common.{◌≡◌, ℕ, ◌+◌, ◌<◌, ◌≤◌, Bool, List, length, get_or, take, Ok, count_by, Result, sym, refl, ap, ◌∙◌, subst, inl, inr, arith, take-take}
use Rattle.std.proofs.lemmas.Bool.{cases_order}
use Rattle.std.proofs.lemmas.List.Sums.{sum_by-take-le, count_by_more_yes}
use Rattle.formulas.specs.declared.word.Word.{Word}
use Rattle.formulas.specs.declared.word.Word.TheVariants.{Name}
use Rattle.formulas.specs.Formulas.{Formula, node, temporal, nodes, promises, one}
use Rattle.grammar.specs.Grammar.{Rules}
use Rattle.grammar.proofs.Places.{one_formula, fails_once}
use Rattle.grammar.proofs.Counting.{counted}
use Rattle.rules.specs.declared.words.Sign.{Sign}
use Rattle.rules.specs.declared.refusal.RuleRefusal.{RuleRefusal}
use Rattle.rules.specs.declared.refusal.RuleRefusal.TheVariants.{NoRule, TooManyNodes, TooManyTemporal}
use Rattle.rules.specs.Lexing.{Meant, mark, foreign, long, known, unknown, Lexing, lexed, spoilt, Lexes, no_more, a_word, spoilt_here, spoilt_later}
use Rattle.rules.specs.Limits.{Exceeds}
use Rattle.rules.specs.Outcomes.{Rejected, no_rule, too_many_nodes, too_many_temporal, Answer, read, refused, Outcome, too_long, no_word, rejected, a_rule}

module _ (count : ℕ) (names : ℕ → List ℕ) (apart : (m n : ℕ) → m < count → n < count → names m ≡ names n → m ≡ n) where
  meant_once : {g : Sign} {s : List ℕ} {a b : Result Word RuleRefusal} → Meant count names g s a → Meant count names g s b → a ≡ b
  meant_once mark mark = refl
  meant_once foreign foreign = refl
  meant_once (long h) (long k) = refl
  meant_once (long h) (known k lt e) = absurd (omega arith)
  meant_once (long h) (unknown k u) = absurd (omega arith)
  meant_once (known h lt e) (long k) = absurd (omega arith)
  meant_once (known {n = n} h lt e) (known {n = m} k lt' e') = ap (λ i. Ok (Name i)) (apart n m lt lt' (e ∙ sym e'))
  meant_once (known {n = n} h lt e) (unknown k u) = absurd (u n lt e)
  meant_once (unknown h u) (long k) = absurd (omega arith)
  meant_once (unknown h u) (known {n = n} k lt e) = absurd (u n lt e)
  meant_once (unknown h u) (unknown k v) = refl

  module _ (text : List ℕ) where
    pub lexes_once : {at : ℕ} {a b : Lexing} → Lexes count names text at a → Lexes count names text at b → a ≡ b
    lexes_once (no_more e) (no_more e') = refl
    lexes_once (no_more e) (a_word lt m l) = absurd (omega arith)
    lexes_once (no_more e) (spoilt_here lt m) = absurd (omega arith)
    lexes_once (no_more e) (spoilt_later lt m l) = absurd (omega arith)
    lexes_once (a_word lt m l) (no_more e) = absurd (omega arith)
    lexes_once (a_word lt m l) (a_word lt' m' l') = let p = meant_once m m' in let q = lexes_once l l' in cc
    lexes_once (a_word lt m l) (spoilt_here lt' m') = let p = meant_once m m' in cc
    lexes_once (a_word lt m l) (spoilt_later lt' m' l') = let q = lexes_once l l' in cc
    lexes_once (spoilt_here lt m) (no_more e) = absurd (omega arith)
    lexes_once (spoilt_here lt m) (a_word lt' m' l') = let p = meant_once m m' in cc
    lexes_once (spoilt_here lt m) (spoilt_here lt' m') = let p = meant_once m m' in cc
    lexes_once (spoilt_here lt m) (spoilt_later lt' m' l') = let p = meant_once m m' in cc
    lexes_once (spoilt_later lt m l) (no_more e) = absurd (omega arith)
    lexes_once (spoilt_later lt m l) (a_word lt' m' l') = let q = lexes_once l l' in cc
    lexes_once (spoilt_later lt m l) (spoilt_here lt' m') = let p = meant_once m m' in cc
    lexes_once (spoilt_later lt m l) (spoilt_later lt' m' l') = lexes_once l l'

-- The word that is one too many is one, and there is none within the limit.
module _ (test : Word → Bool) (limit : ℕ) (ws : List Word) where
  with_it : (i : ℕ) → Exceeds test limit ws i → count_by test (take (i + 1) ws) ≡ limit + 1
  with_it i e = count_by_more_yes test ws i (Name 0) e.inside e.there ∙ ap (λ n. n + 1) e.full

  pub over : (i : ℕ) → Exceeds test limit ws i → limit < count_by test ws
  over i e = omega (arith, with_it i e, sum_by-take-le (one test) ws (i + 1))

  exceeds_before : (i j : ℕ) → Exceeds test limit ws i → Exceeds test limit ws j → i < j → ⊥
  exceeds_before i j e d lt =
      omega (arith, with_it i e, d.full, sum_by-take-le (one test) (take j ws) (i + 1), ap (count_by test) (take-take (i + 1) j ws (omega arith)))

  pub exceeds_once : (i j : ℕ) → Exceeds test limit ws i → Exceeds test limit ws j → i ≡ j
  exceeds_once i j e d =
      elim (cases_order i j) [
        | inl same ↦ same
        | inr apart ↦ elim apart [ inl lt ↦ absurd (exceeds_before i j e d lt) | inr gt ↦ absurd (exceeds_before j i d e gt) ]
      ]

-- The words of a rule and of its formula are as many.
pub node_count : (ws : List Word) (f : Formula) → Rules ws f → count_by node ws ≡ nodes f
node_count ws f d = omega (arith, counted node refl refl d)

pub operator_count : (ws : List Word) (f : Formula) → Rules ws f → count_by temporal ws ≡ promises f
operator_count ws f d = omega (arith, counted temporal refl refl d)

nodes_clash : (ws : List Word) (f g : Formula) (i : ℕ) → Rules ws f → Exceeds node 48 ws i → Rules ws g → nodes g ≤ 48 → ⊥
nodes_clash ws f g i d e d' h = omega (arith, over node 48 ws i e, node_count ws g d')

operators_clash : (ws : List Word) (i : ℕ) (g : Formula) → Exceeds temporal 12 ws i → Rules ws g → promises g ≤ 12 → ⊥
operators_clash ws i g e d h = omega (arith, over temporal 12 ws i e, operator_count ws g d)

module _ (ws : List Word) (ps : List ℕ) (end : ℕ) where
  told : (r : RuleRefusal) (i j : ℕ) → i ≡ j → refused r (get_or ps i end) ≡ refused r (get_or ps j end)
  told r i j e = ap (λ k. refused r (get_or ps k end)) e

  rejected_once : {r r' : RuleRefusal} {p p' : ℕ} → Rejected ws ps end r p → Rejected ws ps end r' p' → refused r p ≡ refused r' p'
  rejected_once (no_rule {n = n} h) (no_rule {n = m} k) = told NoRule n m (fails_once ws n m h k)
  rejected_once (no_rule h) (too_many_nodes d e) = absurd (h.no_rule _ d)
  rejected_once (no_rule h) (too_many_temporal d few e) = absurd (h.no_rule _ d)
  rejected_once (too_many_nodes d e) (no_rule h) = absurd (h.no_rule _ d)
  rejected_once (too_many_nodes {i = i} d e) (too_many_nodes {i = j} d' e') = told TooManyNodes i j (exceeds_once node 48 ws i j e e')
  rejected_once (too_many_nodes d e) (too_many_temporal d' few e') = absurd (nodes_clash ws _ _ _ d e d' few)
  rejected_once (too_many_temporal d few e) (no_rule h) = absurd (h.no_rule _ d)
  rejected_once (too_many_temporal d few e) (too_many_nodes d' e') = absurd (nodes_clash ws _ _ _ d' e' d few)
  rejected_once (too_many_temporal {i = i} d few e) (too_many_temporal {i = j} d' few' e') = told TooManyTemporal i j (exceeds_once temporal 12 ws i j e e')

  rejected_no_rule : {r : RuleRefusal} {p : ℕ} (f : Formula) → Rejected ws ps end r p → Rules ws f → nodes f ≤ 48 → promises f ≤ 12 → ⊥
  rejected_no_rule f (no_rule h) d n m = h.no_rule f d
  rejected_no_rule f (too_many_nodes d e) d' n m = nodes_clash ws _ f _ d e d' n
  rejected_no_rule f (too_many_temporal d few e) d' n m = operators_clash ws _ f e d' m

module _ (count : ℕ) (names : ℕ → List ℕ) (apart : (m n : ℕ) → m < count → n < count → names m ≡ names n → m ≡ n) (text : List ℕ) where
  same_words : {ws ws' : List Word} {ps ps' : List ℕ} → Lexes count names text 0 (lexed ws ps) → Lexes count names text 0 (lexed ws' ps') → (ws ≡ ws') × (ps ≡ ps')
  same_words l l' = let q = lexes_once count names apart text l l' in ((cc), (cc))

  clash : {X : Type 0} {ws : List Word} {ps : List ℕ} {r : RuleRefusal} {p : ℕ} → Lexes count names text 0 (lexed ws ps) → Lexes count names text 0 (spoilt r p) → X
  clash l l' = let q = lexes_once count names apart text l l' in cc

  pub outcome_once : {a b : Answer} → Outcome count names text a → Outcome count names text b → a ≡ b
  outcome_once (too_long h) (too_long k) = refl
  outcome_once (too_long h) (no_word k l) = absurd (omega arith)
  outcome_once (too_long h) (rejected k l j) = absurd (omega arith)
  outcome_once (too_long h) (a_rule k l d n m) = absurd (omega arith)
  outcome_once (no_word h l) (too_long k) = absurd (omega arith)
  outcome_once (no_word h l) (no_word k l') = let q = lexes_once count names apart text l l' in cc
  outcome_once (no_word h l) (rejected k l' j) = clash l' l
  outcome_once (no_word h l) (a_rule k l' d n m) = clash l' l
  outcome_once (rejected h l j) (too_long k) = absurd (omega arith)
  outcome_once (rejected h l j) (no_word k l') = clash l l'
  outcome_once (rejected {ws = ws} {r = r} {p = p} h l j) (rejected {ws = ws'} {ps = ps'} k l' j') =
      let (e, i) = same_words l l' in
      rejected_once ws' ps' (length text) (subst (λ vs. Rejected vs ps' (length text) r p) e (subst (λ qs. Rejected ws qs (length text) r p) i j)) j'
  outcome_once (rejected {ps = ps} {r = r} {p = p} h l j) (a_rule {ws = ws'} {f = f} k l' d n m) =
      let (e, i) = same_words l l' in
      absurd (rejected_no_rule ws' ps (length text) f (subst (λ vs. Rejected vs ps (length text) r p) e j) d n m)
  outcome_once (a_rule h l d n m) (too_long k) = absurd (omega arith)
  outcome_once (a_rule h l d n m) (no_word k l') = clash l l'
  outcome_once (a_rule {ws = ws} {f = f} h l d n m) (rejected {ps = ps'} {r = r} {p = p} k l' j) =
      let (e, i) = same_words l' l in
      absurd (rejected_no_rule ws ps' (length text) f (subst (λ vs. Rejected vs ps' (length text) r p) e j) d n m)
  outcome_once (a_rule {f = f} h l d n m) (a_rule {ws = ws'} {f = g} k l' d' n' m') =
      let (e, i) = same_words l l' in
      ap read (one_formula ws' f g (subst (λ vs. Rules vs f) e d) d')
