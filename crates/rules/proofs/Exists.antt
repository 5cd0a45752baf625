-- Every text comes to something.
use Rattle.std.proofs.Common.{◌≡◌, ℕ, zero, suc, ◌+◌, ◌<◌, ◌≤◌, eqb, ◌⊎◌, List, [], ◌∷◌, length, drop, Ok, Err, Result, sym, ap, ◌∙◌, inl, inr, arith, length-drop}
use Rattle.std.specs.Str.{bytes_eq}
use Rattle.std.proofs.lemmas.Bool.{cases_lt, cases_Bool}
use Rattle.std.proofs.lemmas.Slice.Eq.{bytes_eq-Decides}
use Rattle.std.proofs.lemmas.List.Sums.{prefix_len-le-length}
use Rattle.formulas.specs.declared.word.Word.{Word}
use Rattle.formulas.specs.declared.word.Word.TheVariants.{Name}
use Rattle.rules.specs.declared.words.Sign.{Sign}
use Rattle.rules.specs.declared.words.Sign.TheVariants.{Letter, Mark, Foreign}
use Rattle.rules.specs.declared.refusal.RuleRefusal.{RuleRefusal}
use Rattle.rules.specs.declared.refusal.RuleRefusal.TheVariants.{ForeignByte, LongName, UnknownName}
use Rattle.rules.specs.Texts.{letter, begins, sign_of, ends, piece}
use Rattle.rules.specs.Lexing.{Meant, mark, foreign, long, known, unknown, Lexing, lexed, spoilt, Lexes, no_more, a_word, spoilt_here, spoilt_later, OneLexing}
use Rattle.rules.proofs.Runs.{max-size}
use Rattle.rules.proofs.Once.{lexes_once}

same_bytes : (a b : List ℕ) → (a ≡ b) ⊎ (a ≡ b → ⊥)
same_bytes a b =
    let decides = bytes_eq-Decides a b in
    elim (cases_Bool (bytes_eq a b)) [ inl same ↦ inl (decides.0 same) | inr other ↦ inr (λ e. let same = decides.1 e in cc) ]

module _ (count : ℕ) (names : ℕ → List ℕ) where
  named : (s : List ℕ) (k : ℕ) → ((n : ℕ) × (n < k) × (names n ≡ s)) ⊎ ((n : ℕ) → n < k → names n ≡ s → ⊥)
  named s zero = inr (λ n lt e. omega arith)
  named s (suc k) =
      elim (same_bytes (names k) s) [
        | inl e ↦ inl (k, omega arith, e)
        | inr ne ↦ elim (named s k) [
          | inl x ↦ inl (x.0, omega (arith, x.1), x.2)
          | inr none ↦ inr (λ n lt e. elim (cases_lt n k) [ inl less ↦ none n less e | inr ge ↦ (let q : n ≡ k = omega arith in ne (ap names (sym q) ∙ e)) ])
        ]
      ]

  meant : (g : Sign) (s : List ℕ) → (r : Result Word RuleRefusal) × Meant count names g s r
  meant (Mark w) s = (Ok w, mark)
  meant Foreign s = (Err ForeignByte, foreign)
  meant Letter s =
      elim (cases_lt 8 (length s)) [
        | inl lt ↦ (Err LongName, long lt)
        | inr le ↦ elim (named s count) [
          | inl x ↦ (Ok (Name x.0), known le x.1 x.2)
          | inr none ↦ (Err UnknownName, unknown le none)
        ]
      ]

  module _ (text : List ℕ) where
    begins_within : (at : ℕ) → at ≤ length text → begins text at ≤ length text
    begins_within at h = omega (arith, prefix_len-le-length (λ b. eqb b 32) (drop at text), length-drop at text)

    ends_within : (at : ℕ) → begins text at < length text → (begins text at < ends text at) × (ends text at ≤ length text)
    unfolding ends
    ends_within at lt =
        let rest = drop (begins text at) text in
        let size = max-size rest in
        (omega (arith, size), omega (arith, size, prefix_len-le-length letter rest, length-drop (begins text at) text))

    go_on : (at : ℕ) → begins text at < length text → (l : Lexing) × Lexes count names text (ends text at) l → (l : Lexing) × Lexes count names text at l
    go_on at lt rest = first (meant (sign_of text at) (piece text at)) rest
      where
        first : (r : Result Word RuleRefusal) × Meant count names (sign_of text at) (piece text at) r → (l : Lexing) × Lexes count names text (ends text at) l → (l : Lexing) × Lexes count names text at l
        first (Err r, m) (l, d) = (spoilt r (begins text at), spoilt_here lt m)
        first (Ok w, m) (lexed ws ps, d) = (lexed (w ∷ ws) (begins text at ∷ ps), a_word lt m d)
        first (Ok w, m) (spoilt r p, d) = (spoilt r p, spoilt_later lt m d)

    lexes_from : (k at : ℕ) → at ≤ length text → length text ≤ at + k → (l : Lexing) × Lexes count names text at l
    lexes_from zero at inside near =
        let all : begins text at ≡ length text = omega (arith, begins_within at inside) in
        (lexed [] [], no_more all)
    lexes_from (suc k) at inside near =
        elim (cases_lt (begins text at) (length text)) [
          | inl lt ↦ (let e = ends_within at lt in go_on at lt (lexes_from k (ends text at) e.1 (omega (arith, e.0))))
          | inr ge ↦ (let all : begins text at ≡ length text = omega (arith, begins_within at inside) in (lexed [] [], no_more all))
        ]

    pub one_lexing : ((m n : ℕ) → m < count → n < count → names m ≡ names n → m ≡ n) → OneLexing count names text
    one_lexing apart =
        let (l, d) = lexes_from (length text) 0 (omega arith) (omega arith) in
        record { lexing = l; lexes = d; only = λ a q. lexes_once count names apart text q d }
