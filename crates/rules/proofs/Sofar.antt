-- What a turn of the loop over the words keeps.
use Rattle.std.proofs.Common.{ℕ, ◌<◌, ◌≤◌, List, [], ◌∷◌, ◌++◌, length, Some, None, Ok, Err, sym, subst₂, append_assoc, append-nil, length-append, arith}
use Rattle.formulas.specs.declared.word.Word.{Word}
use Rattle.rules.specs.declared.words.Piece.{Piece}
use Rattle.rules.specs.declared.refusal.RuleRefusal.{RuleRefusal}
use Rattle.rules.specs.Texts.{begins, Taken}
use Rattle.rules.specs.Lexing.{Meant, lexed, spoilt, Lexes, no_more, a_word, spoilt_here, spoilt_later}

pub record Sofar (count : ℕ) (names : ℕ → List ℕ) (text : List ℕ) (at : ℕ) (words : List Word) (places : List ℕ) : Type 0 where
  pub few : length words ≤ at
  pub read : (ws : List Word) (ps : List ℕ) → Lexes count names text at (lexed ws ps) → Lexes count names text 0 (lexed (words ++ ws) (places ++ ps))
  pub fails : (r : RuleRefusal) (p : ℕ) → Lexes count names text at (spoilt r p) → Lexes count names text 0 (spoilt r p)

module _ (count : ℕ) (names : ℕ → List ℕ) (text : List ℕ) (at : ℕ) (words : List Word) (places : List ℕ) (s : Sofar count names text at words places) where
  pub spoils : (p : Piece) (to : ℕ) (r : RuleRefusal) → Taken text at (Some p) to → Meant count names p.sign p.part.now (Err r) → Lexes count names text 0 (spoilt r p.place)
  spoils p to r h m =
      rw h.1 (s.fails r (begins text at) (spoilt_here h.0 (subst₂ (λ a b. Meant count names a b (Err r)) h.2 h.3 m)))

  pub at_last : (to : ℕ) → Taken text at None to → Lexes count names text 0 (lexed words places)
  at_last to e = subst₂ (λ ws ps. Lexes count names text 0 (lexed ws ps)) (append-nil words) (append-nil places) (s.read [] [] (no_more e))

  pub one_more : (p : Piece) (to : ℕ) (w : Word) → Taken text at (Some p) to → at < to → Meant count names p.sign p.part.now (Ok w) → Sofar count names text to (words ++ w ∷ []) (places ++ p.place ∷ [])
  one_more p to w h on m =
      let here = begins text at in
      let n : Meant count names _ _ (Ok w) = subst₂ (λ a b. Meant count names a b (Ok w)) h.2 h.3 m in
      subst₂ (λ t q. Sofar count names text t (words ++ w ∷ []) (places ++ q ∷ [])) (sym h.4) (sym h.1) (record {
        few = omega (arith, length-append words (w ∷ []), s.few, h.4);
        read = λ ws ps l. subst₂ (λ vs qs. Lexes count names text 0 (lexed vs qs))
            (sym (append_assoc words (w ∷ []) ws))
            (sym (append_assoc places (here ∷ []) ps))
            (s.read (w ∷ ws) (here ∷ ps) (a_word h.0 n l));
        fails = λ r p q. s.fails r p (spoilt_later h.0 n q);
      })
