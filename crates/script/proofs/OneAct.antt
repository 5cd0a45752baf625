-- The text of an act has one reading.
use Rattle.std.proofs.Common.{◌≡◌, ℕ, cond, eqb, List, ◌++◌, get_or, drop, Ok, Err, codes, Result, sym, refl, ap, ◌∙◌, subst, arith}
use Rattle.events.specs.declared.refusal.EventRefusal.{EventRefusal}
use Rattle.events.specs.declared.refusal.EventRefusal.TheVariants as event
use Rattle.notation.specs.Refusals.{carried}
use Rattle.notation.specs.declared.refusal.LineRefusal.{LineRefusal}
use Rattle.session.specs.declared.turn.Act.{Act}
use Rattle.session.specs.declared.turn.Act.TheVariants.{Open, Take, Ask, Close}
use Rattle.lines.specs.Numerals.{NumberWritten}
use Rattle.script.specs.Acts.{ActWritten, TakeRefused, ActRead}
use Rattle.script.specs.Refusals.{take_refusal}
use Rattle.script.specs.declared.refusal.TurnRefusal.{TurnRefusal}
use Rattle.script.specs.declared.refusal.TurnRefusal.TheVariants.{NotATurn, Event}

data Kind : Type 0 where
  opening : Kind
  taking : Kind
  asking : Kind
  closing : Kind
  none : Kind

-- The kind of an act, by the first letter of its text.
abbrev kind_of : List ℕ → Kind
kind_of text = cond (eqb (get_or text 0 0) 111) opening (cond (eqb (get_or text 0 0) 116) taking (cond (eqb (get_or text 0 0) 97) asking (cond (eqb (get_or text 0 0) 99) closing none)))

told_carried : (x : EventRefusal) → take_refusal (carried x) ≡ Event x
told_carried event.CellOver63 = refl
told_carried event.KindUnknown = refl
told_carried event.BitNotZero = refl

pub first_byte : (xs ys : List ℕ) → xs ≡ ys → get_or xs 0 0 ≡ get_or ys 0 0
first_byte xs ys p = ap (λ (l : List ℕ). get_or l 0 0) p

pub no_look : {E : Type 0} (written : E → List ℕ) (means : List ℕ → Result E LineRefusal → Type 0) (text : List ℕ) (r : Result (Act E) TurnRefusal) → ActRead written means text r → text ≡ codes "look" → r ≡ Err NotATurn
no_look written means text (Ok Open) p e = absurd (omega (arith, first_byte _ _ (sym e ∙ p)))
no_look written means text (Ok (Take f)) p e = absurd (omega (arith, first_byte _ _ (sym e ∙ p)))
no_look written means text (Ok Ask) p e = absurd (omega (arith, first_byte _ _ (sym e ∙ p)))
no_look written means text (Ok (Close n)) p e = absurd (omega (arith, first_byte _ _ (sym e ∙ p.1)))
no_look written means text (Err NotATurn) p e = refl
no_look written means text (Err (Event x)) p e = absurd (omega (arith, first_byte _ _ (sym e ∙ p.1)))

module _ {E : Type 0} (written : E → List ℕ) (means : List ℕ → Result E LineRefusal → Type 0) (back : (x : E) → means (written x) (Ok x)) (once : (l : List ℕ) (r s : Result E LineRefusal) → means l r → means l s → r ≡ s) where
  -- an event that is read, as an act
  abbrev taken : Result E LineRefusal → Result (Act E) TurnRefusal
  taken (Ok e) = Ok (Take e)
  taken (Err y) = Err (take_refusal y)

  abbrev ReadAs : Kind → List ℕ → Result (Act E) TurnRefusal → Type 0
  ReadAs opening text r = (text ≡ codes "open") × (r ≡ Ok Open)
  ReadAs taking text r = (rest : List ℕ) × (q : Result E LineRefusal) × (text ≡ codes "take " ++ rest) × means rest q × (r ≡ taken q)
  ReadAs asking text r = (text ≡ codes "ask") × (r ≡ Ok Ask)
  ReadAs closing text r = (rest : List ℕ) × (n : ℕ) × (text ≡ codes "close " ++ rest) × NumberWritten rest n × (r ≡ Ok (Close n))
  ReadAs none text r = ⊥

  record Placed (text : List ℕ) (r : Result (Act E) TurnRefusal) : Type 0 where
    kind : Kind
    here : ReadAs kind text r

  kind_is : (k : Kind) (text : List ℕ) (r : Result (Act E) TurnRefusal) → ReadAs k text r → kind_of text ≡ k
  kind_is opening text r p = ap kind_of p.0
  kind_is taking text r p = ap kind_of p.2
  kind_is asking text r p = ap kind_of p.0
  kind_is closing text r p = ap kind_of p.2
  kind_is none text r p = absurd p

  as_once : (k : Kind) (text : List ℕ) (r s : Result (Act E) TurnRefusal) → ReadAs k text r → ReadAs k text s → r ≡ s
  as_once opening text r s p q = p.1 ∙ sym q.1
  as_once taking text r s p q =
      let e : p.0 ≡ q.0 = ap (λ (l : List ℕ). drop 5 l) (sym p.2 ∙ q.2) in
      let same : p.1 ≡ q.1 = once q.0 p.1 q.1 (subst (λ (l : List ℕ). means l p.1) e p.3) q.3 in
      p.4 ∙ ap taken same ∙ sym q.4
  as_once asking text r s p q = p.1 ∙ sym q.1
  as_once closing text r s p q =
      let e : p.0 ≡ q.0 = ap (λ (l : List ℕ). drop 6 l) (sym p.2 ∙ q.2) in
      let h : NumberWritten q.0 p.1 = subst (λ (l : List ℕ). NumberWritten l p.1) e p.3 in
      let same : p.1 ≡ q.1 = h.2 ∙ sym q.3.2 in
      p.4 ∙ ap (λ (n : ℕ). Ok (Close n)) same ∙ sym q.4
  as_once none text r s p q = absurd p

  placed : (text : List ℕ) (a : Act E) → ActWritten written text a → Placed text (Ok a)
  placed text Open p = record { kind = opening; here = (p, refl) }
  placed text (Take e) p = record { kind = taking; here = (written e, Ok e, p, back e, refl) }
  placed text Ask p = record { kind = asking; here = (p, refl) }
  placed text (Close n) p = record { kind = closing; here = (p.0, n, p.1, p.2, refl) }

  placed_refused : (text : List ℕ) (x : EventRefusal) → TakeRefused means text x → Placed text (Err (Event x))
  placed_refused text x p = record { kind = taking; here = (p.0, Err (carried x), p.1, p.2, ap (λ (y : TurnRefusal). Err y) (sym (told_carried x))) }

  placed_once : (text : List ℕ) (r s : Result (Act E) TurnRefusal) → Placed text r → Placed text s → r ≡ s
  placed_once text r s p q =
      let e : p.kind ≡ q.kind = sym (kind_is p.kind text r p.here) ∙ kind_is q.kind text s q.here in
      as_once q.kind text r s (subst (λ (k : Kind). ReadAs k text r) e p.here) q.here

  pub act_once : (text : List ℕ) (r s : Result (Act E) TurnRefusal) → ActRead written means text r → ActRead written means text s → r ≡ s
  act_once text (Ok a) (Ok b) p q = placed_once text (Ok a) (Ok b) (placed text a p) (placed text b q)
  act_once text (Ok a) (Err NotATurn) p q = absurd (q.0 a p)
  act_once text (Ok a) (Err (Event y)) p q = placed_once text (Ok a) (Err (Event y)) (placed text a p) (placed_refused text y q)
  act_once text (Err NotATurn) (Ok b) p q = absurd (p.0 b q)
  act_once text (Err NotATurn) (Err NotATurn) p q = refl
  act_once text (Err NotATurn) (Err (Event y)) p q = absurd (p.1 y q)
  act_once text (Err (Event x)) (Ok b) p q = placed_once text (Err (Event x)) (Ok b) (placed_refused text x p) (placed text b q)
  act_once text (Err (Event x)) (Err NotATurn) p q = absurd (q.1 x p)
  act_once text (Err (Event x)) (Err (Event y)) p q = placed_once text (Err (Event x)) (Err (Event y)) (placed_refused text x p) (placed_refused text y q)
