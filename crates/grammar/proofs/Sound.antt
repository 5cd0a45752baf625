-- What the machine reads is derived.
use Rattle.std.proofs.Common.{◌≡◌, Bool, true, false, List, [], ◌∷◌, IfSome, Some, None, Option, sym, refl, subst}
use Rattle.formulas.specs.declared.binary.Binary.TheVariants.{And, Or, Implies, Iff, Until}
use Rattle.formulas.specs.declared.word.Word.{Word}
use Rattle.formulas.specs.declared.word.Word.TheVariants.{Name, Constant, Open, Close, Prefix, Infix}
use Rattle.formulas.specs.Formulas.{Formula}
use Rattle.grammar.specs.Grammar.{Level, rule, implication, alternative, conjunction, until, operand, Derives, Rules, a_name, a_constant, a_prefix, a_bracket, an_operand, an_until, a_part, an_and, a_conjunction, an_or, an_alternative, an_implies, an_implication, an_iff}
use Rattle.grammar.specs.Machine.{Slot, idle, Stack, base, over, State, wants, has, read, stuck, step, ends, outcome, start}

-- a part of level l that begins at ws makes, with what is pending, a part of level m that begins at vs
abbrev Lifts : Level → Level → List Word → List Word → Slot → Type 0
Lifts l m vs ws s = (rest : List Word) (g : Formula) → Derives l ws rest g → Derives m vs rest (s g)

-- what is pending in one bracket whose inside begins at b, with an `until` next at ws
record Pending (b : List Word) (e : Bool) (s t o a n : Slot) (ws : List Word) : Type 0 where
  one : List Word
  two : List Word
  three : List Word
  four : List Word
  first : e ≡ false → Lifts implication implication b one idle
  sames : Lifts implication rule b one s
  thens : Lifts implication implication one two t
  ors : Lifts conjunction alternative two three o
  ands : Lifts until conjunction three four a
  untils : Lifts until until four ws n

-- the open brackets account for the words from all up to ws
Brackets : Stack → List Word → List Word → Type 0
Brackets base all ws = all ≡ ws
Brackets (over e s t o a n p k) all ws =
    (b : List Word) × (v : List Word) × Brackets k all b × Pending b e s t o a n v × ((rest : List Word) (g : Formula) → Derives operand (Open ∷ ws) rest g → Derives operand v rest (p g))

Good : State → List Word → List Word → Type 0
Good (wants e s t o a n p k) all ws =
    (b : List Word) × (v : List Word) × Brackets k all b × Pending b e s t o a n v × Lifts operand operand v ws p
Good (has f e s t o a n k) all ws =
    (b : List Word) × (v : List Word) × Brackets k all b × Pending b e s t o a n v × Derives operand v ws f

none : (ws : List Word) → Pending ws false idle idle idle idle idle ws
none ws = record {
  one = ws;
  two = ws;
  three = ws;
  four = ws;
  first = λ h rest g d. d;
  sames = λ rest g d. an_implication d;
  thens = λ rest g d. d;
  ors = λ rest g d. a_conjunction d;
  ands = λ rest g d. a_part d;
  untils = λ rest g d. d;
}

module _ {b : List Word} {e : Bool} {s t o a n : Slot} {v : List Word} (q : Pending b e s t o a n v) {ws : List Word} {f : Formula} (d : Derives operand v ws f) where
  to_until : Derives until q.four ws (n f)
  to_until = q.untils ws f (an_operand d)

  to_and : Derives conjunction q.three ws (a (n f))
  to_and = q.ands ws _ to_until

  to_or : Derives alternative q.two ws (o (a (n f)))
  to_or = q.ors ws _ to_and

  to_then : Derives implication q.one ws (t (o (a (n f))))
  to_then = q.thens ws _ (an_alternative to_or)

  to_same : Derives rule b ws (s (t (o (a (n f)))))
  to_same = q.sames ws _ to_then

steps : (st : State) (w : Word) (all ws : List Word) → Good st all (w ∷ ws) → IfSome (step st w) (λ next. Good next all ws)
unfolding Good Brackets
steps (wants e s t o a n p k) (Name m) all ws (b, v, h, q, l) = (b, v, h, q, l ws _ a_name)
steps (wants e s t o a n p k) (Constant c) all ws (b, v, h, q, l) = (b, v, h, q, l ws _ a_constant)
steps (wants e s t o a n p k) (Prefix r) all ws (b, v, h, q, l) = (b, v, h, q, λ rest g d. l rest _ (a_prefix d))
steps (wants e s t o a n p k) Open all ws (b, v, h, q, l) = (ws, ws, (b, v, h, q, l), none ws, λ rest g d. d)
steps (wants e s t o a n p k) Close all ws x = tt
steps (wants e s t o a n p k) (Infix i) all ws x = tt
steps (has f e s t o a n k) (Name m) all ws x = tt
steps (has f e s t o a n k) (Constant b) all ws x = tt
steps (has f e s t o a n k) (Prefix r) all ws x = tt
steps (has f e s t o a n k) Open all ws x = tt
steps (has f e s t o a n base) Close all ws x = tt
steps (has f e s t o a n (over e' s' t' o' a' n' p' k)) Close all ws (b, v, h, q, d) =
    (h.0, h.1, h.2, h.3, h.4 ws _ (a_bracket (to_same q d)))
steps (has f e s t o a n k) (Infix Until) all ws (b, v, h, q, d) =
    (b, ws, h, record { one = q.one; two = q.two; three = q.three; four = q.four; first = q.first; sames = q.sames; thens = q.thens; ors = q.ors; ands = q.ands; untils = λ rest g r. q.untils rest _ (an_until d r) }, λ rest g r. r)
steps (has f e s t o a n k) (Infix And) all ws (b, v, h, q, d) =
    (b, ws, h, record { one = q.one; two = q.two; three = q.three; four = ws; first = q.first; sames = q.sames; thens = q.thens; ors = q.ors; ands = λ rest g r. an_and (to_and q d) r; untils = λ rest g r. r }, λ rest g r. r)
steps (has f e s t o a n k) (Infix Or) all ws (b, v, h, q, d) =
    (b, ws, h, record { one = q.one; two = q.two; three = ws; four = ws; first = q.first; sames = q.sames; thens = q.thens; ors = λ rest g r. an_or (to_or q d) r; ands = λ rest g r. a_part r; untils = λ rest g r. r }, λ rest g r. r)
steps (has f e s t o a n k) (Infix Implies) all ws (b, v, h, q, d) =
    (b, ws, h, record { one = q.one; two = ws; three = ws; four = ws; first = q.first; sames = q.sames; thens = λ rest g r. q.thens rest _ (an_implies (to_or q d) r); ors = λ rest g r. a_conjunction r; ands = λ rest g r. a_part r; untils = λ rest g r. r }, λ rest g r. r)
steps (has f false s t o a n k) (Infix Iff) all ws (b, v, h, q, d) =
    (b, ws, h, record { one = ws; two = ws; three = ws; four = ws; first = λ z. absurd (cc); sames = λ rest g r. an_iff (q.first refl _ _ (to_then q d)) r; thens = λ rest g r. r; ors = λ rest g r. a_conjunction r; ands = λ rest g r. a_part r; untils = λ rest g r. r }, λ rest g r. r)
steps (has f true s t o a n k) (Infix Iff) all ws x = tt

pub unread : (ws : List Word) (f : Formula) → stuck ws ≡ read f → ⊥
unread ws f h = cc

ended : (st : State) (all : List Word) (f : Formula) → Good st all [] → ends st ≡ read f → Rules all f
unfolding Good Brackets
ended (wants e s t o a n p k) all f x h = absurd (unread _ _ h)
ended (has g e s t o a n base) all f (b, v, i, q, d) h =
    let same : s (t (o (a (n g)))) ≡ f = cc in
    subst (λ z. Rules all z) same (subst (λ z. Derives rule z [] (s (t (o (a (n g)))))) (sym i) (to_same q d))
ended (has g e s t o a n (over e' s' t' o' a' n' p' k)) all f x h = absurd (unread _ _ h)

runs : (ws : List Word) (st : State) (all : List Word) (f : Formula) → Good st all ws → outcome ws st ≡ read f → Rules all f
runs [] st all f x h = ended st all f x h
runs (w ∷ ws) st all f x h = go (step st w) (λ next y i. runs ws next all f y i) (steps st w all ws x) h
  where
    go : (m : Option State) → ((next : State) → Good next all ws → outcome ws next ≡ read f → Rules all f) → IfSome m (λ next. Good next all ws) → elim m [ Some next ↦ outcome ws next | None ↦ stuck (w ∷ ws) ] ≡ read f → Rules all f
    go None more y i = absurd (unread _ _ i)
    go (Some next) more y i = more next y i

pub sound : (ws : List Word) (f : Formula) → outcome ws start ≡ read f → Rules ws f
unfolding Good Brackets
sound ws f h = runs ws start ws f (ws, ws, refl, none ws, λ rest g d. d) h
