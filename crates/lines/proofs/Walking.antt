-- The lines of a text, taken one by one.
use Rattle.std.proofs.Common.{◌≡◌, ℕ, zero, suc, ◌+◌, ◌<◌, ◌≤◌, ◌≢◌, Bool, true, false, cond, ◌==◌, List, [], ◌∷◌, ◌++◌, length, map, Some, None, Option, Bor, refl, ap, ◌∙◌, subst, append-nil, inl, inr, ⊎_elim, arith, eqb-true}
use borrow.Author.Tests.{eqb-false}
use Rattle.lines.specs.Lines.{Cut, Lined, none, more}
use Rattle.std.specs.Iterator.{Yields, YieldsFirstRef}
use Rattle.std.specs.List.{onto_first}
use Rattle.lines.specs.declared.walk.Lines.{Lines}
use Rattle.lines.specs.Walks.{lines_of, lines_left}
use Rattle.lines.proofs.Once.{Plain, lined_once}

head_plain : (b : ℕ) (l : List ℕ) → b ≢ 10 → Plain l → Plain (b ∷ l)
head_plain b l other plain zero lt = other
head_plain b l other plain (suc k) lt = plain k (omega arith)

longer : (b : ℕ) (bs : List ℕ) (ls : List (List ℕ)) → b ≢ 10 → Lined bs ls → Lined (b ∷ bs) (onto_first b ls)
longer b bs ls other none =
    let cut : Cut (b ∷ []) (b ∷ []) [] = record { whole = inr (refl, refl); plain = head_plain b [] other (λ k lt. absurd (omega arith)) } in
    more (omega arith) cut none
longer b bs ls other (more {line = l} {rest = r} some cut rest) =
    let longer_cut : Cut (b ∷ bs) (b ∷ l) r =
    record { whole = ⊎_elim (λ e. inl (ap (λ x. b ∷ x) e)) (λ (e, n). inr (ap (λ x. b ∷ x) e, n)) cut.whole; plain = head_plain b l other cut.plain } in
    more (omega arith) longer_cut rest

by_first : (b : ℕ) (bs : List ℕ) (ls : List (List ℕ)) (feed : Bool) → (b == 10) ≡ feed → Lined bs ls → Lined (b ∷ bs) (cond feed ([] ∷ ls) (onto_first b ls))
by_first b bs ls true e h =
    let cut : Cut (b ∷ bs) [] bs = record { whole = inl (ap (λ x. x ∷ bs) (eqb-true b 10 e)); plain = λ k lt. absurd (omega arith) } in
    more (omega arith) cut h
by_first b bs ls false e h = longer b bs ls (eqb-false b 10 e) h

pub lined_of : (text : List ℕ) → Lined text (lines_of text)
unfolding lines_of
lined_of [] = none
lined_of (b ∷ bs) = by_first b bs (lines_of bs) (b == 10) refl (lined_of bs)

pub taken : (text line after : List ℕ) → 0 < length text → Cut text line after → lines_of text ≡ line ∷ lines_of after
taken text line after some cut = lined_once (lined_of text) (more some cut (lined_of after))

pub ended : (text : List ℕ) → length text ≡ 0 → lines_of text ≡ []
unfolding lines_of
ended [] e = refl
ended (b ∷ bs) e = absurd (omega arith)

one_at_most : (b : ℕ) (ls : List (List ℕ)) (n : ℕ) → length ls ≤ n → length (onto_first b ls) ≤ n + 1
one_at_most b [] n h = omega arith
one_at_most b (l ∷ ls) n h = omega arith

few_by_first : (b : ℕ) (ls : List (List ℕ)) (n : ℕ) (feed : Bool) → length ls ≤ n → length (cond feed ([] ∷ ls) (onto_first b ls)) ≤ n + 1
few_by_first b ls n true h = omega arith
few_by_first b ls n false h = one_at_most b ls n h

pub few : (text : List ℕ) → length (lines_of text) ≤ length text
unfolding lines_of
few [] = omega arith
few (b ∷ bs) = omega (arith, few_by_first b (lines_of bs) (length bs) (b == 10) (few bs))

-- A `for` over the lines that began at s and has yielded xs.
pub walked : (s t : Lines) (xs : List (Bor (List ℕ))) → Yields (YieldsFirstRef lines_left) s xs t → lines_left s ≡ map (λ x. x.now) xs ++ lines_left t
walked s t [] y = ap lines_left y
walked s t (x ∷ xs) (u, first, y) = first ∙ ap (λ ls. x.now ∷ ls) (walked u t xs y)

pub all_walked : (text : List ℕ) (s t u : Lines) (xs : List (Bor (List ℕ))) (r : Option (Bor (List ℕ))) → Lined text (lines_left s) → Yields (YieldsFirstRef lines_left) s xs t → r ≡ None → YieldsFirstRef lines_left t r u → Lined text (map (λ x. x.now) xs)
all_walked text s t u xs None lined y e (none_left, gone) =
    subst (Lined text) (walked s t xs y ∙ ap (λ ls. map (λ x. x.now) xs ++ ls) none_left ∙ append-nil (map (λ x. x.now) xs)) lined
all_walked text s t u xs (Some x) lined y e step = absurd (cc)
