-- What each level of the parser adds to what the level below it answered.
use Rattle.std.proofs.Common.{◌≡◌, ℕ, ◌+◌, ◌-◌, ◌<◌, ◌≤◌, ◌≢◌, true, false, List, [], ◌∷◌, ◌++◌, MatchResult, Result, length, drop, sym, ap, ◌∙◌, subst, append_assoc, arith, lit≤, length-append}
use Rattle.std.specs.Result.{IsErrAnd}
use Rattle.std.proofs.lemmas.Result.{err_from_is_err_and}
use Rattle.formulas.specs.declared.unary.Unary.{Unary}
use Rattle.formulas.specs.declared.binary.Binary.{Binary}
use Rattle.formulas.specs.declared.binary.Binary.TheVariants.{And, Or, Implies, Iff, Until}
use Rattle.formulas.specs.declared.word.Word.{Word}
use Rattle.formulas.specs.declared.word.Word.TheVariants.{Open, Close, Prefix, Infix}
use Rattle.formulas.specs.declared.node.Node.{Node}
use Rattle.formulas.specs.declared.node.Node.TheVariants as node
use Rattle.formulas.specs.Formulas.{Formula, unary, binary, temporal, one, nodes, promises}
use Rattle.formulas.specs.Trees.{laid}
use Rattle.formulas.proofs.Listing.{long}
use Rattle.grammar.specs.declared.misread.Stray.{Stray}
use Rattle.grammar.specs.declared.reader.Reader.{Reader}
use Rattle.grammar.specs.declared.reader.Sign.{Sign}
use Rattle.grammar.specs.Grammar.{Level, rule, implication, alternative, conjunction, until, operand, Derives, a_prefix, a_bracket, an_implication, an_iff}
use Rattle.grammar.specs.Machine.{idle, base, has, stuck, outcome, weak, rank, Goes, Dies}
use Rattle.grammar.specs.Nodes.{front}
use Rattle.grammar.specs.Parts.{rest, Passed, Pushed, Took, TookRule, Failed}
use Rattle.grammar.proofs.Complete.{follows, follows_same}

-- some infix or none: the front binds by 1 at least
pub weak_some : (ws : List Word) → 1 ≤ weak ws
weak_some ws = grind arith

-- where a level fails

pub dies_until_right : (ws vs rest : List Word) (f : Formula) → Derives operand ws (Infix Until ∷ vs) f → Dies until vs rest → Dies until ws rest
dies_until_right ws vs rest f d i e s t o a n k = follows d (lit≤ tt) e s t o a n idle k ∙ i e s t o a (λ x. n (binary Until f x)) k

pub dies_and_right : (ws vs rest : List Word) (f : Formula) → Derives conjunction ws (Infix And ∷ vs) f → Dies until vs rest → Dies conjunction ws rest
dies_and_right ws vs rest f d i e s t o k = follows d (lit≤ tt) e s t o k ∙ i e s t o (λ x. binary And f x) idle k

pub dies_or_right : (ws vs rest : List Word) (f : Formula) → Derives alternative ws (Infix Or ∷ vs) f → Dies conjunction vs rest → Dies alternative ws rest
dies_or_right ws vs rest f d i e s t k = follows d (lit≤ tt) e s t k ∙ i e s t (λ x. binary Or f x) k

pub dies_then_right : (ws vs rest : List Word) (f : Formula) → Derives alternative ws (Infix Implies ∷ vs) f → Dies implication vs rest → Dies implication ws rest
dies_then_right ws vs rest f d i e s t k = follows d (lit≤ tt) e s t k ∙ i e s (λ x. t (binary Implies f x)) k

pub dies_same_right : (ws vs rest : List Word) (f : Formula) → Derives implication ws (Infix Iff ∷ vs) f → Dies implication vs rest → Dies rule ws rest
dies_same_right ws vs rest f d i k = follows d (lit≤ tt) false idle idle k ∙ i true (λ x. binary Iff f x) idle k

-- words that go on where the rule ends
pub left_over : (ws : List Word) (f : Formula) → 0 < length ws → 5 ≤ weak ws → outcome ws (has f true idle idle idle idle idle base) ≡ stuck ws
left_over ws f some h = grind arith

-- How many nodes there are behind those in front.
behind : (a : List Node) (n b : ℕ) (f : Formula) (c : List Node) → c ≡ a ++ laid n b f → length c ≡ length a + nodes f
behind a n b f c e = ap length e ∙ length-append a (laid n b f) ∙ ap (λ k. length a + k) (long n b f)

-- A part of one level is a part of the next.
pub raises : {l m : Level} {low high : ℕ} {old new : Reader} {root : ℕ} → ((us vs : List Word) (f : Formula) → Derives l us vs f → Derives m us vs f) → Took l low old new root → high ≤ weak (rest new) → Took m high old new root
raises up q stops = record { words = q.words; more = q.more; formula = q.formula; derives = up _ _ _ q.derives; listed = q.listed; operators = q.operators; room = q.room; last = q.last; stops = stops }

-- It is the whole part where the sign does not stand next.
pub lifts : {l m : Level} (i : Binary) {old mid new : Reader} {root : ℕ} → ((us vs : List Word) (f : Formula) → Derives l us vs f → Derives m us vs f) → Took l (rank i) old mid root → (new ≡ mid) × (weak (rest mid) ≢ rank i) → Took m (rank i + 1) old new root
lifts {m = m} i {old = old} {root = root} up q (same, other) =
    subst (λ new. Took m (rank i + 1) old new root) (sym same) (raises up q (omega arith))

-- Two parts with an infix between them.
module _ {l m n : Level} {i : Binary} (rule-of : (us ws vs : List Word) (f g : Formula) → Derives l us (Infix i ∷ ws) f → Derives m ws vs g → Derives n us vs (binary i f g)) where
  pub joins : {low lower : ℕ} {old mid more new made : Reader} {s : Sign} {p q r : ℕ} → Took l low old mid p → (s.op ≡ i) × Passed mid (Infix i) more s.before → Took m lower more new q → Pushed new (node.Infix s.op s.before p q) made r → Took n lower old made r
  joins {lower = lower} {old = old} {mid = mid} {more = more} {new = new} {made = made} {s = s} {p = p} {q = q} left (op, pass) right push =
      let f = left.formula in
      let g = right.formula in
      let k = length (front old.tree) in
      let start = old.tree.operators in
      let x = node.Infix s.op s.before p q in
      let left-size : length (front mid.tree) ≡ k + nodes f = behind (front old.tree) k start f (front mid.tree) left.listed in
      let more-size : length (front more.tree) ≡ k + nodes f = ap length pass.same ∙ left-size in
      let right-size : length (front new.tree) ≡ length (front more.tree) + nodes g = behind (front more.tree) _ _ g (front new.tree) right.listed in
      let all-size = simp length-append at (ap length push.added) in
      let left-root : p ≡ k + nodes f - 1 = omega arith in
      let right-root : q ≡ k + nodes f + nodes g - 1 = omega arith in
      let behind-left = laid (k + nodes f) (start + promises f + one temporal (Infix i)) g in
      record {
        words = cc;
        more = omega arith;
        formula = binary i f g;
        derives = subst (λ vs. Derives n (rest old) vs (binary i f g)) (sym push.left) (rule-of _ _ _ _ _ (subst (λ vs. Derives l (rest old) vs f) pass.passed left.derives) right.derives);
        listed = cc (append_assoc (front old.tree ++ laid k start f) behind-left (x ∷ []), append_assoc (front old.tree) (laid k start f) (behind-left ++ x ∷ []));
        operators = omega arith;
        room = omega (arith, ap length pass.same);
        last = omega arith;
        stops = subst (λ ws. lower ≤ weak ws) (sym push.left) right.stops;
      }

-- Where the right part fails, so does the whole.
pub fails_right : (n : Level) (r : Result ℕ Stray) (P : ℕ → Type 0) {l m : Level} {i : Binary} {low : ℕ} {old mid more : Reader} {p b : ℕ} {e : Stray} → ((ws vs rest : List Word) (f : Formula) → Derives l ws (Infix i ∷ vs) f → Dies m vs rest → Dies n ws rest) → Took l low old mid p → Passed mid (Infix i) more b → Failed m more e.at → IsErrAnd r (λ y. y ≡ e) → MatchResult r P (λ y. Failed n old y.at)
fails_right n r P {l = l} {m = m} {old = old} {more = more} {e = e} dies left pass fail is =
    let same : more.words.now ≡ old.words.now = pass.words ∙ left.words in
    let whole : Failed n old e.at = record {
      within = subst (λ ws. e.at ≤ length ws) same fail.within;
      dies = dies _ _ _ _ (subst (λ vs. Derives l (rest old) vs left.formula) pass.passed left.derives) (subst (λ ws. Dies m (rest more) (drop e.at ws)) same fail.dies);
    } in
    let (y, told, here) = err_from_is_err_and r is in
    subst (λ q. MatchResult q P (λ y. Failed n old y.at)) (sym told) (subst (λ z. Failed n old z.at) (sym here) whole)

-- An operand of one word.
pub single : {old mid new : Reader} {w : Word} {x : Node} {b r : ℕ} (f : Formula) → ((ws : List Word) → Derives operand (w ∷ ws) ws f) → ((n b : ℕ) → laid n b f ≡ x ∷ []) → promises f ≡ one temporal w → Passed old w mid b → Pushed mid x new r → Took operand 1 old new r
single {old = old} {mid = mid} {new = new} {w = w} {x = x} f d lists count pass push =
    let size = simp length-append at (ap length push.added) in
    record {
      words = cc;
      more = omega arith;
      formula = f;
      derives = subst (λ us. Derives operand us (rest new) f) (sym (pass.passed ∙ ap (λ ws. w ∷ ws) (sym push.left))) (d (rest new));
      listed = cc (lists (length (front old.tree)) old.tree.operators);
      operators = omega arith;
      room = omega (arith, ap length pass.same);
      last = omega arith;
      stops = weak_some (rest new);
    }

pub prefixes : {old mid new made : Reader} {o : Unary} {b q r : ℕ} → Passed old (Prefix o) mid b → Took operand 1 mid new q → Pushed new (node.Prefix o b q) made r → Took operand 1 old made r
prefixes {old = old} {mid = mid} {new = new} {made = made} {o = o} {b = b} {q = q} pass t push =
    let f = t.formula in
    let k = length (front old.tree) in
    let start = old.tree.operators in
    let x = node.Prefix o b q in
    let same-size : length (front mid.tree) ≡ k = ap length pass.same in
    let inner-size : length (front new.tree) ≡ length (front mid.tree) + nodes f = behind (front mid.tree) _ _ f (front new.tree) t.listed in
    let all-size = simp length-append at (ap length push.added) in
    let root : q ≡ k + nodes f - 1 = omega arith in
    record {
      words = cc;
      more = omega arith;
      formula = unary o f;
      derives = subst (λ vs. Derives operand (rest old) vs (unary o f)) (sym push.left) (subst (λ us. Derives operand us (rest new) (unary o f)) (sym pass.passed) (a_prefix t.derives));
      listed = cc (append_assoc (front old.tree) (laid k (start + one temporal (Prefix o)) f) (x ∷ []));
      operators = omega arith;
      room = omega arith;
      last = omega arith;
      stops = subst (λ ws. 1 ≤ weak ws) (sym push.left) t.stops;
    }

pub brackets : {old mid new shut : Reader} {b c q : ℕ} → Passed old Open mid b → Took rule 5 mid new q → Passed new Close shut c → Took operand 1 old shut q
brackets {old = old} {mid = mid} {new = new} {shut = shut} opens t closes =
    let f = t.formula in
    let k = length (front old.tree) in
    let same : mid.tree.operators ≡ old.tree.operators = omega arith in
    record {
      words = cc;
      more = omega arith;
      formula = f;
      derives = subst (λ us. Derives operand us (rest shut) f) (sym opens.passed) (a_bracket (subst (λ vs. Derives rule (rest mid) vs f) closes.passed t.derives));
      listed = cc;
      operators = omega arith;
      room = omega (arith, ap length opens.same, ap length closes.same);
      last = t.last ∙ sym (ap length closes.same);
      stops = weak_some (rest shut);
    }

-- A rule that is one implication, after which no `=` stands,
pub rule_alone : {old mid new : Reader} {root : ℕ} → Took implication 5 old mid root → (new ≡ mid) × (weak (rest mid) ≢ rank Iff) → TookRule old new root
unfolding raises
rule_alone {old = old} {root = root} q (same, other) =
    subst (λ new. TookRule old new root) (sym same)
    (record { took = raises (λ us vs f. an_implication) q q.stops; goes = follows (an_implication q.derives) (omega arith) })

-- and one that is two with an `=` between them.
pub rule_same : {old mid more new made : Reader} {s : Sign} {p q r : ℕ} → Took implication 5 old mid p → (s.op ≡ Iff) × Passed mid (Infix Iff) more s.before → Took implication 5 more new q → Pushed new (node.Infix s.op s.before p q) made r → TookRule old made r
unfolding joins
rule_same {old = old} left pass right push =
    record {
      took = joins {n = rule} {i = Iff} (λ us ws vs f g. an_iff) left pass right push;
      goes = subst (λ vs. Goes rule (rest old) vs (binary Iff left.formula right.formula)) (sym push.left) (follows_same (subst (λ vs. Derives implication (rest old) vs left.formula) (pass.1).passed left.derives) right.derives right.stops);
    }
