use Rattle.std.proofs.Common.{rules, Result, Ok, Err, ◌≡◌, ℕ, ◌<◌, ◌≤◌, List, [], length, drop, ◌∙◌, subst, ap, arith, length-drop}
use Rattle.std.proofs.lemmas.List.{drop_all}
use Rattle.std.proofs.lemmas.Result.{err_from_is_err_and}
use Rattle.formulas.specs.declared.word.Word.{Word}
use Rattle.formulas.specs.Trees.{laid}
use Rattle.formulas.proofs.Listing.{long}
use Rattle.grammar.specs.declared.reader.Reader.{Reader}
use Rattle.grammar.specs.declared.tree.Tree.{Tree}
use Rattle.grammar.specs.declared.misread.Misread.{Misread}
use Rattle.grammar.specs.declared.misread.Misread.TheVariants.{TooManyWords, NoRule}
use Rattle.grammar.specs.Grammar.{Derives, rule, Fails}
use Rattle.grammar.specs.Machine.{base, stuck, outcome, start}
use Rattle.grammar.specs.Nodes.{front}
use Rattle.grammar.specs.Parts.{rest, Begun, TookRule, Failed}
use Rattle.grammar.specs.Parsing.{Grown, Parsed, OneFormula, OnePlace}
use Rattle.grammar.proofs.Places.{one_formula, stuck_fails, fails_once}
use Rattle.grammar.proofs.Steps.{left_over}
use Rattle.grammar.proofs.parse.Goals as goal

-- Words at whose begin no rule is read fail,
fails : {ws : List Word} {r : Reader} {e : ℕ} → Begun ws r → Failed rule r e → Fails ws e
fails {ws = ws} {r = r} {e = e} begun fail =
    let dies : outcome (rest r) start ≡ stuck (drop e r.words.now) = fail.dies base in
    stuck_fails ws e (omega (arith, ap length begun.words)) (cc)

-- words that go on behind the rule fail there,
fails_behind : {ws : List Word} {old new : Reader} {root : ℕ} → Begun ws old → TookRule old new root → new.at < length ws → Fails ws new.at
fails_behind {ws = ws} {old = old} {new = new} begun whole more =
    let same : new.words.now ≡ ws = whole.took.words ∙ begun.words in
    let some : 0 < length (rest new) = simp length-drop (omega (arith, ap length same)) in
    let all : outcome (rest old) start ≡ stuck (rest new) = whole.goes base ∙ left_over (rest new) _ some whole.took.stops in
    stuck_fails ws new.at (omega arith) (cc)

-- and words that are read as a rule to their end have grown its tree.
grown : {ws : List Word} {old new : Reader} {root : ℕ} → Begun ws old → TookRule old new root → length ws ≤ new.at → Grown ws new.tree
grown {ws = ws} {old = old} {new = new} begun whole all =
    let q = whole.took in
    let f = q.formula in
    let same : new.words.now ≡ ws = q.words ∙ begun.words in
    let none : rest new ≡ [] = drop_all new.at new.words.now (omega (arith, ap length same)) in
    let listed : front new.tree ≡ laid 0 0 f = cc in
    record {
      formula = f;
      rules = subst (λ vs. Derives rule vs [] f) begun.all (subst (λ vs. Derives rule (rest old) vs f) none q.derives);
      listed = listed;
      count = ap length listed ∙ long 0 0 f;
      operators = omega arith;
    }

-- The words have one formula at most and fail at one place at most, whatever was told.
told : {ws : List Word} (r : Result Tree Misread) → Parsed ws r → record { parsed : Parsed ws r; one_formula : OneFormula ws; one_place : OnePlace ws }
told {ws = ws} r p = record { parsed = p; one_formula = one_formula ws; one_place = fails_once ws }

pub returns-then-words-gt256 : goal.returns-then-words-gt256
returns-then-words-gt256 c = told (Err TooManyWords) (search rules)

pub returns-in_err-rule : goal.returns-in_err-rule
returns-in_err-rule c =
    let p = err_from_is_err_and c.from_residual.result c.from_residual.ensures.1 in
    rw (p.1, p.2) (told (Err (NoRule _)) (omega arith, fails c.new-reader.ensures c.in_err-rule.ensures))

pub returns-then-reader-words : goal.returns-then-reader-words
returns-then-reader-words c = told (Err (NoRule _)) (omega arith, fails_behind c.new-reader.ensures c.in_ok-rule.ensures c.if-reader-words.true)

pub returns : goal.returns
returns c = told (Ok _) (omega arith, grown c.new-reader.ensures c.in_ok-rule.ensures c.if-reader-words.false)
