use Rattle.std.proofs.Common.{rules, ℕ, subst, MatchOption, count_by, ◌≤◌}
use Rattle.std.proofs.lemmas.Iterator.{YieldsList-from_slice}
use Rattle.std.proofs.lemmas.Iterator.Consumers.{YieldsList-from_enumerate, YieldsList-from_filter, nth_from_yields_List}
use Rattle.formulas.specs.declared.word.Word.{Word}
use Rattle.rules.specs.Limits.{counts, Exceeds}
use Rattle.rules.proofs.Excess.{found}
use Rattle.rules.proofs.limits.Limit.first_over.Goals as goal

pub returns : goal.returns
returns c =
    let test = counts c.args.self in
    let words = c.args.words.now in
    let chosen =
    nth_from_yields_List c.nth.result _ c.most.result c.nth.ensures.ran
    (YieldsList-from_filter _ (λ (p : ℕ × Word). test p.1) (YieldsList-from_enumerate (YieldsList-from_slice words (cc)) (cc)) c.filter.ensures.closure (λ x b q k. search rules)) in
    subst (λ n. MatchOption c.map.result (count_by test words ≤ n) (λ i. Exceeds test n words i)) c.most.ensures (found test _ (λ p v h. search rules) _ words c.nth.result c.map.result chosen c.map.ensures.cases)
