use Rattle.std.proofs.Common.{refl}
use Rattle.formulas.specs.declared.binary.Binary.TheVariants.{Implies, Until}
use Rattle.formulas.specs.Formulas.{name, constant}
use Rattle.grammar.specs.Grammar.{a_name, a_constant, an_operand, an_until, a_part, an_and, a_conjunction, an_or, an_alternative, an_implies}
use Rattle.grammar.proofs.Steps.{raises, lifts, joins, fails_right, single, prefixes, brackets, rule_alone, rule_same, dies_until_right, dies_and_right, dies_or_right, dies_then_right, dies_same_right}
use Rattle.grammar.proofs.reader.Reader.+levels.Goals as goal

pub until-returns-in_default : goal.until-returns-in_default
until-returns-in_default t c = lifts Until (λ us vs f. an_operand) c.in_ok-left.ensures c.in_default.ensures

pub until-returns : goal.until-returns
until-returns t c = joins (λ us ws vs f g. an_until) c.in_ok-left.ensures c.in-Some.ensures c.in_ok-right.ensures c.join.ensures

pub until-returns-in_err-right : goal.until-returns-in_err-right
until-returns-in_err-right t c = fails_right _ _ _ dies_until_right c.in_ok-left.ensures c.in-Some.ensures.1 c.in_err-right.ensures c.from_residual-in_err-right.ensures.1

pub implication-returns-in_default : goal.implication-returns-in_default
implication-returns-in_default t c = lifts Implies (λ us vs f. an_alternative) c.in_ok-left.ensures c.in_default.ensures

pub implication-returns : goal.implication-returns
implication-returns t c = joins (λ us ws vs f g. an_implies) c.in_ok-left.ensures c.in-Some.ensures c.in_ok-right.ensures c.join.ensures

pub implication-returns-in_err-right : goal.implication-returns-in_err-right
implication-returns-in_err-right t c = fails_right _ _ _ dies_then_right c.in_ok-left.ensures c.in-Some.ensures.1 c.in_err-right.ensures c.from_residual-in_err-right.ensures.1

pub rule-returns-in_default : goal.rule-returns-in_default
rule-returns-in_default t c = rule_alone c.in_ok-left.ensures c.in_default.ensures

pub rule-returns : goal.rule-returns
rule-returns t c = rule_same c.in_ok-left.ensures c.in-Some.ensures c.in_ok-right.ensures c.join.ensures

pub rule-returns-in_err-right : goal.rule-returns-in_err-right
rule-returns-in_err-right t c = fails_right _ _ _ dies_same_right c.in_ok-left.ensures c.in-Some.ensures.1 c.in_err-right.ensures c.from_residual-in_err-right.ensures.1

pub conjunction-loop-sign-init : goal.conjunction-loop-sign-init
conjunction-loop-sign-init t c = raises (λ us vs f. a_part) c.in_ok-left.ensures c.in_ok-left.ensures.stops

pub conjunction-loop-sign-preserved : goal.conjunction-loop-sign-preserved
conjunction-loop-sign-preserved t c = joins (λ us ws vs f g. an_and) c.loop-sign.invariant c.in-Some.ensures c.in_ok-right.ensures c.join-left.ensures

pub conjunction-returns-in_err-right : goal.conjunction-returns-in_err-right
conjunction-returns-in_err-right t c = fails_right _ _ _ dies_and_right c.loop-sign.invariant c.in-Some.ensures.1 c.in_err-right.ensures c.from_residual-in_err-right.ensures.1

pub alternative-loop-sign-init : goal.alternative-loop-sign-init
alternative-loop-sign-init t c = raises (λ us vs f. a_conjunction) c.in_ok-left.ensures c.in_ok-left.ensures.stops

pub alternative-loop-sign-preserved : goal.alternative-loop-sign-preserved
alternative-loop-sign-preserved t c = joins (λ us ws vs f g. an_or) c.loop-sign.invariant c.in-Some.ensures c.in_ok-right.ensures c.join-left.ensures

pub alternative-returns-in_err-right : goal.alternative-returns-in_err-right
alternative-returns-in_err-right t c = fails_right _ _ _ dies_or_right c.loop-sign.invariant c.in-Some.ensures.1 c.in_err-right.ensures c.from_residual-in_err-right.ensures.1

pub operand-returns-in-Some-Name : goal.operand-returns-in-Some-Name
operand-returns-in-Some-Name t c = single (name _) (λ ws. a_name) (λ n b. refl) refl c.pass.ensures c.push.ensures

pub operand-returns-in-Some-Constant : goal.operand-returns-in-Some-Constant
operand-returns-in-Some-Constant t c = single (constant _) (λ ws. a_constant) (λ n b. refl) refl c.pass-in-Some-Constant.ensures c.push-in-Some-Constant.ensures

pub operand-returns-in_ok-operand-in-Some-Prefix : goal.operand-returns-in_ok-operand-in-Some-Prefix
operand-returns-in_ok-operand-in-Some-Prefix t c = prefixes c.pass-before.ensures c.in_ok-operand-in-Some-Prefix.ensures c.push-in-Some-Prefix.ensures

pub operand-returns-else-ne : goal.operand-returns-else-ne
operand-returns-else-ne t c = brackets c.pass-in-Some-Open.ensures c.in_ok-inside-in-Some-Open.ensures.took c.pass-in-Some-Open-2.ensures
