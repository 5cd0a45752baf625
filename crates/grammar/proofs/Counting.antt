-- The words of a part and the words of its formula are as many, whatever test counts them.
use Rattle.std.proofs.Common.{◌≡◌, ◌+◌, Bool, false, cond, List, ◌∷◌, count_by, ap, arith}
use Rattle.std.proofs.lemmas.List.Sums.{sum_by-cons}
use Rattle.formulas.specs.declared.binary.Binary.TheVariants.{And, Or, Implies, Iff, Until}
use Rattle.formulas.specs.declared.word.Word.{Word}
use Rattle.formulas.specs.declared.word.Word.TheVariants.{Name, Constant, Open, Close, Prefix, Infix}
use Rattle.formulas.specs.Formulas.{Formula, one, tally}
use Rattle.grammar.specs.Grammar.{Level, Derives, a_name, a_constant, a_prefix, a_bracket, an_operand, an_until, a_part, an_and, a_conjunction, an_or, an_alternative, an_implies, an_implication, an_iff}

module _ (test : Word → Bool) where
  next : (w : Word) (ws : List Word) → count_by test (w ∷ ws) ≡ one test w + count_by test ws
  next w ws = sum_by-cons (one test) w ws

  module _ (opens : test Open ≡ false) (closes : test Close ≡ false) where
    bracket : (w : Word) → test w ≡ false → one test w ≡ 0
    bracket w e = ap (λ b. cond b 1 0) e

    pub counted : {l : Level} {ws rest : List Word} {f : Formula} → Derives l ws rest f → count_by test ws ≡ tally test f + count_by test rest
    counted (a_name {n = n} {rest = rest}) = next (Name n) rest
    counted (a_constant {b = b} {rest = rest}) = next (Constant b) rest
    counted (a_prefix {p = p} {ws = ws} d) = omega (arith, next (Prefix p) ws, counted d)
    counted (a_bracket {ws = ws} {rest = rest} d) = omega (arith, next Open ws, bracket Open opens, counted d, next Close rest, bracket Close closes)
    counted (an_operand d) = counted d
    counted (an_until {vs = vs} d e) = omega (arith, counted d, next (Infix Until) vs, counted e)
    counted (a_part d) = counted d
    counted (an_and {vs = vs} d e) = omega (arith, counted d, next (Infix And) vs, counted e)
    counted (a_conjunction d) = counted d
    counted (an_or {vs = vs} d e) = omega (arith, counted d, next (Infix Or) vs, counted e)
    counted (an_alternative d) = counted d
    counted (an_implies {vs = vs} d e) = omega (arith, counted d, next (Infix Implies) vs, counted e)
    counted (an_implication d) = counted d
    counted (an_iff {vs = vs} d e) = omega (arith, counted d, next (Infix Iff) vs, counted e)
