use Rattle.std.specs.Prelude.{ℕ}
use Rattle.formulas.specs.declared.unary.Unary.{Unary}
use Rattle.formulas.specs.declared.unary.Unary.TheVariants.{Not, Next, WeakNext, Finally, Globally}
use Rattle.formulas.specs.declared.binary.Binary.{Binary}
use Rattle.formulas.specs.declared.binary.Binary.TheVariants.{And, Or, Implies, Iff, Until}

-- The sign of a prefix operator: ! X N F G.
abbrev pub unary_sign : Unary → ℕ
unary_sign Not = 33
unary_sign Next = 88
unary_sign WeakNext = 78
unary_sign Finally = 70
unary_sign Globally = 71

-- The sign of an infix operator: & | > = U.
abbrev pub binary_sign : Binary → ℕ
binary_sign And = 38
binary_sign Or = 124
binary_sign Implies = 62
binary_sign Iff = 61
binary_sign Until = 85
