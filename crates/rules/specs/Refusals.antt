use Rattle.std.specs.Prelude.{ℕ}
use Rattle.rules.specs.declared.refusal.RuleRefusal.{RuleRefusal}
use Rattle.rules.specs.declared.refusal.RuleRefusal.TheVariants.{TooLong, ForeignByte, LongName, UnknownName, NoRule, TooManyNodes, TooManyTemporal}

-- The number of a refusal.
abbrev pub refusal_number : RuleRefusal → ℕ
refusal_number TooLong = 10
refusal_number ForeignByte = 11
refusal_number LongName = 12
refusal_number UnknownName = 13
refusal_number NoRule = 14
refusal_number TooManyNodes = 15
refusal_number TooManyTemporal = 16
