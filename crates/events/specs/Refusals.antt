use Rattle.std.specs.Prelude.{ℕ}
use Rattle.events.specs.declared.refusal.EventRefusal.{EventRefusal}
use Rattle.events.specs.declared.refusal.EventRefusal.TheVariants.{CellOver63, KindUnknown, BitNotZero}

-- The number of a refusal.
abbrev pub refusal_number : EventRefusal → ℕ
refusal_number CellOver63 = 21
refusal_number KindUnknown = 22
refusal_number BitNotZero = 23
