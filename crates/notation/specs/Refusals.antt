use Rattle.std.specs.Prelude.{ℕ, List, codes}
use Rattle.events.specs.declared.refusal.EventRefusal.{EventRefusal}
use Rattle.events.specs.declared.refusal.EventRefusal.TheVariants as event
use Rattle.notation.specs.declared.refusal.LineRefusal.{LineRefusal}
use Rattle.notation.specs.declared.refusal.LineRefusal.TheVariants.{CellOver63, KindUnknown, BitNotZero, NotAnEvent}

-- The number of a refusal.
abbrev pub line_number : LineRefusal → ℕ
line_number CellOver63 = 21
line_number KindUnknown = 22
line_number BitNotZero = 23
line_number NotAnEvent = 61

-- What a refusal says.
abbrev pub line_refusal_words : LineRefusal → List ℕ
line_refusal_words CellOver63 = codes "no cell is over 63"
line_refusal_words KindUnknown = codes "no such kind"
line_refusal_words BitNotZero = codes "a bit is not zero"
line_refusal_words NotAnEvent = codes "this is no event"

-- The refusal of a line whose event is refused.
abbrev pub carried : EventRefusal → LineRefusal
carried event.CellOver63 = CellOver63
carried event.KindUnknown = KindUnknown
carried event.BitNotZero = BitNotZero
