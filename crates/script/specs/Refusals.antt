use Rattle.events.specs.declared.refusal.EventRefusal.TheVariants as event
use Rattle.notation.specs.declared.refusal.LineRefusal.{LineRefusal}
use Rattle.notation.specs.declared.refusal.LineRefusal.TheVariants.{CellOver63, KindUnknown, BitNotZero, NotAnEvent}
use Rattle.script.specs.declared.refusal.TurnRefusal.{TurnRefusal}
use Rattle.script.specs.declared.refusal.TurnRefusal.TheVariants.{NotATurn, Event}

-- What is said of a take whose event is refused: 21 to 23 are told, and what is no event is no turn.
abbrev pub take_refusal : LineRefusal → TurnRefusal
take_refusal CellOver63 = Event event.CellOver63
take_refusal KindUnknown = Event event.KindUnknown
take_refusal BitNotZero = Event event.BitNotZero
take_refusal NotAnEvent = NotATurn
