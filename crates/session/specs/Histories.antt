-- What turns do at four benches that began new, with one pool of slips.
use Rattle.std.specs.Prelude.{List, [], ◌∷◌, ◌++◌, Some, Option}
use Rattle.events.specs.declared.sheet.SheetEvent.{SheetEvent}
use Rattle.bench.specs.declared.slip.Slip.{Slip}
use Rattle.answers.specs.declared.Reply.{Reply}
use Rattle.bench.specs.Log.{Look, Exchange}
use Rattle.session.specs.declared.turn.Act.{Act}
use Rattle.session.specs.declared.turn.Turn.{Turn}
use Rattle.session.specs.declared.turn.Turn.TheVariants.{Watch, Look as looks, Plain, First, Second}
use Rattle.session.specs.Acts.{exchange, Done}

-- each bench's calls with their answers, oldest first, and the slips held
pub record Histories (E F : Type 0) : Type 0 where
  pub watch : List (Exchange E)
  pub plain : List (Exchange F)
  pub first : List (Exchange SheetEvent)
  pub second : List (Exchange SheetEvent)
  pub held : List Slip

-- four new benches, and the slips that were brought
abbrev pub begun : {E F : Type 0} → List Slip → Histories E F
begun brought = record { watch = []; plain = []; first = []; second = []; held = brought }

-- a turn with its reply adds its call to the history of its own bench only, and changes the slips held as the act does
pub data Noted {E F : Type 0} (h : Histories E F) : Turn E F → Option Reply → Histories E F → Type 0 where
  watched : (a : Act E) (r : Option Reply) (calls : List (Exchange E)) (held : List Slip) → Done h.held a r calls held → Noted h (Watch a) r (record { watch = h.watch ++ calls; plain = h.plain; first = h.first; second = h.second; held = held })
  looked : (r : Reply) → Noted h looks (Some r) (record { watch = h.watch ++ exchange Look r; plain = h.plain; first = h.first; second = h.second; held = h.held })
  plainly : (a : Act F) (r : Option Reply) (calls : List (Exchange F)) (held : List Slip) → Done h.held a r calls held → Noted h (Plain a) r (record { watch = h.watch; plain = h.plain ++ calls; first = h.first; second = h.second; held = held })
  firstly : (a : Act SheetEvent) (r : Option Reply) (calls : List (Exchange SheetEvent)) (held : List Slip) → Done h.held a r calls held → Noted h (First a) r (record { watch = h.watch; plain = h.plain; first = h.first ++ calls; second = h.second; held = held })
  secondly : (a : Act SheetEvent) (r : Option Reply) (calls : List (Exchange SheetEvent)) (held : List Slip) → Done h.held a r calls held → Noted h (Second a) r (record { watch = h.watch; plain = h.plain; first = h.first; second = h.second ++ calls; held = held })

-- all turns in order, each with its reply
pub data Performed {E F : Type 0} : Histories E F → List (Turn E F) → List (Option Reply) → Histories E F → Type 0 where
  nothing : (h : Histories E F) → Performed h [] [] h
  turn : (h h₂ h₃ : Histories E F) (u : Turn E F) (r : Option Reply) (us : List (Turn E F)) (rs : List (Option Reply)) → Noted h u r h₂ → Performed h₂ us rs h₃ → Performed h (u ∷ us) (r ∷ rs) h₃
