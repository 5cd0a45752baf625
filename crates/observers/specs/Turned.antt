-- What a turning of events makes of a run.
use Rattle.std.specs.Prelude.{List, [], ◌∷◌, Some, None, Option}

-- an event that came, if any, before the others
abbrev pub before : {F : Type 0} → Option F → List F → List F
before None t = t
before (Some f) t = f ∷ t

-- each event's turn in order, nothing where it turns into none
abbrev pub turned : {E F : Type 0} → (E → Option F) → List E → List F
turned turning [] = []
turned turning (e ∷ t) = before (turning e) (turned turning t)
