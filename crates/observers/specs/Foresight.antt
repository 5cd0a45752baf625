-- What an outlook says of the continuations that would now be kept.
use Rattle.std.specs.Prelude.{◌≡◌, Bool, true, false, ◌↔◌, List}
use Rattle.observers.specs.declared.observer.Outlook.{Outlook}
use Rattle.observers.specs.declared.observer.Outlook.TheVariants.{Lost, Safe, Open}

-- every continuation is answered so: kept for true, not kept for false
abbrev pub Every : {E : Type 0} → (List E → Bool) → Bool → Type 0
Every {E} rest answer = (t : List E) → rest t ≡ answer

-- some continuation is answered so
abbrev pub One : {E : Type 0} → (List E → Bool) → Bool → Type 0
One {E} rest answer = (t : List E) × (rest t ≡ answer)

-- lost exactly when no continuation is kept, safe exactly when every one is, open exactly when one is and one is not
pub record Foresees {E : Type 0} (rest : List E → Bool) (o : Outlook) : Type 0 where
  pub lost : (o ≡ Lost) ↔ Every rest false
  pub safe : (o ≡ Safe) ↔ Every rest true
  pub undecided : (o ≡ Open) ↔ (One rest true × One rest false)
