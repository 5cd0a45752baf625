-- One of the three cases, shown with its witnesses, is the outlook.
use Rattle.std.proofs.Common.{Bool, true, false, List, [], refl}
use Rattle.observers.specs.declared.observer.Outlook.{Outlook}
use Rattle.observers.specs.declared.observer.Outlook.TheVariants.{Lost, Safe, Open}
use Rattle.observers.specs.Foresight.{Every, One, Foresees}

abbrev pub Shown : {E : Type 0} → (List E → Bool) → Outlook → Type 0
Shown rest Lost = Every rest false
Shown rest Safe = Every rest true
Shown rest Open = One rest true × One rest false

pub foreseen : {E : Type 0} (rest : List E → Bool) (o : Outlook) → Shown rest o → Foresees rest o
foreseen rest Lost p = record {
  lost = (λ _. p, λ _. refl);
  safe = (λ e. cc, λ q. cc (q [], p []));
  undecided = (λ e. cc, λ q. cc (q.0.1, p q.0.0));
}
foreseen rest Safe p = record {
  lost = (λ e. cc, λ q. cc (p [], q []));
  safe = (λ _. p, λ _. refl);
  undecided = (λ e. cc, λ q. cc (p q.1.0, q.1.1));
}
foreseen rest Open p = record {
  lost = (λ e. cc, λ q. cc (p.0.1, q p.0.0));
  safe = (λ e. cc, λ q. cc (q p.1.0, p.1.1));
  undecided = (λ _. p, λ _. refl);
}
