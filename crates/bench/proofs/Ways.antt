-- The two ways of a call: the log refuses it, or it does not.
use Rattle.std.proofs.Common.{◌≡◌, ℕ, Bool, List, Some, None, Option, refl}
use Rattle.answers.specs.declared.Refusal.{Refusal}
use Rattle.answers.specs.declared.Sight.{Sight}
use Rattle.answers.specs.declared.Reply.{Reply}
use Rattle.answers.specs.declared.Reply.TheVariants.{Looked, Refused}
use Rattle.bench.specs.Log.{Log, Call, Open, Take, Ask, Look, Close, refusal, grown, after}
use Rattle.bench.specs.Sight.{Sees}
use Rattle.bench.specs.Law.{Answered}

module _ {E : Type 0} (n : ℕ) (rule : List E → Bool) (l : Log E) where
  -- the log of a call that is not refused grows
  pub grows : (c : Call E) → refusal n l c ≡ None → after n l c ≡ grown l c
  grows Open e = rw e
  grows (Take x) e = rw e
  grows Ask e = refl
  grows Look e = refl
  grows (Close s) e = rw e

  not_refused : (c : Call E) (r : Reply) (o : Option Refusal) → Answered n rule l c r → ((x : Refusal) → r ≡ Refused x → ⊥) → refusal n l c ≡ o → o ≡ None
  not_refused c r None p free e = refl
  not_refused c r (Some x) p free e = absurd (free x ((p.settled.refused x).1 e))

  -- the log of a call that is not answered by a refusal grows
  pub grew : (c : Call E) (r : Reply) → Answered n rule l c r → ((x : Refusal) → r ≡ Refused x → ⊥) → after n l c ≡ grown l c
  grew c r p free = grows c (not_refused c r (refusal n l c) p free refl)

  -- a call that is refused leaves the log
  pub stays : (c : Call E) (x : Refusal) → refusal n l c ≡ Some x → after n l c ≡ l
  stays Open x e = rw e
  stays (Take y) x e = rw e
  stays Ask x e = refl
  stays Look x e = refl
  stays (Close s) x e = rw e

  pub looked : (s : Sight) → refusal n l Look ≡ None → Sees rule l.run s → Answered n rule l Look (Looked s)
  looked s free sees = record {
    settled = record {
      refused = λ x. (λ p. cc, λ p. cc);
      given = λ b k. (λ p. cc, λ p. cc (p.0));
      taken = (λ p. cc, λ p. cc (p.0.1));
    };
    marked = tt;
    sighted = λ _. (s, refl, sees);
  }

  pub unlooked : (x : Refusal) → refusal n l Look ≡ Some x → Answered n rule l Look (Refused x)
  unlooked x refused = record {
    settled = record {
      refused = λ y. (λ p. cc, λ p. cc);
      given = λ b k. (λ p. cc, λ p. cc (p.0));
      taken = (λ p. cc, λ p. cc (p.0.1));
    };
    marked = tt;
    sighted = λ p. cc;
  }
