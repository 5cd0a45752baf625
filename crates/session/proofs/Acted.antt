-- The law of each act, from the law of its call.
use Rattle.std.proofs.Common.{◌≡◌, ℕ, zero, suc, ◌<◌, ◌≤◌, Bool, List, [], ◌∷◌, ◌++◌, length, get_or, MatchResult, Some, None, Ok, Err, Result, refl, ap}
use Rattle.std.specs.List.{slice_get, remove, insert}
use Rattle.std.proofs.lemmas.Option.{slice_get_read, slice_get_past}
use Rattle.bench.specs.declared.slip.Slip.{Slip}
use Rattle.answers.specs.declared.Refusal.{Refusal}
use Rattle.answers.specs.declared.Report.{Report}
use Rattle.answers.specs.declared.Reply.{Reply}
use Rattle.answers.specs.declared.Reply.TheVariants.{Opened, Closed, Refused}
use Rattle.bench.specs.Log.{Log, Call, Open, Take, Ask, Close}
use Rattle.bench.specs.Calls.{Lawful, reply_of}
use Rattle.session.specs.declared.turn.Act.{Act}
use Rattle.session.specs.declared.turn.Act.TheVariants.{Open as opens, Take as takes, Ask as asks, Close as closes}
use Rattle.session.specs.Acts.{Done, opened, unopened, took, asked, closed, unclosed, no_slip, exchange, ActLaw}

-- what a call told, or its refusal, is its reply
pub told_is : {A : Type 0} (told : A → Reply) (o : Result A Refusal) (q : Reply) {P : A → Type 0} {Q : Refusal → Type 0} → MatchResult o P Q → ((x : A) → P x → q ≡ told x) → ((x : Refusal) → Q x → q ≡ Refused x) → q ≡ reply_of told o
told_is told (Ok x) q p f g = f x p
told_is told (Err x) q p f g = g x p

-- what was taken out, put in again
put_again : (h : List Slip) (k : ℕ) (s : Slip) → slice_get h k ≡ Some s → insert (remove h k) k s ≡ h
put_again [] k s e = absurd cc
put_again (x ∷ h) zero s e = let f : s ≡ x = cc in ap (λ (y : Slip). y ∷ h) f
put_again (x ∷ h) (suc k) s e = ap (λ (t : List Slip). x ∷ t) (put_again h k s e)

module _ {E B : Type 0} {S : ℕ → (List E → Bool) → B → Log E → Type 0} (b : B) (h : List Slip) (b' : B) where
  one_call : (c : Call E) (q : Reply) (a : Act E) (h₂ : List Slip) → Done h a (Some q) (exchange c q) h₂ → Lawful S b c q b' → ActLaw S b h a (Some q) b' h₂
  one_call c q a h₂ d law = record { calls = exchange c q; done = d; lawful = λ n rule l st. let p = law n rule l st in ((p.0, tt), p.1) }

  pub act_opened : (s : Slip) → Lawful S b Open (Opened s.bench s.run) b' → ActLaw S b h opens (Some (Opened s.bench s.run)) b' (h ++ s ∷ [])
  act_opened s law = one_call Open (Opened s.bench s.run) opens _ (opened s.bench s.run) law

  pub act_unopened : (x : Refusal) → Lawful S b Open (Refused x) b' → ActLaw S b h opens (Some (Refused x)) b' h
  act_unopened x law = one_call Open (Refused x) opens h (unopened x) law

  pub act_take : (e : E) (q : Reply) → Lawful S b (Take e) q b' → ActLaw S b h (takes e) (Some q) b' h
  act_take e q law = one_call (Take e) q (takes e) h (took e q) law

  pub act_ask : (q : Reply) → Lawful S b Ask q b' → ActLaw S b h asks (Some q) b' h
  act_ask q law = one_call Ask q asks h (asked q) law

  pub act_closed : (k : ℕ) (s : Slip) (p : Report) → k < length h → s ≡ get_or h k s → Lawful S b (Close s) (Closed p) b' → ActLaw S b h (closes k) (Some (Closed p)) b' (remove h k)
  act_closed k s p lt read law = one_call (Close s) (Closed p) (closes k) _ (closed k s p (slice_get_read h (length h) k s refl lt read)) law

  pub act_unclosed : (k : ℕ) (s : Slip) (x : Refusal) → k < length h → s ≡ get_or h k s → Lawful S b (Close s) (Refused x) b' → ActLaw S b h (closes k) (Some (Refused x)) b' (insert (remove h k) k s)
  act_unclosed k s x lt read law =
      let at = slice_get_read h (length h) k s refl lt read in
      rw (put_again h k s at) (one_call (Close s) (Refused x) (closes k) h (unclosed k s x at) law)

pub act_none : {E B : Type 0} {S : ℕ → (List E → Bool) → B → Log E → Type 0} (b : B) (h : List Slip) (k : ℕ) → length h ≤ k → ActLaw S b h (closes k) None b h
act_none b h k far = record { calls = []; done = no_slip k (slice_get_past h k far); lawful = λ n rule l st. (tt, st) }
