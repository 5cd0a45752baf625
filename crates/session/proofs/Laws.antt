-- The law of the bench over a session, from the law of each call.
use Rattle.std.proofs.Common.{◌≡◌, ℕ, ◌+◌, Bool, List, [], ◌∷◌, ◌++◌, Some, None, Option, sym, refl, ap, ◌∙◌, subst}
use Rattle.events.specs.declared.sheet.SheetEvent.{SheetEvent}
use Rattle.observers.specs.declared.port.Port.{Port}
use Rattle.sheets.specs.declared.ports.Flow.{Flow}
use Rattle.sheets.specs.Ports.{flow}
use Rattle.bench.specs.declared.slip.Slip.{Slip}
use Rattle.answers.specs.declared.Refusal.{Refusal}
use Rattle.answers.specs.declared.Reply.{Reply}
use Rattle.answers.specs.declared.Reply.TheVariants.{Opened, Taken, Looked, Refused}
use Rattle.bench.specs.Log.{Log, fresh, Call, Open, Take, Ask, Look, Close, refusal, Exchange, after, log_from, At}
use Rattle.bench.specs.Law.{Answered}
use Rattle.session.specs.declared.turn.Turn.{Turn}
use Rattle.session.specs.declared.script.Numbers.{Numbers}
use Rattle.session.specs.Acts.{AllAnswered}
use Rattle.session.specs.Histories.{Histories, begun, Performed}
use Rattle.session.specs.Sessions.{mark_of, SameFlow, Replayed}

-- a flow port keeps a run when its flow is kept below
abbrev pub over_flow : {X : Type 0} → (X → List SheetEvent → Bool) → Port Flow X → List SheetEvent → Bool
over_flow rule s t = rule s.below (flow t)

module _ {E : Type 0} (n : ℕ) (rule : List E → Bool) where
  from : (l : Log E) (past future : List (Exchange E)) (x : Exchange E) → AllAnswered n rule l (past ++ (x ∷ future)) → Answered n rule (log_from n l past) x.call x.reply
  from l [] future x p = p.0
  from l (y ∷ past) future x p = from (after n l y.call) past future x p.1

  -- what holds of all calls in order holds of each, wherever it stands in the history
  pub each : (h : List (Exchange E)) → AllAnswered n rule fresh h → (l : Log E) (c : Call E) (r : Reply) → At n h l c r → Answered n rule l c r
  each h p l c r a =
      subst (λ (k : Log E). Answered n rule k c r) (sym a.before)
      (from fresh a.past a.future (record { call = c; reply = r }) (subst (λ (i : List (Exchange E)). AllAnswered n rule fresh i) a.parts p))

  -- a mark that is told is that of the log's run
  module _ (l : Log E) (r : Reply) (a : Bool) (is : mark_of r ≡ Some a) where
    no_mark : (q : Reply) → mark_of q ≡ None → r ≡ q → ⊥
    no_mark q e f = cc (ap mark_of f)

    told : (c : Call E) (o : Option Refusal) → refusal n l c ≡ o → Answered n rule l c r → a ≡ rule l.run
    told c (Some x) e p = absurd (no_mark (Refused x) refl ((p.settled.refused x).1 e))
    told Open None e p = absurd (no_mark (Opened n (l.opened + 1)) refl ((p.settled.given n (l.opened + 1)).1 (refl, e, refl, refl)))
    told (Take x) None e p = absurd (no_mark Taken refl (p.settled.taken.1 ((x, refl), e)))
    told Ask None e p = cc (ap mark_of (p.marked e))
    told Look None e p = let t = p.sighted e in absurd (no_mark (Looked t.0) refl t.1)
    told (Close s) None e p = cc (ap mark_of (p.marked e))

    pub mark_told : (c : Call E) → Answered n rule l c r → a ≡ rule l.run
    mark_told c p = told c (refusal n l c) refl p

pub same_flow : (n m : ℕ) (x y : List SheetEvent → Bool) (h i : List (Exchange SheetEvent)) → ((t : List SheetEvent) → x t ≡ y t) → AllAnswered n (λ run. x (flow run)) fresh h → AllAnswered m (λ run. y (flow run)) fresh i → SameFlow n h m i
same_flow n m x y h i same p q l k c d r s a b at₁ at₂ flows e f =
    let one : a ≡ x (flow l.run) = mark_told n (λ run. x (flow run)) l r a e c (each n (λ run. x (flow run)) h p l c r at₁) in
    let two : b ≡ y (flow k.run) = mark_told m (λ run. y (flow run)) k s b f d (each m (λ run. y (flow run)) i q k d s at₂) in
    one ∙ ap x flows ∙ same (flow k.run) ∙ sym two

-- all calls of the four histories are answered as their logs settle
pub replayed : {E F : Type 0} (k : Numbers) (w : List E → Bool) (p : List F → Bool) (x y : List SheetEvent → Bool) (brought held : List Slip) (turns : List (Turn E F)) (replies : List (Option Reply)) (h : Histories E F) → Performed (begun brought) turns replies h → held ≡ h.held → AllAnswered k.watch w fresh h.watch → AllAnswered k.plain p fresh h.plain → AllAnswered k.first (λ run. x (flow run)) fresh h.first → AllAnswered k.second (λ run. y (flow run)) fresh h.second → Replayed k w p x y brought turns replies held
replayed k w p x y brought held turns replies h done left a b c d = record {
  history = h;
  performed = done;
  left = left;
  settled = record {
    watch = λ l q r t. (each k.watch w h.watch a l q r t).settled;
    plain = λ l q r t. (each k.plain p h.plain b l q r t).settled;
    first = λ l q r t. (each k.first (λ run. x (flow run)) h.first c l q r t).settled;
    second = λ l q r t. (each k.second (λ run. y (flow run)) h.second d l q r t).settled;
  };
  marks = record {
    watch = λ l q r t. (each k.watch w h.watch a l q r t).marked;
    plain = λ l q r t. (each k.plain p h.plain b l q r t).marked;
    first = λ l q r t. (each k.first (λ run. x (flow run)) h.first c l q r t).marked;
    second = λ l q r t. (each k.second (λ run. y (flow run)) h.second d l q r t).marked;
  };
  looks = λ l q r t. (each k.watch w h.watch a l q r t).sighted;
  same_flow = λ same. same_flow k.first k.second x y h.first h.second same c d;
}
