-- The law of the bench, whole, over a session of any turns at four benches that began new.
use Rattle.std.specs.Prelude.{◌≡◌, ℕ, Bool, List, Some, None, Option}
use Rattle.events.specs.declared.sheet.SheetEvent.{SheetEvent}
use Rattle.sheets.specs.Ports.{flow}
use Rattle.bench.specs.declared.slip.Slip.{Slip}
use Rattle.answers.specs.declared.Reply.{Reply}
use Rattle.answers.specs.declared.Reply.TheVariants.{Opened, Taken, Told, Looked, Closed, Refused}
use Rattle.bench.specs.Log.{Log, Call, Exchange, At}
use Rattle.bench.specs.Law.{Settled, Marks, Looks}
use Rattle.session.specs.declared.turn.Turn.{Turn}
use Rattle.session.specs.declared.script.Numbers.{Numbers}
use Rattle.session.specs.Histories.{Histories, begun, Performed}
use Rattle.session.specs.Desks.{Seat, Seats}

-- the seats of benches with these numbers, over observers with these rules; the last two are over flow ports, which keep a run when its flow is kept below
abbrev pub seated : {E F : Type 0} → Numbers → (List E → Bool) → (List F → Bool) → (List SheetEvent → Bool) → (List SheetEvent → Bool) → Seats E F
seated k w p x y = record {
  watch = record { number = k.watch; rule = w };
  plain = record { number = k.plain; rule = p };
  first = record { number = k.first; rule = λ run. x (flow run) };
  second = record { number = k.second; rule = λ run. y (flow run) };
}

-- of each of the four benches and its history
pub record OfEach {E F : Type 0} (P : (D : Type 0) → Seat D → List (Exchange D) → Type 0) (s : Seats E F) (h : Histories E F) : Type 0 where
  pub watch : P E s.watch h.watch
  pub plain : P F s.plain h.plain
  pub first : P SheetEvent s.first h.first
  pub second : P SheetEvent s.second h.second

-- the mark that a reply tells, if any
abbrev pub mark_of : Reply → Option Bool
mark_of (Opened b k) = None
mark_of Taken = None
mark_of (Told p) = Some p.mark
mark_of (Looked s) = None
mark_of (Closed p) = Some p.mark
mark_of (Refused x) = None

-- whenever the runs of two benches have equal flows, the marks that they tell are the same
abbrev pub SameFlow : ℕ → List (Exchange SheetEvent) → ℕ → List (Exchange SheetEvent) → Type 0
SameFlow n h m i = (l k : Log SheetEvent) (c d : Call SheetEvent) (r q : Reply) (a b : Bool) → At n h l c r → At m i k d q → flow l.run ≡ flow k.run → mark_of r ≡ Some a → mark_of q ≡ Some b → a ≡ b

-- history and performed   the replies are those of the turns, one each, performed in order at four new benches
-- left                    the slips held at the end are those that the turns leave
-- settled                 the log settles every refusal, exactly which and exactly when, and every slip given
-- marks                   asks and closings tell kept exactly when the log's run keeps the rule, and the count is the run's length
-- looks                   a look tells lost or safe with a count exactly when the run is so since that count, and otherwise open
-- same_flow               two benches over flow ports whose rules below are equal tell the same mark whenever their runs have equal flows
pub record Replayed {E F : Type 0} (k : Numbers) (w : List E → Bool) (p : List F → Bool) (x y : List SheetEvent → Bool) (brought : List Slip) (turns : List (Turn E F)) (replies : List (Option Reply)) (held : List Slip) : Type 0 where
  pub history : Histories E F
  pub performed : Performed (begun brought) turns replies history
  pub left : held ≡ history.held
  pub settled : OfEach (λ D s h. Settled s.number h) (seated k w p x y) history
  pub marks : OfEach (λ D s h. Marks s.number s.rule h) (seated k w p x y) history
  pub looks : Looks k.watch w history.watch
  pub same_flow : ((t : List SheetEvent) → x t ≡ y t) → SameFlow k.first history.first k.second history.second
