-- One turn more.
use Rattle.std.proofs.Common.{◌≡◌, ℕ, Bool, List, [], ◌∷◌, ◌++◌, Some, Option, sym, refl, subst}
use Rattle.events.specs.declared.sheet.SheetEvent.{SheetEvent}
use Rattle.bench.specs.declared.slip.Slip.{Slip}
use Rattle.bench.specs.declared.looking.LookBench.{LookBench}
use Rattle.answers.specs.declared.Reply.{Reply}
use Rattle.bench.specs.Log.{Log, fresh, Call, Look, Exchange, after, log_from, log_of}
use Rattle.bench.specs.Calls.{Lawful}
use Rattle.session.specs.declared.turn.Act.{Act}
use Rattle.session.specs.declared.turn.Turn.{Turn}
use Rattle.session.specs.declared.turn.Turn.TheVariants.{Watch, Look as looks, Plain, First, Second}
use Rattle.session.specs.declared.desk.Desk.{Desk}
use Rattle.session.specs.Acts.{exchange, AllAnswered, ActLaw}
use Rattle.session.specs.Histories.{Histories, Noted, watched, looked, plainly, firstly, secondly, Performed, nothing, turn}
use Rattle.session.specs.Desks.{Seat, Standing, StandsAfter, TurnLaw}

-- from the log l on, what these calls do
abbrev pub Goes : {E B : Type 0} → Standing E B → B → List (Exchange E) → B → Type 0
Goes {E} S b calls b' = (n : ℕ) (rule : List E → Bool) (l : Log E) → S n rule b l → AllAnswered n rule l calls × S n rule b' (log_from n l calls)

pub one_goes : {E B : Type 0} (S : Standing E B) (b b' : B) (c : Call E) (r : Reply) → Lawful S b c r b' → Goes S b (exchange c r) b'
one_goes S b b' c r law n rule l st = let p = law n rule l st in ((p.0, tt), p.1)

module _ {E : Type 0} (n : ℕ) (rule : List E → Bool) where
  pub log_more : (l : Log E) (h calls : List (Exchange E)) → log_from n l (h ++ calls) ≡ log_from n (log_from n l h) calls
  log_more l [] calls = refl
  log_more l (x ∷ h) calls = log_more (after n l x.call) h calls

  pub all_more : (l : Log E) (h calls : List (Exchange E)) → AllAnswered n rule l h → AllAnswered n rule (log_from n l h) calls → AllAnswered n rule l (h ++ calls)
  all_more l [] calls p q = q
  all_more l (x ∷ h) calls p q = (p.0, all_more (after n l x.call) h calls p.1 q)

pub stands_more : {E B : Type 0} (S : Standing E B) (s : Seat E) (b b' : B) (h calls : List (Exchange E)) → StandsAfter S s b h → Goes S b calls b' → StandsAfter S s b' (h ++ calls)
stands_more {E} S s b b' h calls st goes =
    let p = goes s.number s.rule (log_of s.number h) st.stands in
    record {
      stands = subst (λ (l : Log E). S s.number s.rule b' l) (sym (log_more s.number s.rule fresh h calls)) p.1;
      answered = all_more s.number s.rule fresh h calls st.answered p.0;
    }

-- a turn at one bench, from the law of its act
module _ {E F L P X Y : Type 0} {W : Standing E (LookBench L)} {Q : Standing F P} {R : Standing SheetEvent X} {S : Standing SheetEvent Y} (d : Desk L P X Y) (held : List Slip) where
  pub turn_watch : (held' : List Slip) (a : Act E) (r : Option Reply) (b' : LookBench L) → ActLaw W d.watch held a r b' held' → TurnLaw W Q R S d held (Watch a) r (record d { watch = b' }) held'
  turn_watch held' a r b' law s h e st = (record h { watch = h.watch ++ law.calls; held = held' }, watched a r law.calls held' (rw (← e) law.done), record { watching = stands_more W s.watch d.watch b' h.watch law.calls st.watching law.lawful; plain = st.plain; first = st.first; second = st.second }, refl)

  pub turn_plain : (held' : List Slip) (a : Act F) (r : Option Reply) (b' : P) → ActLaw Q d.plain held a r b' held' → TurnLaw W Q R S d held (Plain a) r (record d { plain = b' }) held'
  turn_plain held' a r b' law s h e st = (record h { plain = h.plain ++ law.calls; held = held' }, plainly a r law.calls held' (rw (← e) law.done), record { watching = st.watching; plain = stands_more Q s.plain d.plain b' h.plain law.calls st.plain law.lawful; first = st.first; second = st.second }, refl)

  pub turn_first : (held' : List Slip) (a : Act SheetEvent) (r : Option Reply) (b' : X) → ActLaw R d.first held a r b' held' → TurnLaw W Q R S d held (First a) r (record d { first = b' }) held'
  turn_first held' a r b' law s h e st = (record h { first = h.first ++ law.calls; held = held' }, firstly a r law.calls held' (rw (← e) law.done), record { watching = st.watching; plain = st.plain; first = stands_more R s.first d.first b' h.first law.calls st.first law.lawful; second = st.second }, refl)

  pub turn_second : (held' : List Slip) (a : Act SheetEvent) (r : Option Reply) (b' : Y) → ActLaw S d.second held a r b' held' → TurnLaw W Q R S d held (Second a) r (record d { second = b' }) held'
  turn_second held' a r b' law s h e st = (record h { second = h.second ++ law.calls; held = held' }, secondly a r law.calls held' (rw (← e) law.done), record { watching = st.watching; plain = st.plain; first = st.first; second = stands_more S s.second d.second b' h.second law.calls st.second law.lawful }, refl)

  pub turn_look : (r : Reply) → Lawful W d.watch Look r d.watch → TurnLaw W Q R S d held looks (Some r) d held
  turn_look r law s h e st = (record h { watch = h.watch ++ exchange Look r }, looked r, record { watching = stands_more W s.watch d.watch d.watch h.watch (exchange Look r) st.watching (one_goes W d.watch d.watch Look r law); plain = st.plain; first = st.first; second = st.second }, e)

-- one turn after the others
pub performed_more : {E F : Type 0} {h h₂ : Histories E F} {us : List (Turn E F)} {rs : List (Option Reply)} (h₃ : Histories E F) (u : Turn E F) (r : Option Reply) → Performed h us rs h₂ → Noted h₂ u r h₃ → Performed h (us ++ (u ∷ [])) (rs ++ (r ∷ [])) h₃
performed_more h₃ u r (nothing h) q = turn h h₃ h₃ u r [] [] q (nothing h₃)
performed_more h₃ u r (turn h g h₂ v w vs ws n p) q = turn h g h₃ v w (vs ++ (u ∷ [])) (ws ++ (r ∷ [])) n (performed_more h₃ u r p q)
