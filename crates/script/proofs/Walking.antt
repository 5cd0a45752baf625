-- A script that is read line by line.
use Rattle.std.proofs.Common.{◌≡◌, ℕ, ◌+◌, ◌<◌, List, [], ◌∷◌, ◌++◌, length, Err, subst}
use Rattle.events.specs.declared.sheet.SheetEvent.{SheetEvent}
use Rattle.events.specs.declared.word.MachineEvent.{MachineEvent}
use Rattle.session.specs.declared.turn.Turn.{Turn}
use Rattle.lines.specs.Lines.{Cut, Lined, none as no_line, more as line_more}
use Rattle.lines.specs.Walks.{lines_left}
use Rattle.lines.specs.declared.walk.Lines.{Lines}
use Rattle.script.specs.Scripts.{Begins, none, more, BadAt}
use Rattle.script.specs.Turns.{Written, TurnRead}
use Rattle.script.specs.declared.refusal.TurnRefusal.{TurnRefusal}

-- the first lines are these turns, and the lines to come are those of the rest
pub record Read (text : List ℕ) (turns : List (Turn SheetEvent MachineEvent)) (lines : Lines) : Type 0 where
  pub rest : List ℕ
  pub begins : Begins text turns rest
  pub lined : Lined rest (lines_left lines)

record Next (rest line : List ℕ) (lines : List (List ℕ)) : Type 0 where
  after : List ℕ
  some : 0 < length rest
  cut : Cut rest line after
  lined : Lined after lines

next : (rest line : List ℕ) (lines all : List (List ℕ)) → Lined rest all → all ≡ line ∷ lines → Next rest line lines
next rest line lines all no_line e = absurd (cc)
next rest line lines all (line_more {rest = after} some cut lined) e =
    record { after = after; some = some; cut = subst (λ (k : List ℕ). Cut rest k after) (cc) cut; lined = subst (λ (ks : List (List ℕ)). Lined after ks) (cc) lined }

pub unread : (text : List ℕ) (turns : List (Turn SheetEvent MachineEvent)) (s s' : Lines) → turns ≡ [] → s' ≡ s → Lined text (lines_left s) → Read text turns s'
unread text turns s s' e f h = rw (e, f) (record { rest = text; begins = none; lined = h })

module _ (text : List ℕ) (turns : List (Turn SheetEvent MachineEvent)) (s s' : Lines) (line : List ℕ) (read : Read text turns s) (first : lines_left s ≡ line ∷ lines_left s') where
  at : Next read.rest line (lines_left s')
  at = next read.rest line (lines_left s') (lines_left s) read.lined first

  pub one_more : (t : Turn SheetEvent MachineEvent) → Written line t → Read text (turns ++ (t ∷ [])) s'
  one_more t h = record { rest = at.after; begins = more turns read.rest line at.after t read.begins at.some at.cut h; lined = at.lined }

  pub bad : (number : ℕ) (refusal : TurnRefusal) → number ≡ length turns + 1 → TurnRead line (Err refusal) → BadAt text number refusal
  bad number refusal e h = record { turns = turns; rest = read.rest; line = line; after = at.after; before = read.begins; some = at.some; cut = at.cut; numbered = e; refused = h }
