use Rattle.std.proofs.Common.{◌≡◌, rules}
use Rattle.answers.specs.declared.Reply.TheVariants.{Looked}
use Rattle.bench.specs.Calls.{look_reply}
use Rattle.session.proofs.Acted.{told_is}
use Rattle.session.proofs.Turned.{turn_watch, turn_plain, turn_first, turn_second, turn_look}
use Rattle.session.proofs.desk.Desk.turn.Goals as goal

pub returns-in-Watch-clause-law : goal.returns-in-Watch-clause-law
returns-in-Watch-clause-law g c = rw c.in-Watch.is (turn_watch c.args.self.now _ _ _ _ _ c.perform.ensures.law)

pub returns-in-Plain-clause-law : goal.returns-in-Plain-clause-law
returns-in-Plain-clause-law g c = rw c.in-Plain.is (turn_plain c.args.self.now _ _ _ _ _ c.perform-in-Plain.ensures.law)

pub returns-in-First-clause-law : goal.returns-in-First-clause-law
returns-in-First-clause-law g c = rw c.in-First.is (turn_first c.args.self.now _ _ _ _ _ c.perform-in-First.ensures.law)

pub returns-in-Second-clause-law : goal.returns-in-Second-clause-law
returns-in-Second-clause-law g c = rw c.in-Second.is (turn_second c.args.self.now _ _ _ _ _ c.perform-in-Second.ensures.law)

pub returns-in-Look-clause-law : goal.returns-in-Look-clause-law
returns-in-Look-clause-law g c =
    let is : c.map_or_else.result ≡ look_reply c.look.result = told_is Looked c.look.result _ c.map_or_else.ensures (λ x p. search rules) (λ x p. search rules) in
    rw (c.in-Look.is, is) (turn_look c.args.self.now _ _ c.look.ensures)
