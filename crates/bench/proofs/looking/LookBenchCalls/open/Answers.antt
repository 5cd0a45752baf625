use Rattle.std.proofs.Common.{refl}
use Rattle.bench.specs.Calls.{open_reply}
use Rattle.bench.proofs.Follows.{refused, opens}
use Rattle.bench.proofs.looking.LookBenchCalls.open.Goals as goal

pub returns-in_err-slip-clause-law : goal.returns-in_err-slip-clause-law
returns-in_err-slip-clause-law g c = refused open_reply _ _ _ c.args.self.now _ _ refl c.in_err-slip.ensures.law c.from_residual.ensures.1

pub returns-clause-law : goal.returns-clause-law
returns-clause-law g c = opens _ _ c.args.self.now _ _ c.in_ok-slip.ensures.law c.seen-self.ensures
