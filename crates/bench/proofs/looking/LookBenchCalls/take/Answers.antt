use Rattle.std.proofs.Common.{refl}
use Rattle.bench.specs.Calls.{take_reply}
use Rattle.bench.proofs.Follows.{refused, takes}
use Rattle.bench.proofs.looking.LookBenchCalls.take.Goals as goal

pub returns-in_err-take-clause-law : goal.returns-in_err-take-clause-law
returns-in_err-take-clause-law g c = refused take_reply _ _ _ c.args.self.now _ _ refl c.in_err-take.ensures.law c.from_residual.ensures.1

pub returns-clause-law : goal.returns-clause-law
returns-clause-law g c = rw c.follow.ensures.bench (takes _ c.args.self.now _ _ c.in_ok-take.ensures.law c.follow.ensures.asked c.follow.ensures.kept)
