use Rattle.std.proofs.Common.{refl}
use Rattle.bench.specs.Calls.{close_reply}
use Rattle.bench.proofs.Follows.{refused, closes}
use Rattle.bench.proofs.looking.LookBenchCalls.close.Goals as goal

pub returns-in_err-report-clause-law : goal.returns-in_err-report-clause-law
returns-in_err-report-clause-law g c = refused close_reply _ _ _ c.args.self.now _ _ refl c.in_err-report.ensures.law c.from_residual.ensures.1

pub returns-clause-law : goal.returns-clause-law
returns-clause-law g c = closes _ _ c.args.self.now _ c.in_ok-report.ensures.law
