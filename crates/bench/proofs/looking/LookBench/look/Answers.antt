use Rattle.bench.proofs.Follows.{looks_law}
use Rattle.bench.proofs.looking.LookBench.look.Goals as goal

pub returns : goal.returns
returns g c = rw c.ok_or.ensures.value (looks_law c.args.self.now)
