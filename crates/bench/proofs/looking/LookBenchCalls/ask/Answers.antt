use Rattle.bench.proofs.Follows.{asks}
use Rattle.bench.proofs.looking.LookBenchCalls.ask.Goals as goal

pub returns : goal.returns
returns g c = asks _ _ c.ask.ensures
