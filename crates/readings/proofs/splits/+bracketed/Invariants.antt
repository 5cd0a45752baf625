use Rattle.std.proofs.Common.{length}
use Rattle.readings.proofs.splits.+bracketed.Given as goal

abbrev pub decreases-bracketed : goal.decreases-bracketed
decreases-bracketed l = length l.words.now
