use Rattle.std.proofs.Common.{arith}
use Rattle.std.proofs.lemmas.Grind.{common_steps}
use Rattle.linewatch.proofs.Seen.{lost, not_lost}
use Rattle.linewatch.proofs.lost_since.Goals as goal

pub returns-in-Ok-Lost : goal.returns-in-Ok-Lost
returns-in-Ok-Lost g c n rule l st on = lost n rule l on c.look.result c.in-Ok-Lost.count (cc) (c.look.ensures n rule l st).0

pub returns-in-Ok-Safe : goal.returns-in-Ok-Safe
returns-in-Ok-Safe g c n rule l st on = not_lost n rule l on c.look.result (λ m e. grind (arith, common_steps)) (c.look.ensures n rule l st).0

pub returns-in-Err : goal.returns-in-Err
returns-in-Err g c n rule l st on = not_lost n rule l on c.look.result (λ m e. cc) (c.look.ensures n rule l st).0
