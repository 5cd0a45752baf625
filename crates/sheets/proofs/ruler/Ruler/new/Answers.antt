use Rattle.std.proofs.Common.{refl, arith}
use Rattle.sheets.proofs.Measured.{lines_kept}
use Rattle.sheets.proofs.ruler.Ruler.new.Goals as goal

pub returns : goal.returns
returns c = record { least = omega arith; most = omega arith; measures = refl; begins = refl; keeps = lines_kept c.args.width }
