use Rattle.std.proofs.Common.{vec_items}
use Rattle.script.proofs.Walking.{Read}
use Rattle.script.proofs.reading.read_script.Given as goal

abbrev pub invariant-loop-line : goal.invariant-loop-line
invariant-loop-line l = Read l.text (vec_items l.turns) l.line-iterator
