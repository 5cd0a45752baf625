use Rattle.std.proofs.Common.{◌≡◌, ◌+◌, length}
use Rattle.std.specs.Slice.Iter.{chunk_by_rest}
use Rattle.readings.proofs.words.runs.Given as goal

abbrev pub invariant-loop-part : goal.invariant-loop-part
invariant-loop-part l = l.place + length (chunk_by_rest l.part-iterator) ≡ length l.text
