use Rattle.std.proofs.Common.{◌≡◌, ◌^◌, ◌<◌, take}
use Rattle.notation.specs.Digits.{hex_line}
use Rattle.notation.proofs.machine.read_word.Given as goal

abbrev pub invariant-loop-byte : goal.invariant-loop-byte
invariant-loop-byte l = (l.word < 16 ^ l.byte-index) × (take l.byte-index l.line ≡ hex_line l.byte-index l.word)
