use Rattle.std.proofs.Common.{◌<◌, ap, sym, ◌∙◌, arith}
use Rattle.notation.specs.Digits.{digit}
use Rattle.notation.proofs.Numerals.{hex_line_more}
use Rattle.notation.proofs.machine.read_word.Goals as goal

pub loop-byte-preserved : goal.loop-byte-preserved
loop-byte-preserved c =
    let told = c.in_ok-value.ensures in
    let lt : c.from.result < 16 = omega arith in
    hex_line_more c.args.line.now c.loop-byte.byte-index c.loop-byte.word c.from.result (omega arith) lt
    (told.1 ∙ ap digit (sym c.from.ensures)) c.loop-byte.invariant.0 c.loop-byte.invariant.1
