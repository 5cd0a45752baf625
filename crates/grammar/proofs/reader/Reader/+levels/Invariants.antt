-- Each level has an own place below those that call it, for one word.
use Rattle.std.proofs.Common.{◌+◌, ◌-◌, ◌*◌}
use Rattle.grammar.specs.Grammar.{conjunction, alternative}
use Rattle.grammar.specs.Parts.{Took}
use Rattle.grammar.proofs.reader.Reader.+levels.Given as goal

abbrev pub decreases-operand : goal.decreases-operand
decreases-operand l = 6 * (256 - l.self.now.at) + 0

abbrev pub decreases-until : goal.decreases-until
decreases-until l = 6 * (256 - l.self.now.at) + 1

abbrev pub decreases-conjunction : goal.decreases-conjunction
decreases-conjunction l = 6 * (256 - l.self.now.at) + 2

abbrev pub decreases-alternative : goal.decreases-alternative
decreases-alternative l = 6 * (256 - l.self.now.at) + 3

abbrev pub decreases-implication : goal.decreases-implication
decreases-implication l = 6 * (256 - l.self.now.at) + 4

abbrev pub decreases-rule : goal.decreases-rule
decreases-rule l = 6 * (256 - l.self.now.at) + 5

abbrev pub invariant-conjunction-loop-sign : goal.invariant-conjunction-loop-sign
invariant-conjunction-loop-sign l = Took conjunction 2 l.fn.self l.self l.left

abbrev pub decreases-conjunction-loop-sign : goal.decreases-conjunction-loop-sign
decreases-conjunction-loop-sign l = 256 - l.self.at

abbrev pub invariant-alternative-loop-sign : goal.invariant-alternative-loop-sign
invariant-alternative-loop-sign l = Took alternative 3 l.fn.self l.self l.left

abbrev pub decreases-alternative-loop-sign : goal.decreases-alternative-loop-sign
decreases-alternative-loop-sign l = 256 - l.self.at
