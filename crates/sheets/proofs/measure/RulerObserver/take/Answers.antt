use Rattle.std.proofs.Common.{◌<◌, ◌∷◌, sym, ◌∙◌}
use Rattle.std.proofs.lemmas.Bool.{ltb-true}
use Rattle.sheets.proofs.Measured.{over}
use Rattle.sheets.proofs.measure.RulerObserver.take.Goals as goal

pub returns-else-not-over-clause-rest : goal.returns-else-not-over-clause-rest
returns-else-not-over-clause-rest c t =
    let s = c.args.self.now in
    let h : s.width < s.cells = ltb-true s.width s.cells (sym c.over.ensures ∙ c.if-not-over.false) in
    over s.width s.cells h t ∙ sym (over s.width s.cells h (c.args.e ∷ t))
