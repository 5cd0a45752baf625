use Rattle.std.proofs.Common.{◌+◌, ◌≤◌, [], sym, ◌∙◌, arith}
use Rattle.std.proofs.lemmas.Bool.{le-leb, ltb-true, ltb-false}
use Rattle.observers.specs.declared.observer.Outlook.TheVariants.{Lost, Open}
use Rattle.observers.proofs.Foreseen.{foreseen}
use Rattle.sheets.specs.Lines.{fits}
use Rattle.sheets.proofs.Measured.{over, blanks, too_many}
use Rattle.sheets.proofs.measure.RulerFarSighted.outlook.Goals as goal

pub returns-then-over : goal.returns-then-over
returns-then-over c =
    let s = c.args.self.now in
    foreseen (fits s.width s.cells) Lost (over s.width s.cells (grind (arith, ltb-true)))

pub returns-else-over : goal.returns-else-over
returns-else-over c =
    let s = c.args.self.now in
    let h : s.cells ≤ s.width = ltb-false s.width s.cells (sym c.over.ensures ∙ c.if-over.false) in
    foreseen (fits s.width s.cells) Open (([], le-leb s.cells s.width h), (blanks (s.width + 1), too_many s.width s.cells (s.width + 1) (omega arith)))
