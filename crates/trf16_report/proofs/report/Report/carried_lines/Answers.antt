use Rattle.std.proofs.Common.{◌≤◌, length, arith}
use Rattle.std.proofs.lemmas.List.{length-map}
use Rattle.trf16_report.specs.Prelude.{lines, carried_as}
use Rattle.trf16_report.proofs.LineLemmas.{lines_fewer}
use Rattle.trf16_report.proofs.report.Report.carried_lines.Goals as goal

pub returns-clause-few : goal.returns-clause-few
returns-clause-few c =
    let text = c.self.inside.text.now in
    let fewer : length (lines text) ≤ length text = lines_fewer text in
    omega (arith, length-map (lines text) (carried_as c.self.inside.bare_absences c.self.inside.utf8))
