use Rattle.std.proofs.Common.{◌≡◌, ◌-◌, ◌<◌, length, map, None, slice_index_or}
use Rattle.trf16_report.specs.Prelude.{lines, carried_as}
use Rattle.trf16_report.proofs.report.Report.carried.Given as goal

abbrev pub invariant-loop-rest : goal.invariant-loop-rest
invariant-loop-rest l =
    (slice_index_or (map (carried_as l.self-inside.bare_absences l.self-inside.utf8) (lines l.rest)) (l.left - 1) None
    ≡ slice_index_or (map (carried_as l.self-inside.bare_absences l.self-inside.utf8) (lines l.self-inside.text.now)) (l.line - 1) None)
    × (0 < l.left)

abbrev pub decreases-loop-rest : goal.decreases-loop-rest
decreases-loop-rest l = length l.rest
