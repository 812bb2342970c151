use Rattle.std.proofs.Common.{◌≡◌, ◌+◌, ◌*◌, ◌≤◌}
use Rattle.std.specs.Prelude.{sum_by}
use Rattle.trf16_report.specs.Prelude.{cell_in}
use Rattle.tables.specs.Prelude.{points_against, points_among}
use Rattle.tables.proofs.RoundLemmas.{rounds_from}
use Rattle.tables.proofs.keys.points_among.Given as goal

abbrev pub invariant-loop-before : goal.invariant-loop-before
invariant-loop-before l =
    (l.sum + sum_by (λ round. points_against l.group (cell_in l.report l.start round)) (rounds_from l.before l.rounds) ≡ points_among l.report l.group l.start)
    × (l.sum ≤ 2 * l.before)
