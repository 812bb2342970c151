use Rattle.std.proofs.Common.{◌≡◌, ◌+◌, ◌*◌, ◌≤◌}
use Rattle.std.specs.Prelude.{sum_by}
use Rattle.trf16_report.specs.Prelude.{cell_in, half_points}
use Rattle.tables.specs.Prelude.{opponent_score, sonneborn_berger}
use Rattle.tables.proofs.RoundLemmas.{rounds_from}
use Rattle.tables.proofs.keys.sonneborn_berger.Given as goal

abbrev pub invariant-loop-before : goal.invariant-loop-before
invariant-loop-before l =
    (l.sum + sum_by (λ round. opponent_score l.report l.start round * half_points l.report.bye (cell_in l.report l.start round)) (rounds_from l.before l.rounds) ≡ sonneborn_berger l.report l.start)
    × (l.sum ≤ 131584 * l.before)
