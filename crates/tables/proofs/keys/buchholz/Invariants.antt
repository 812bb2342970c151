use Rattle.std.proofs.Common.{◌≡◌, ◌+◌, ◌*◌, ◌≤◌}
use Rattle.std.specs.Prelude.{sum_by}
use Rattle.tables.specs.Prelude.{opponent_score, buchholz}
use Rattle.tables.proofs.RoundLemmas.{rounds_from}
use Rattle.tables.proofs.keys.buchholz.Given as goal

abbrev pub invariant-loop-before : goal.invariant-loop-before
invariant-loop-before l =
    (l.sum + sum_by (opponent_score l.report l.start) (rounds_from l.before l.rounds) ≡ buchholz l.report l.start)
    × (l.sum ≤ 65792 * l.before)
