use Rattle.std.proofs.Common.{◌≡◌, ◌≤◌, ◌+◌, filter, map, length}
use Rattle.trf16_report.specs.Prelude.{entry_of}
use Rattle.trf16_report.specs.declared.limits.TheConstants.{MOST_PLAYERS}
use Rattle.report_notes.specs.Rounds.{byes_in, has_bye}
use Rattle.report_notes.proofs.rounds.byes_in.Given as goal

abbrev pub invariant-loop-player : goal.invariant-loop-player
invariant-loop-player l =
    (l.count + length (filter (has_bye l.round) (map entry_of l.player-iterator)) ≡ byes_in l.report l.round)
    × (l.count + length l.player-iterator ≤ MOST_PLAYERS)
