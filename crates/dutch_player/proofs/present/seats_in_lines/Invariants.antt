use Rattle.std.proofs.Common.{◌≡◌, ◌≤◌, ◌+◌, ◌++◌, map, length, vec_len}
use Rattle.trf16_report.specs.Prelude.{entry_of}
use Rattle.dutch_player.specs.Prelude.{facts_in, seats_of}
use Rattle.dutch_player.proofs.present.seats_in_lines.Given as goal
use Rattle.trf16_report.specs.declared.limits.TheConstants.{MOST_PLAYERS}

abbrev pub invariant-loop-player : goal.invariant-loop-player
invariant-loop-player l =
    (map facts_in l.seats.items ++ seats_of l.report (map entry_of l.player-iterator) ≡ seats_of l.report l.report.players)
    × (vec_len l.seats + length l.player-iterator ≤ MOST_PLAYERS)
