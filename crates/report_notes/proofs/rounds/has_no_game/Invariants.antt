use Rattle.std.proofs.Common.{◌≡◌, map, not}
use Rattle.std.specs.List.{list_any}
use Rattle.trf16_report.specs.Prelude.{entry_of}
use Rattle.report_notes.specs.Rounds.{has_no_game, has_opponent}
use Rattle.report_notes.proofs.rounds.has_no_game.Given as goal

abbrev pub invariant-loop-player : goal.invariant-loop-player
invariant-loop-player l = not (list_any (has_opponent l.round) (map entry_of l.player-iterator)) ≡ has_no_game l.report l.round
