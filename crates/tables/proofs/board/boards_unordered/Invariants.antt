use Rattle.std.proofs.Common.{◌≡◌, ◌++◌, map}
use Rattle.std.specs.List.{filter_map}
use Rattle.trf16_report.specs.Prelude.{entry_of}
use Rattle.tables.specs.Prelude.{board_at, boards_unordered}
use Rattle.tables.proofs.board.boards_unordered.Given as goal

abbrev pub invariant-loop-player : goal.invariant-loop-player
invariant-loop-player l =
    l.boards.items ++ filter_map (λ entry. board_at l.report l.round entry.start) (map entry_of l.player-iterator) ≡ boards_unordered l.report l.round
