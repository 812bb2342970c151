-- The boards so far and those to come make all of them.
use Rattle.std.proofs.Common.{◌≡◌, ◌+◌, ◌++◌, drop}
use Rattle.markup.specs.Prelude.{node_text}
use Rattle.sheets.specs.Parts.{each_from}
use Rattle.sheets.specs.Rounds.{board_row, board_rows}
use Rattle.sheets.proofs.rounds.put_boards.Given as goal

abbrev pub invariant-loop-i : goal.invariant-loop-i
invariant-loop-i l =
    l.page ++ node_text (each_from (board_row l.report l.round) (l.i + 1) (drop l.i l.boards))
    ≡ l.initial.page ++ node_text (board_rows l.report l.round l.boards)
