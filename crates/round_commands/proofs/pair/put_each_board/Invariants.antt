-- The boards so far and those to come make all of them.
use Rattle.std.proofs.Common.{◌≡◌, ◌++◌, drop, flat_map}
use Rattle.round_commands.specs.PairAnswers.{board_text}
use Rattle.round_commands.proofs.pair.put_each_board.Given as goal

abbrev pub invariant-loop-board : goal.invariant-loop-board
invariant-loop-board l = l.text ++ flat_map board_text (drop l.board-index l.boards) ≡ l.initial.text ++ flat_map board_text l.boards
