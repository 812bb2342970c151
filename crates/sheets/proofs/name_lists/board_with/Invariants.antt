-- The board of the player among those to come is that among all.
use Rattle.std.proofs.Common.{◌≡◌, ◌+◌, drop}
use Rattle.sheets.specs.NameLists.{board_with}
use Rattle.sheets.proofs.name_lists.board_with.Given as goal

abbrev pub invariant-loop-i : goal.invariant-loop-i
invariant-loop-i l = board_with l.start (l.i + 1) (drop l.i l.boards) ≡ board_with l.start 1 l.boards
