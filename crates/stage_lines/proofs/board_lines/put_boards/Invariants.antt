-- The boards so far and those to come make all of them.
use Rattle.std.proofs.Common.{◌≡◌, ◌++◌, drop}
use Rattle.stage_lines.specs.ExplainTexts.{boards_text}
use Rattle.stage_lines.proofs.board_lines.put_boards.Given as goal

abbrev pub invariant-loop-pair : goal.invariant-loop-pair
invariant-loop-pair l =
    l.text ++ boards_text l.telling l.whose (drop l.pair-index l.pairs) ≡ l.initial.text ++ boards_text l.telling l.whose l.pairs
