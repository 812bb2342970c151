-- Those left over so far and those to come make all of them.
use Rattle.std.proofs.Common.{◌≡◌, ◌++◌, drop}
use Rattle.stage_lines.specs.ExplainTexts.{left_text}
use Rattle.stage_lines.proofs.board_lines.put_byes.Given as goal

abbrev pub invariant-loop-number : goal.invariant-loop-number
invariant-loop-number l =
    l.text ++ left_text l.telling l.whose l.reached.seats (drop l.number-index l.number-items)
    ≡ l.initial.text ++ left_text l.telling l.whose l.reached.seats l.number-items
