-- The groups so far and those to come make all of them.
use Rattle.std.proofs.Common.{◌≡◌, ◌++◌, drop}
use Rattle.stage_lines.specs.BarrierTexts.{groups_text}
use Rattle.stage_lines.proofs.barrier_lines.put_groups.Given as goal

abbrev pub invariant-loop-seat : goal.invariant-loop-seat
invariant-loop-seat l =
    l.text ++ groups_text l.telling l.barrier (drop l.seat-index l.seat-items) ≡ l.initial.text ++ groups_text l.telling l.barrier l.seat-items
