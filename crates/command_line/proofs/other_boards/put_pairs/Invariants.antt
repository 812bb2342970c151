-- The pairs so far and those of the brackets to come make all of them.
use Rattle.std.proofs.Common.{◌≡◌, ◌++◌, drop}
use Rattle.std.specs.List.{flat_map}
use Rattle.dutch_rounds.specs.Prelude.{own_pairs}
use Rattle.command_line.proofs.other_boards.put_pairs.Given as goal

abbrev pub invariant-loop-stage : goal.invariant-loop-stage
invariant-loop-stage l =
    l.pairs.items ++ flat_map own_pairs (drop l.stage-index l.stages) ≡ l.initial.pairs.items ++ flat_map own_pairs l.stages
