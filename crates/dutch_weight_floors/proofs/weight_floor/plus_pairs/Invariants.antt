-- The sum so far and what the pairs to come add are the sum of all.
use Rattle.std.proofs.Common.{◌≡◌, ◌+◌, drop, sum_by}
use Rattle.std.specs.List.{zip}
use Rattle.dual.specs.Prelude.{slack_in}
use Rattle.dutch_weight_floors.proofs.weight_floor.plus_pairs.Given as goal

abbrev pub invariant-loop-i : goal.invariant-loop-i
invariant-loop-i l =
    l.sum + sum_by (slack_in l.floor) (zip (drop l.i l.firsts) (drop l.i l.seconds)) ≡ l.fn.sum + sum_by (slack_in l.floor) (zip l.firsts l.seconds)
