use Rattle.std.proofs.Common.{◌≡◌, ◌≤◌, ◌+◌, ◌*◌, ◌++◌, take, length}
use Rattle.std.specs.Prelude.{codes, decimal}
use Rattle.std.specs.List.{flat_map}
use Rattle.dutch_arrangements.proofs.cursor.push_others.Given as goal

abbrev pub invariant-loop-other : goal.invariant-loop-other
invariant-loop-other l = record {
  bytes : l.text.bytes ≡ l.initial.text.bytes ++ flat_map (λ y. codes "," ++ decimal y) (take l.other-index l.others);
  bound : length l.text.bytes ≤ length l.initial.text.bytes + 6 * l.other-index;
}
