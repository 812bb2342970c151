use Rattle.std.proofs.Common.{◌≡◌, ◌≤◌, take, length}
use Rattle.dutch_sequence.specs.Prelude.{left_of}
use Rattle.dutch_sequence.proofs.numbers.put_left_of.Given as goal

abbrev pub invariant-loop-number : goal.invariant-loop-number
invariant-loop-number l = record {
  items : l.left.items ≡ left_of (take l.number-index l.numbers) l.taken;
  fits : length l.left.items ≤ l.number-index;
}
