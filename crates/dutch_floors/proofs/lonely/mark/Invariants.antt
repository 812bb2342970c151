-- What is marked so far and what is to come make it all.
use Rattle.std.proofs.Common.{◌≡◌, ◌≤◌, ◌||◌, ℕ, drop}
use Rattle.dutch_sequence.specs.declared.numbers.TheConstants.{LIMIT}
use Rattle.dutch_arrangements.specs.Prelude.{is_member}
use Rattle.dutch_bracket.specs.Prelude.{has_bit}
use Rattle.dutch_floors.proofs.lonely.mark.Given as goal

abbrev pub invariant-loop-number : goal.invariant-loop-number
invariant-loop-number l = (i : ℕ) → i ≤ LIMIT → (has_bit l.marks i || is_member i (drop l.number-index l.numbers)) ≡ (has_bit l.initial.marks i || is_member i l.numbers)
