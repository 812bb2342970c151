use Rattle.std.proofs.Common.{◌≡◌, ◌+◌, drop}
use Rattle.dutch_sequence.specs.Prelude.{place_in}
use Rattle.dutch_sequence.proofs.transposition.place_in.Given as goal

abbrev pub invariant-loop-other : goal.invariant-loop-other
invariant-loop-other l = record {
  at_place : l.place ≡ l.other-index;
  so_far : place_in l.pool l.number ≡ l.place + place_in (drop l.other-index l.pool) l.number;
}
