-- All seats passed so far have the score.
use Rattle.std.proofs.Common.{◌≡◌, ◌+◌, drop}
use Rattle.dutch_bracket.specs.Prelude.{front_with}
use Rattle.dutch_bracket.proofs.group.front_with.Given as goal

abbrev pub invariant-loop-seat : goal.invariant-loop-seat
invariant-loop-seat l = record {
  at_place : l.count ≡ l.seat-index;
  so_far : front_with l.field l.score l.seats ≡ l.count + front_with l.field l.score (drop l.seat-index l.seats);
}
