-- The lowest score so far and those to come give the lowest of all.
use Rattle.std.proofs.Common.{◌≡◌, drop}
use Rattle.dutch_bracket.specs.Prelude.{lowest_upto}
use Rattle.dutch_bracket.proofs.seated.lowest_upto.Given as goal

abbrev pub invariant-loop-seat : goal.invariant-loop-seat
invariant-loop-seat l = lowest_upto l.field l.least (drop l.seat-index l.seats) ≡ lowest_upto l.field l.fn.least l.seats
