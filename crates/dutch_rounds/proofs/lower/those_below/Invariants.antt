-- Those kept so far, and those to come that are below, are all who are below.
use Rattle.std.proofs.Common.{◌≡◌, ◌≤◌, drop, filter}
use Rattle.arrayvec.specs.ArrayVec.{array_vec_len}
use Rattle.dutch_rounds.specs.Prelude.{is_below}
use Rattle.dutch_rounds.proofs.LowerLemmas.{kept_along}
use Rattle.dutch_rounds.proofs.lower.those_below.Given as goal

abbrev pub invariant-loop-seat : goal.invariant-loop-seat
invariant-loop-seat l = record {
  items : kept_along l.field l.seats l.lower.items (drop l.seat-index l.all) ≡ filter (is_below l.field l.seats) l.all;
  len : array_vec_len l.lower ≤ l.seat-index;
}
