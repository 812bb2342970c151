-- The count so far and that of the seats to come make the whole count.
use Rattle.std.proofs.Common.{◌≡◌, ◌+◌, ◌≤◌, drop, sum_by}
use Rattle.dutch_floors.specs.FloorOf.{wanting}
use Rattle.dutch_floors.proofs.colour_floor.in_seats.Given as goal

abbrev pub invariant-loop-seat : goal.invariant-loop-seat
invariant-loop-seat l = record {
  few : l.count ≤ l.seat-index;
  so_far : l.count + sum_by (wanting l.want.firm l.context.facts l.want.colour) (drop l.seat-index l.seats)
      ≡ sum_by (wanting l.want.firm l.context.facts l.want.colour) l.seats;
}
