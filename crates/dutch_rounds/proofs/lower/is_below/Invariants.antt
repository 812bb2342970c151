-- The seat is below all that were passed, so those to come decide.
use Rattle.std.proofs.Common.{◌≡◌, drop}
use Rattle.dutch_rounds.specs.Prelude.{is_below}
use Rattle.dutch_rounds.proofs.lower.is_below.Given as goal

abbrev pub invariant-loop-other : goal.invariant-loop-other
invariant-loop-other l = is_below l.field l.seats l.seat ≡ is_below l.field (drop l.other-index l.seats) l.seat
