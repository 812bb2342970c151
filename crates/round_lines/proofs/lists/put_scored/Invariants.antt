-- The players so far and those to come make all of them.
use Rattle.std.proofs.Common.{◌≡◌, ◌++◌, drop, flat_map}
use Rattle.round_lines.specs.RoundTexts.{scored_text}
use Rattle.round_lines.proofs.lists.put_scored.Given as goal

abbrev pub invariant-loop-seat : goal.invariant-loop-seat
invariant-loop-seat l =
    l.text ++ flat_map (scored_text l.telling) (drop l.seat-index l.seats) ≡ l.initial.text ++ flat_map (scored_text l.telling) l.seats
