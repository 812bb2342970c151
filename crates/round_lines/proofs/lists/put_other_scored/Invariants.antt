-- The players so far and those to come make all of them.
use Rattle.std.proofs.Common.{◌≡◌, ◌++◌, drop, codes, flat_map}
use Rattle.round_lines.specs.RoundTexts.{scored_words}
use Rattle.round_lines.proofs.lists.put_other_scored.Given as goal

abbrev pub invariant-loop-seat : goal.invariant-loop-seat
invariant-loop-seat l =
    l.text ++ flat_map (λ seat. codes "; " ++ scored_words l.telling seat) (drop l.seat-index l.seats)
    ≡ l.initial.text ++ flat_map (λ seat. codes "; " ++ scored_words l.telling seat) l.seats
