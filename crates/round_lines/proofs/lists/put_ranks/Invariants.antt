-- The players so far and those to come make all of them.
use Rattle.std.proofs.Common.{◌≡◌, ◌++◌, drop, codes, flat_map}
use Rattle.round_lines.specs.CandidateTexts.{rank_text}
use Rattle.round_lines.proofs.lists.put_ranks.Given as goal

abbrev pub invariant-loop-seat : goal.invariant-loop-seat
invariant-loop-seat l =
    l.text ++ flat_map (λ seat. codes " " ++ rank_text l.field seat) (drop l.seat-index l.seats)
    ≡ l.initial.text ++ flat_map (λ seat. codes " " ++ rank_text l.field seat) l.seats
