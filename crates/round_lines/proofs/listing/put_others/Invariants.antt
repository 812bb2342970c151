use Rattle.std.proofs.Common.{◌≡◌, ◌++◌, take, codes, decimal, flat_map}
use Rattle.round_lines.proofs.listing.put_others.Given as goal

abbrev pub invariant-loop-number : goal.invariant-loop-number
invariant-loop-number l = l.text ≡ l.initial.text ++ flat_map (λ n. codes "," ++ decimal n) (take l.number-index l.numbers)
