use Rattle.std.proofs.Common.{◌≡◌, ◌++◌, take, codes, decimal, flat_map}
use Rattle.player_lines.proofs.player_line.put_starts.Given as goal

abbrev pub invariant-loop-start : goal.invariant-loop-start
invariant-loop-start l = l.text ≡ l.initial.text ++ flat_map (λ start. codes " " ++ decimal start) (take l.start-index l.starts)
