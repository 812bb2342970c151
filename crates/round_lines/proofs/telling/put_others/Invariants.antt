-- The players so far and those to come make all of them.
use Rattle.std.proofs.Common.{◌≡◌, ◌++◌, drop, codes, flat_map}
use Rattle.round_lines.specs.Tellings.{player_words}
use Rattle.round_lines.proofs.telling.put_others.Given as goal

abbrev pub invariant-loop-start : goal.invariant-loop-start
invariant-loop-start l =
    l.text ++ flat_map (λ start. codes "; " ++ player_words l.report start) (drop l.start-index l.starts)
    ≡ l.initial.text ++ flat_map (λ start. codes "; " ++ player_words l.report start) l.starts
