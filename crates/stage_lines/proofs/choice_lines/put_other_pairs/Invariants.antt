-- The pairs so far and those to come make all of them.
use Rattle.std.proofs.Common.{◌≡◌, ◌++◌, drop, codes, flat_map}
use Rattle.stage_lines.specs.ExplainTexts.{pair_words}
use Rattle.stage_lines.proofs.choice_lines.put_other_pairs.Given as goal

abbrev pub invariant-loop-pair : goal.invariant-loop-pair
invariant-loop-pair l =
    l.text ++ flat_map (λ pair. codes "; " ++ pair_words l.telling pair) (drop l.pair-index l.pairs)
    ≡ l.initial.text ++ flat_map (λ pair. codes "; " ++ pair_words l.telling pair) l.pairs
