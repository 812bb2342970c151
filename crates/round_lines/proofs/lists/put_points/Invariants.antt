-- The points so far and those to come make all of them.
use Rattle.std.proofs.Common.{◌≡◌, ◌++◌, drop, flat_map}
use Rattle.common_texts.specs.Prelude.{halves_text}
use Rattle.round_lines.proofs.lists.put_points.Given as goal

abbrev pub invariant-loop-half : goal.invariant-loop-half
invariant-loop-half l =
    l.text ++ flat_map (λ half. l.mark ++ halves_text half) (drop l.half-index l.all)
    ≡ l.initial.text ++ flat_map (λ half. l.mark ++ halves_text half) l.all
