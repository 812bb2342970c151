-- No shape with more moved-down players has an arrangement that counts.
use Rattle.std.proofs.Common.{◌≡◌, map}
use Rattle.dutch_bracket.specs.Prelude.{down_from, fits, shapes_with}
use Rattle.dutch_bracket.proofs.ShapeSearch.{found_in, shape_with}
use Rattle.dutch_arrangements.specs.Prelude.{Spends}
use Rattle.dutch_candidates.proofs.greatest.shape_with.Given as goal

abbrev pub decreases-loop-mdps : goal.decreases-loop-mdps
decreases-loop-mdps g l = l.mdps

abbrev pub invariant-loop-mdps : goal.invariant-loop-mdps
invariant-loop-mdps g l =
    let found_in = found_in (g.S.Shapes.counting l.asked) (fits (g.S.Shapes.frame l.asked)) in
    record {
      found : found_in (shapes_with l.pairs) ≡ found_in (map (shape_with l.pairs) (down_from l.mdps));
      lists : g.S.Shapes.lists l.asked l.lister.listing;
      spends : Spends l.initial.budget l.budget;
    }
