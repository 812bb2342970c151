-- No number of pairs passed so far has an arrangement that counts.
use Rattle.std.proofs.Common.{◌≡◌, ◌≤◌, ◌*◌, length}
use Rattle.std.specs.Prelude.{flat_map}
use Rattle.dutch_bracket.specs.Prelude.{down_from, fits, shapes_with, greatest_shape}
use Rattle.dutch_bracket.proofs.ShapeSearch.{found_in}
use Rattle.dutch_arrangements.specs.Prelude.{Spends}
use Rattle.dutch_candidates.proofs.greatest.greatest_shape.Given as goal

abbrev pub decreases-loop-shape : goal.decreases-loop-shape
decreases-loop-shape g l = l.pairs

abbrev pub invariant-loop-shape : goal.invariant-loop-shape
invariant-loop-shape g l = record {
  found : greatest_shape (g.S.Shapes.counting l.asked) (g.S.Shapes.frame l.asked)
      ≡ found_in (g.S.Shapes.counting l.asked) (fits (g.S.Shapes.frame l.asked)) (flat_map shapes_with (down_from l.pairs));
  few : 2 * l.pairs ≤ length (g.S.Shapes.frame l.asked).scores;
  lists : g.S.Shapes.lists l.asked l.lister.listing;
  spends : Spends l.initial.budget l.budget;
}
