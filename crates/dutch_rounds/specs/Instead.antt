-- What stands in a bracket in place of what is chosen there, were a wish granted, or why nothing does (C.04.3 B.1, B.8, C.4, C.5).
use Rattle.std.specs.Prelude.{◌≡◌, ℕ, false, Some}
use Rattle.std.specs.List.{list_any}
use Rattle.dutch_arrangements.specs.declared.bracket.Shape.{Shape}
use Rattle.dutch_arrangements.specs.Prelude.{down}
use Rattle.dutch_rounds.specs.declared.instead.Instead.{Instead}
use Rattle.dutch_rounds.specs.declared.instead.Instead.TheVariants.{Best, FewerMovedDown, NoneEligible, NoneLegal, Undecided}
use Rattle.dutch_candidates.specs.declared.wish.Wish.{Wish}
use Rattle.dutch_bracket.specs.Prelude.{quality_in, Context, candidates_here, eligible_here, frame_here, quality_here}
use Rattle.dutch_candidates.specs.Wishes.{grants}
use Rattle.dutch_choice.specs.Prelude.{IsBarred, SomeGrants, best_granting, some_grants, with_mdps}

-- what is told of a wish in a bracket: the best candidate that grants it; or the first of these that stands: legal ones grant it, but none
-- that can be chosen; none of the shape does, but one with as many pairs and fewer moved-down players in them; none with as many pairs
-- does; or that the limit was reached [B.1, B.8, C.4, C.5; own]
unfoldable pub IsInstead : Context → Shape → Wish → ℕ → Instead → Type 0
IsInstead context shape wish limit (Best candidate quality) =
    (best_granting context shape wish ≡ Some candidate.lists)
    × (candidate.down ≡ down (frame_here context) candidate.lists) × (quality_in quality ≡ quality_here context candidate.lists)
IsInstead context shape wish limit NoneEligible =
    IsBarred context.facts context.reached wish shape × (list_any (grants wish) (eligible_here context shape) ≡ false)
IsInstead context shape wish limit FewerMovedDown =
    (list_any (grants wish) (candidates_here context shape) ≡ false) × SomeGrants context.facts context.reached wish shape 0 shape.mdps
IsInstead context shape wish limit NoneLegal =
    (mdps : ℕ) → some_grants context.facts context.reached wish (with_mdps shape mdps) ≡ false
IsInstead context shape wish limit (Undecided used) = used ≡ limit
