-- What a finder finds in a bracket: the best of the candidates of a shape that can be chosen and grant what is wished (C.04.3 B.3, B.8).
use Rattle.std.specs.Prelude.{◌≡◌, filter, Option, Some}
use Rattle.dutch_arrangements.specs.declared.bracket.Shape.{Shape}
use Rattle.dutch_arrangements.specs.Prelude.{Arrangement, down}
use Rattle.dutch_candidates.specs.declared.wish.Wish.{Wish}
use Rattle.dutch_bracket.specs.Prelude.{Context, eligible_here, frame_here, quality_here, quality_in, best}
use Rattle.dutch_candidates.specs.Wishes.{is_wished}
use Rattle.dutch_choice.specs.declared.finder.Best.{Best}
use Rattle.dutch_choice.specs.Wishes.{is_better_here}

-- of the candidates of a shape that can be chosen and grant the wish, if something is wished, the first that none of them is better than
-- [B.8; own]
unfoldable pub best_wished : Context → Option Wish → Shape → Option Arrangement
best_wished context wish shape = best (is_better_here context) (filter (is_wished wish) (eligible_here context shape))

-- a candidate that is told has its downfloaters and its quality [with best_wished]
abbrev pub HasItsQuality : Context → Best → Type 0
HasItsQuality context told =
    (told.candidate.down ≡ down (frame_here context) told.candidate.lists) × (quality_in told.quality ≡ quality_here context told.candidate.lists)

-- the best of a bracket's candidates in some sense is told, with its downfloaters and its quality [with best_wished]
abbrev pub IsBest : Context → Option Arrangement → Best → Type 0
IsBest context found told = (found ≡ Some told.candidate.lists) × HasItsQuality context told
