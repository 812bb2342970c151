-- The best that one pass over the candidates of a shape finds, of all or of those that grant a wish, where a target leaves out those that it
-- is better than (C.04.3 B.8).
use Rattle.std.specs.Prelude.{Bool, false, not, ◌&&◌, ◌||◌, List, Option, Some, None, option_map}
use Rattle.dutch_arrangements.specs.declared.bracket.Shape.{Shape}
use Rattle.dutch_arrangements.specs.Prelude.{Arrangement}
use Rattle.dutch_choice.specs.declared.finder.Best.{Best}
use Rattle.dutch_choice.specs.Prelude.{is_better_here}
use Rattle.dutch_bracket.specs.declared.quality.Quality.{Quality as Fields}
use Rattle.dutch_candidates.specs.declared.wish.Wish.{Wish}
use Rattle.dutch_bracket.specs.Prelude.{Context, can_be_chosen_here, candidates_here, quality_here, Quality, is_better, quality_in, best_with}
use Rattle.dutch_candidates.specs.Wishes.{is_wished}
use Rattle.dutch_passes.specs.Incumbent.{incumbent_lists, wins}

-- the target of a pass, if it has one [own]
abbrev pub target_in : Option Fields → Option Quality
target_in target = option_map quality_in target

-- there is a target, and it is better than a quality
abbrev pub beats : Option Quality → Quality → Bool
beats None quality = false
beats (Some target) quality = is_better target quality

-- a quality loses: the target is better, or there is an incumbent that it is not better than [own]
abbrev pub loses : Option Quality → Option Best → Quality → Bool
loses target incumbent quality = beats target quality || not (wins quality incumbent)

-- a target is not better than a candidate; without a target all are near
abbrev pub is_near : Context → Option Quality → Arrangement → Bool
is_near context target c = not (beats target (quality_here context c))

module _ (context : Context) (wish : Option Wish) where
  -- a candidate that can be chosen and grants the wish
  abbrev pub is_open : Arrangement → Bool
  is_open c = can_be_chosen_here context c && is_wished wish c

  -- a candidate is pruned, and may be passed over: it cannot be chosen, it does not grant the wish, or its quality loses
  abbrev pub is_pruned : Option Quality → Option Best → Arrangement → Bool
  is_pruned target incumbent c = not (is_open c) || loses target incumbent (quality_here context c)

  -- and that the target is not better than
  abbrev pub is_sought : Option Quality → Arrangement → Bool
  is_sought target c = is_open c && is_near context target c

  -- the best for a pass of the incumbent and those to come
  unfoldable pub best_yet : Option Quality → Option Best → List Arrangement → Option Arrangement
  best_yet target incumbent coming = best_with (is_better_here context) (is_sought target) (incumbent_lists incumbent) coming

  -- the best for a pass of a shape
  unfoldable pub best_near : Option Quality → Shape → Option Arrangement
  best_near target shape = best_yet target None (candidates_here context shape)
