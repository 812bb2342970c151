-- What a skipper tells of the candidates that it leaves out (C.04.3 B.8). Only private functions' clauses cite these.
use Rattle.std.specs.Prelude.{◌≡◌, ℕ, not, true}
use Rattle.dutch_arrangements.specs.Prelude.{Arrangement, ExchangeClass, IsIn, Beginning}
use Rattle.dutch_bracket.specs.Prelude.{Context, OfEachWithBeginning, candidates_in, quality_here, NextValue}
use Rattle.dutch_passes.specs.declared.pass.Pass.{Pass}
use Rattle.dutch_passes.specs.Prelude.{target_in, beats, wins}
use Rattle.dutch_search.specs.declared.skipper.Skipper.{Skipper}
use Rattle.dutch_weight_floors.specs.Prelude.{BeginsWith, KnowsNext, WeighsNoLess}

module _ (skipper : Skipper) where
  -- the pass of a skipper
  abbrev pub pass_of : Pass
  pass_of = skipper.so_far.pass.now

  -- the bracket of a skipper above its lower seats
  abbrev pub context_of : Context
  context_of = pass_of.shaped.context.now

  -- something is said of each candidate with a beginning
  abbrev pub OfEach : Beginning → (Arrangement → Type 0) → Type 0
  OfEach beginning says = OfEachWithBeginning pass_of.shaped beginning says

  -- and of each candidate
  abbrev pub OfEachHere : (Arrangement → Type 0) → Type 0
  OfEachHere says = (a : Arrangement) → IsIn a (candidates_in pass_of.shaped) → says a

  -- and of each with a beginning and such an S1R
  abbrev pub OfEachWith : Beginning → ExchangeClass → (Arrangement → Type 0) → Type 0
  OfEachWith beginning exchange says =
      (a : Arrangement) → IsIn a (candidates_in pass_of.shaped) → BeginsWith beginning exchange a → says a

  -- a candidate weighs no less than so much, by the floors that are there
  abbrev pub Weighs : ℕ → Arrangement → Type 0
  Weighs least a = WeighsNoLess context_of pass_of.shaped.shape skipper.weights.now least (quality_here context_of a)

  -- C.7: a candidate has no better value of the next bracket than this, or its weight tells of that
  abbrev pub HasNoBetterNext : NextValue → Arrangement → Type 0
  HasNoBetterNext other a = KnowsNext skipper.weights.now (quality_here context_of a) other

  -- the target is better than a candidate
  abbrev pub IsBehindTarget : Arrangement → Type 0
  IsBehindTarget a = beats (target_in pass_of.target) (quality_here context_of a) ≡ true

  -- a candidate is not better than the incumbent
  abbrev pub IsBehindIncumbent : Arrangement → Type 0
  IsBehindIncumbent a = not (wins (quality_here context_of a) skipper.so_far.incumbent.now) ≡ true
