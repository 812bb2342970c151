-- Where a floor lies beyond the bar of the incumbent, or of the target, no candidate behind it is better (C.04.3 C.6 to C.19).
use Rattle.std.proofs.Common.{◌≡◌, ℕ, ◌<◌, ◌≤◌, ◌⊎◌, true, false, not, Option, Some, None, inl, inr, refl, ap, subst, ◌∙◌, arith}
use Rattle.std.proofs.Math.Logic.{∥∥₁_elim}
use Rattle.dutch_arrangements.specs.Prelude.{Arrangement, IsIn}
use mathlib.Core.Bool.{Bool-set}
use Rattle.dutch_bracket.specs.Prelude.{Quality, is_better, next_in, quality_in, candidates_in, quality_here}
use Rattle.dutch_passes.specs.Prelude.{target_in, beats, wins, incumbent_in}
use Rattle.dutch_search.specs.Prelude.{HasNoBetterNext, IsBehindTarget, IsBehindIncumbent, Weighs, context_of, pass_of}
use Rattle.dutch_choice.specs.declared.finder.Best.{Best}
use Rattle.dutch_bracket.specs.declared.quality.Quality.{Quality as Fields}
use Rattle.dutch_weight_floors.specs.declared.weight_floor.Bar.{Bar}
use Rattle.dutch_weight_floors.specs.Prelude.{HasBar, IsBar, Weighed}
use Rattle.dutch_search.specs.declared.skipper.Skipper.{Skipper}
use Rattle.dutch_weight_floors.proofs.WeightsBehind.{no_lighter, behind_all, then_worse}

module _ (s : Skipper) (a : Arrangement) (m : IsIn a (candidates_in (pass_of s).shaped)) (least : ℕ) (weighs : Weighs s least a) where
  abbrev it : Quality
  it = quality_here (context_of s) a

  -- so much weight is no less than all of a PSD, or no less than that of a quality, where the next bracket is not better
  abbrev Reaches : Bar → Quality → Type 0
  Reaches bar f = (bar.above ≤ least) ⊎ ((bar.weight ≤ least) × HasNoBetterNext s (next_in f) a)

  module _ (w : Weighed) (there : s.weights.now ≡ Some w) (f : Quality) (bar : Bar) (at' : IsBar w.scale f bar) where
    no_better_here : Reaches bar f → is_better it f ≡ false
    no_better_here (inl beyond) =
        behind_all (context_of s).facts (context_of s).reached w.scale (context_of s).lower (pass_of s).shaped.shape a s.basis.of (pass_of s).shaped.fits m at'.falls (weighs w there).0 f at'.on
        (omega (arith, at'.above, beyond, (weighs w there).1))
    no_better_here (inr both) =
        no_lighter (context_of s).facts (context_of s).reached w.scale (context_of s).lower (pass_of s).shaped.shape a s.basis.of (pass_of s).shaped.fits m at'.falls (weighs w there).0 f at'.on
        (omega (arith, at'.weight, both.0, (weighs w there).1)) (both.1 w there)

    better_here : bar.weight < least → Reaches bar f → is_better f it ≡ true
    better_here passed reaches =
        then_worse (context_of s).facts (context_of s).reached w.scale (context_of s).lower (pass_of s).shaped.shape a s.basis.of (pass_of s).shaped.fits m at'.falls (weighs w there).0 f at'.on
        (omega (arith, at'.weight, passed, (weighs w there).1)) (no_better_here reaches)

  no_better_by : (weights : Option Weighed) → s.weights.now ≡ weights → (f : Quality) (bar : Bar) → HasBar weights (Some f) (Some bar) → Reaches bar f → is_better it f ≡ false
  no_better_by None same f bar at' reaches = absurd at'
  no_better_by (Some w) same f bar at' reaches = no_better_here w same f bar at' reaches

  better_by : (weights : Option Weighed) → s.weights.now ≡ weights → (f : Quality) (bar : Bar) → HasBar weights (Some f) (Some bar) → bar.weight < least → Reaches bar f
      → is_better f it ≡ true
  better_by None same f bar at' passed reaches = absurd at'
  better_by (Some w) same f bar at' passed reaches = better_here w same f bar at' passed reaches

  -- the incumbent is not worse than one that its bar reaches
  pub behind_incumbent : (bar : Bar) (best : Best) → s.bars.now.incumbent ≡ Some bar → s.so_far.incumbent.now ≡ Some best → Reaches bar (quality_in best.quality) → IsBehindIncumbent s a
  behind_incumbent bar best bar_is there reaches =
      ∥∥₁_elim s.best (Bool-set _ _) (λ has.
      let here' : HasBar s.weights.now (Some (quality_in best.quality)) (Some bar) =
      subst (λ (o : Option Bar). HasBar s.weights.now (Some (quality_in best.quality)) o) bar_is
      (subst (λ (o : Option Best). HasBar s.weights.now (incumbent_in o) s.bars.now.incumbent) there has) in
      ap (λ (o : Option Best). not (wins it o)) there ∙ ap not (no_better_by s.weights.now refl (quality_in best.quality) bar here' reaches))

  -- the target is better than one beyond its bar
  pub behind_target : (bar : Bar) (target : Fields) → s.bars.now.target ≡ Some bar → (pass_of s).target ≡ Some target → bar.weight < least → Reaches bar (quality_in target) → IsBehindTarget s a
  behind_target bar target bar_is there passed reaches =
      ∥∥₁_elim s.target (Bool-set _ _) (λ has.
      let here' : HasBar s.weights.now (Some (quality_in target)) (Some bar) =
      subst (λ (o : Option Bar). HasBar s.weights.now (Some (quality_in target)) o) bar_is (subst (λ (o : Option Fields). HasBar s.weights.now (target_in o) s.bars.now.target) there has) in
      ap (λ (o : Option Fields). beats (target_in o) it) there ∙ better_by s.weights.now refl (quality_in target) bar here' passed reaches)
