-- What floors say behind a beginning they say of the bracket and the shape that they are of (C.04.3 C.6 to C.19).
use Rattle.std.proofs.Common.{◌≡◌, ℕ, false, List, subst}
use Rattle.dutch_arrangements.specs.declared.bracket.Shape.{Shape}
use Rattle.dutch_arrangements.specs.Prelude.{Arrangement, Begins, Beginning, IsIn}
use Rattle.dutch_player.specs.Prelude.{Facts}
use Rattle.dutch_bracket.specs.declared.shaped.ShapedBracket.{ShapedBracket}
use Rattle.dutch_bracket.specs.Prelude.{HasNoBetter, NextValue, OfEachWithBeginning, Quality, Reached, candidates_of, is_better, quality_here, quality_of}
use Rattle.dutch_floors.specs.Behind.{Basis, IsBasis, IsBasisFor, NoneBeats, NoneHasBetterNext}

from_basis : (facts : Facts) (reached : Reached) (lower : List ℕ) (shape : Shape) (basis : Basis) → IsBasis facts reached lower shape basis
    → (P : Facts → Reached → List ℕ → Shape → Type 0) → P basis.facts basis.reached basis.lower basis.shape → P facts reached lower shape
from_basis facts reached lower shape basis is P holds =
    subst (λ fs. P fs reached lower shape) is.facts_are
    (subst (λ st. P basis.facts st lower shape) is.stand_is
    (subst (λ low. P basis.facts basis.reached low shape) is.lower_are (subst (P basis.facts basis.reached basis.lower) is.shape_is holds)))

module _ (shaped : ShapedBracket) (basis : Basis) (is : IsBasisFor shaped basis) (b : Beginning) where
  of_each : (Says : Facts → Reached → List ℕ → Arrangement → Type 0)
      → ((a : Arrangement) → IsIn a (candidates_of basis.facts basis.reached basis.shape) → Begins b a → Says basis.facts basis.reached basis.lower a)
      → OfEachWithBeginning shaped b (Says shaped.context.now.facts shaped.context.now.reached shaped.context.now.lower)
  of_each Says =
      let context = shaped.context.now in
      from_basis context.facts context.reached context.lower shaped.shape basis is
      (λ fs st low sh. (a : Arrangement) → IsIn a (candidates_of fs st sh) → Begins b a → Says fs st low a)

  pub none_beats : (floor : Quality) → NoneBeats basis b floor → OfEachWithBeginning shaped b (λ a. is_better (quality_here shaped.context.now a) floor ≡ false)
  none_beats floor = of_each (λ fs st low a. is_better (quality_of fs st low a) floor ≡ false)

  pub none_has_better_next : (other : NextValue) → NoneHasBetterNext basis b other → OfEachWithBeginning shaped b (λ a. HasNoBetter (quality_here shaped.context.now a) other)
  none_has_better_next other = of_each (λ fs st low a. HasNoBetter (quality_of fs st low a) other)
