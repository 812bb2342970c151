-- A bracket in which all candidates can be chosen has the greatest shape of a legal arrangement, whatever seats are below it (C.04.3 C.5).
use Rattle.std.proofs.Common.{◌≡◌, if◌then◌else◌, false, List, [], ◌∷◌, Option, Some, refl, sym, ap, ◌∙◌, subst}
use Rattle.dutch_arrangements.specs.declared.bracket.Shape.{Shape}
use Rattle.dutch_arrangements.specs.Prelude.{Arrangement, Fits, Frame}
use Rattle.dutch_player.specs.Prelude.{Facts}
use Rattle.dutch_choice.specs.AlwaysShapes.{IsAlwaysShape}
use Rattle.dutch_bracket.specs.Prelude.{legal_by, legal_in, Reached, frame_of, candidates_of, eligible, shape_of, first_with, greatest_shape, has_member, is_penultimate, shapes}
use Rattle.dutch_completion.proofs.EligibleLemmas.{eligible_all}
use Rattle.dutch_bracket.proofs.ShapeLaws.{has_room}

-- what counts the same arrangements of each shape finds the same shape
first_same : (some other : Shape → List Arrangement) → ((shape : Shape) → some shape ≡ other shape) → (all : List Shape) → first_with some all ≡ first_with other all
first_same some other same [] = refl
first_same some other same (shape ∷ rest) =
    ap (λ (counting : List Arrangement). if has_member counting then Some shape else first_with some rest) (same shape)
    ∙ ap (λ (found : Option Shape). if has_member (other shape) then Some shape else found) (first_same some other same rest)

-- the shape of an ordinary bracket above one list of seats is that above any
pub always_here : (facts : Facts) (reached : Reached) (shape : Shape) → is_penultimate reached.kind ≡ false → shape_of facts reached [] ≡ Some shape
    → IsAlwaysShape facts reached shape
unfolding shape_of
always_here facts reached shape once here = record {
  once = once;
  always = λ lower.
      first_same (eligible facts reached lower) (eligible facts reached [])
      (λ t. eligible_all facts reached lower t once ∙ sym (eligible_all facts reached [] t once)) (shapes (frame_of facts reached))
      ∙ here;
}

module _ (facts : Facts) (reached : Reached) (shape : Shape) (always : IsAlwaysShape facts reached shape) where
  all_legal : (t : Shape) → eligible facts reached [] t ≡ legal_in facts reached t
  unfolding candidates_of
  all_legal t = eligible_all facts reached [] t always.once

  greatest_legal : greatest_shape (legal_in facts reached) (frame_of facts reached) ≡ Some shape
  unfolding shape_of
  greatest_legal =
      sym (first_same (eligible facts reached []) (legal_in facts reached) all_legal (shapes (frame_of facts reached))) ∙ always.always []

  -- by the frame of the bracket
  pub always_greatest : (frame : Frame) → frame ≡ frame_of facts reached
      → greatest_shape (legal_by facts reached frame) frame ≡ Some shape
  always_greatest frame is =
      subst (λ (f : Frame). greatest_shape (legal_by facts reached f) f ≡ Some shape) (sym is) greatest_legal

  -- and has room for it
  pub always_fits : (frame : Frame) → frame ≡ frame_of facts reached → Fits frame shape
  always_fits frame is = subst (λ (f : Frame). Fits f shape) (sym is) (has_room facts reached [] shape (always.always []))
