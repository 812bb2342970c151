-- Where all S1 of a shape give one PSD, that is the value of the bracket, and no arrangement of it is looked for (C.04.3 C.7).
use Rattle.std.proofs.Common.{◌≡◌, ◌+◌, ℕ, true, List, [], Some, refl, sym, ap, ◌∙◌}
use Rattle.dutch_arrangements.specs.declared.bracket.Shape.{Shape}
use Rattle.dutch_arrangements.specs.Prelude.{Arrangement, arrangements, is_legal, numbers_from, IsIn}
use Rattle.dutch_player.specs.Prelude.{Facts}
use Rattle.dutch_choice.specs.AlwaysShapes.{IsAlwaysShape}
use Rattle.dutch_bracket.specs.Prelude.{is_uniform, psd_with, IsFlat, legal_in, psd_in, quality, value_of, value_of_shape, NextValue, quality_with, IsOf, Reached, frame_of, number_may_be_left, numbers_meet, quality_of, score_at, seat_of, greatest_shape, shapes}
use Rattle.dutch_choice.proofs.AlwaysShapes.{always_greatest}
use Rattle.dutch_candidates.proofs.C06Psd.{psd_of_all, uniform_of}
use Rattle.dutch_bracket.proofs.LeastPsd.{in_filter}
use Rattle.dutch_bracket.proofs.LowestLists.{lowest_is_one}
use Rattle.dutch_bracket.proofs.ShapeSearch.{first_has}

module _ (facts : Facts) (reached : Reached) (shape : Shape) (of' : IsOf facts reached) (flat : IsFlat facts reached)
    (uniform : is_uniform facts reached shape ≡ true) where
  abbrev one_psd : List ℕ
  one_psd = psd_with facts reached shape (score_at facts (seat_of reached.seats (reached.mdps + 1))) (numbers_from 1 shape.mdps)

  psd_of_each : (a : Arrangement) → IsIn a (arrangements (frame_of facts reached) shape) → psd_in facts reached a ≡ one_psd
  unfolding quality_of quality quality_with
  psd_of_each a member = psd_of_all facts reached [] shape a of' flat (uniform_of facts reached shape of' uniform) member

  pub value_of_uniform : IsAlwaysShape facts reached shape
      → (let value : NextValue = record { pairs = shape.pairs; psd = one_psd } in value ≡ value_of facts reached)
  unfolding value_of
  value_of_uniform always =
      let e : greatest_shape (legal_in facts reached) (frame_of facts reached) ≡ Some shape =
      always_greatest facts reached shape always (frame_of facts reached) refl in
      let one = lowest_is_one (psd_in facts reached) (legal_in facts reached shape)
      (first_has (legal_in facts reached) (λ t. true) (shapes (frame_of facts reached)) shape e) in
      let member = in_filter (is_legal (numbers_meet facts reached) (number_may_be_left facts reached) (frame_of facts reached)) one.lists
      (arrangements (frame_of facts reached) shape) one.listed in
      ap (λ (list : List ℕ). let value : NextValue = record { pairs = shape.pairs; psd = list } in value) (sym (one.is ∙ psd_of_each one.lists member))
      ∙ ap (value_of_shape facts reached) (sym e)
