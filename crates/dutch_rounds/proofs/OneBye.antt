-- A bracket that ends a round leaves at most one player over.
use Rattle.std.proofs.Common.{◌≡◌, ℕ, ◌≤◌, Bool, true, not, ◌||◌, List, [], ◌∷◌, length, Some, sym, subst, arith}
use Rattle.std.proofs.lemmas.Bool.{and_parts, true≢false}
use Rattle.std.proofs.lemmas.List.{length-map}
use Rattle.dutch_arrangements.specs.declared.bracket.Shape.{Shape}
use Rattle.dutch_arrangements.specs.Prelude.{all_meet, IsIn, Frame, Arrangement, arrangements, down, is_legal, leaves_one}
use Rattle.dutch_player.specs.Prelude.{Facts}
use Rattle.dutch_bracket.specs.Prelude.{Reached, ends_round, frame_of, numbers_meet, number_may_be_left, Choice, candidates_of, choice, downfloaters, eligible, can_be_chosen, seat_of}
use Rattle.dutch_bracket.proofs.LeastPsd.{in_filter}
use Rattle.dutch_bracket.proofs.LegalPairs.{in_passes}
use Rattle.dutch_choice.proofs.BestLemmas.{chosen_is}

leaves_few : (may_be_left : ℕ → Bool) (xs : List ℕ) → leaves_one may_be_left xs ≡ true → length xs ≤ 1
leaves_few may_be_left [] e = omega arith
leaves_few may_be_left (x ∷ []) e = omega arith
leaves_few may_be_left (x ∷ y ∷ rest) e = absurd (true≢false (sym e))

module _ (facts : Facts) (reached : Reached) where
  legal : Arrangement → Bool
  legal a = is_legal (numbers_meet facts reached) (number_may_be_left facts reached) (frame_of facts reached) a

  legal_of : (lower : List ℕ) (shape : Shape) (a : Arrangement) → IsIn a (eligible facts reached lower shape) → legal a ≡ true
  unfolding legal candidates_of eligible
  legal_of lower shape a m =
      in_passes (λ c. legal c) a (arrangements (frame_of facts reached) shape)
      (in_filter (can_be_chosen facts reached lower) a (candidates_of facts reached shape) m)

  -- who is left over by what is chosen, where at most one may be
  pub left_few : (lower : List ℕ) (made : Choice) → ends_round reached.kind ≡ true → choice facts reached lower ≡ Some made → length (downfloaters facts reached made.lists) ≤ 1
  unfolding legal
  left_few lower made ends e =
      let frame : Frame = frame_of facts reached in
      let a : Arrangement = made.lists in
      let first = and_parts (all_meet (numbers_meet facts reached) a.s1 a.s2) _ (legal_of lower made.shape a (chosen_is facts reached lower made e).1) in
      let second = and_parts (all_meet (numbers_meet facts reached) a.s1r a.s2r) _ first.1 in
      let one : leaves_one (number_may_be_left facts reached) (down frame a) ≡ true =
      subst (λ b. (not b || leaves_one (number_may_be_left facts reached) (down frame a)) ≡ true) ends second.1 in
      omega (arith, leaves_few (number_may_be_left facts reached) (down frame a) one, length-map (down frame a) (seat_of reached.seats))
