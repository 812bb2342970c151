-- How the walk over the brackets ends, told from behind: a bracket more in front of a round that ends so.
use Rattle.std.proofs.Common.{◌≡◌, ℕ, ◌+◌, ◌≤◌, List, [], ◌∷◌, length, map, Some, sym, ap, ◌∙◌, subst, arith}
use Rattle.std.proofs.lemmas.List.{length-map}
use Rattle.dutch_arrangements.specs.declared.bracket.Shape.{Shape}
use Rattle.dutch_arrangements.specs.Prelude.{Arrangement, arrangements, down, is_legal, Candidate, IsIn}
use Rattle.dutch_player.specs.Prelude.{Facts}
use Rattle.dutch_bracket.specs.Prelude.{seat_of, AreSeats, IsCandidate, Reached, IsOf, frame_of, numbers_meet, number_may_be_left, IsOfBracket, can_be_chosen, downfloaters, candidates_of, eligible, choice}
use Rattle.dutch_rounds.specs.Prelude.{AreAbove}
use Rattle.dutch_bracket.proofs.LeastPsd.{in_filter}
use Rattle.dutch_choice.proofs.BestLemmas.{chosen_is}
use Rattle.dutch_bracket.proofs.FlatBrackets.{candidate_of}
use Rattle.dutch_bracket.proofs.CandidateSeats.{all_within}
use Rattle.dutch_bracket.proofs.DownLemmas.{down_numbers, down_few}
use Rattle.dutch_sequence.specs.declared.numbers.TheConstants.{LIMIT}

-- ---- what is chosen is an arrangement

module _ (facts : Facts) where
  in_eligible : (reached : Reached) (lower : List ℕ) (shape : Shape) (a : Arrangement) → IsIn a (eligible facts reached lower shape) → IsIn a (arrangements (frame_of facts reached) shape)
  unfolding candidates_of eligible
  in_eligible reached lower shape a m =
      in_filter (is_legal (numbers_meet facts reached) (number_may_be_left facts reached) (frame_of facts reached)) a (arrangements (frame_of facts reached) shape)
      (in_filter (can_be_chosen facts reached lower) a (candidates_of facts reached shape) m)

  -- what is chosen in a bracket is an arrangement of it
  pub of_bracket : (reached : Reached) (lower : List ℕ) (shape : Shape) (candidate : Candidate) → choice facts reached lower ≡ Some (record { shape = shape; lists = candidate.lists })
      → candidate.down ≡ down (frame_of facts reached) candidate.lists → IsOfBracket facts reached candidate
  of_bracket reached lower shape candidate e left =
      record { lists = (shape, in_eligible reached lower shape candidate.lists (chosen_is facts reached lower (record { shape = shape; lists = candidate.lists }) e).1); down = left }

  -- and so is each candidate
  pub candidate_of_bracket : (reached : Reached) (shape : Shape) (candidate : Candidate) → IsIn candidate.lists (candidates_of facts reached shape) → candidate.down ≡ down (frame_of facts reached) candidate.lists
      → IsOfBracket facts reached candidate
  unfolding candidates_of
  candidate_of_bracket reached shape candidate m left = record {
    lists = (shape, in_filter (is_legal (numbers_meet facts reached) (number_may_be_left facts reached) (frame_of facts reached)) candidate.lists (arrangements (frame_of facts reached) shape) m);
    down = left;
  }

  pub candidate_is : (reached : Reached) (candidate : Candidate) → IsOf facts reached → IsOfBracket facts reached candidate → IsCandidate candidate
  candidate_is reached candidate of' of_bracket' = candidate_of facts reached of_bracket'.lists.0 candidate of' of_bracket'.lists.1 of_bracket'.down

pub above_none : (facts : Facts) (tops : List ℕ) → AreAbove facts tops []
above_none facts [] = tt
above_none facts (a ∷ tops) = (tt, above_none facts tops)

module _ (facts : Facts) where
  pub down_seats : (reached : Reached) (lists : Arrangement) (left : List ℕ) → IsOf facts reached → left ≡ downfloaters facts reached lists
      → AreSeats facts left
  down_seats reached lists left of' e =
      subst (AreSeats facts) (sym e)
      (all_within facts reached.seats (down (frame_of facts reached) lists) of'.inside (down_numbers facts reached lists))

-- ---- what the calls of a bracket leave over

module _ (facts : Facts) (reached : Reached) (lists : Arrangement) where
  pub few_left : (left : List ℕ) → left ≡ down (frame_of facts reached) lists → length left ≤ length reached.seats
  few_left left e = let few = down_few facts reached lists in omega (arith, few, ap length e)

  pub left_is : (seats numbers left : List ℕ) → seats ≡ reached.seats → numbers ≡ down (frame_of facts reached) lists → left ≡ map (seat_of seats) numbers
      → left ≡ downfloaters facts reached lists
  left_is seats numbers left s e h =
      h ∙ (ap (λ (xs : List ℕ). map (seat_of xs) numbers) s ∙ ap (map (seat_of reached.seats)) e)

  pub left_few : (lower left : List ℕ) → left ≡ downfloaters facts reached lists → length reached.seats + length lower ≤ LIMIT → length left + length lower ≤ LIMIT
  left_few lower left e few =
      let own : length (downfloaters facts reached lists) ≡ length (down (frame_of facts reached) lists) = length-map (down (frame_of facts reached) lists) (seat_of reached.seats) in
      let short = down_few facts reached lists in
      omega (arith, few, own, short, ap length e)
