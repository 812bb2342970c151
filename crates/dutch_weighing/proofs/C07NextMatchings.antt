-- What the next bracket can be at best below a candidate of an ordinary bracket is the value of pairs by number (C.04.3 C.7): those of an arrangement
-- of the next bracket with the least PSD, by the numbers of the bracket and of the next lower scoregroup behind it.
use Rattle.std.proofs.Common.{◌≡◌, ℕ, zero, suc, ◌+◌, ◌-◌, ◌*◌, ◌<◌, ◌≤◌, true, not, ◌&&◌, nat_le, nat_lt, List, [], ◌∷◌, ◌++◌, All, map, length, get_or, sum_by, Option, Some, None, inl, inr, refl, sym, ap, subst, ◌∙◌, arith, length-append}
use Rattle.std.specs.Prelude.{◌==◌, slice_index}
use Rattle.std.specs.List.{AllByRecursion, concat, zip}
use Rattle.std.proofs.lemmas.Bool.{and_from, and_parts, cases_lt, cases_order, eq-eqb, ne_eqb, not_from_false, not-true, true≢false}
use Rattle.std.proofs.lemmas.Bool.Decides.{nat_tests}
use Rattle.std.proofs.lemmas.List.{get_or-append-add, get_or-append_right, get_or-map, get_or_append_left, length-map, map-append}
use Rattle.std.proofs.lemmas.List.Sums.{sum_by-append, sum_by-cons}
use Rattle.std.proofs.lemmas.Simd.{map-map}
use Rattle.dual.specs.Prelude.{MakeUp, in_both}
use Rattle.dual.proofs.Sums.{sum_map, sum_of_ones}
use Rattle.dutch_arrangements.specs.declared.bracket.Shape.{Shape}
use Rattle.dutch_arrangements.specs.Prelude.{Arrangement, Frame, arrangements, down, is_legal, remainder_pairs, all_meet, numbers_from, NoneTwice, IsIn}
use Rattle.dutch_sequence.proofs.Lists.{map-numbers_from}
use Rattle.dutch_sequence.proofs.Members.{length-numbers, numbers-append}
use Rattle.dutch_arrangements.proofs.NoneTwice.{twice-front}
use Rattle.dutch_sequence.proofs.Orders.{Rises, Rises-from, all_members, member_has}
use Rattle.dutch_sequence.proofs.Turns.{at_index}
use Rattle.dutch_player.specs.Prelude.{Facts, may_meet}
use Rattle.dutch_bracket.specs.declared.reached.BracketKind.{BracketKind}
use Rattle.dutch_bracket.specs.declared.reached.BracketKind.TheVariants.{Ordinary}
use Rattle.dutch_bracket.specs.Prelude.{AreLeft, IsFlat, IsNext, legal_in, next_bracket, psd_in, quality, value_in, value_of, value_of_shape, GoesBelow, IsSmall, JoinsBelow, MayPairBelow, count_below, group_below, players_below, score_below, seat_below, value_below, NextValue, highest_first, psd, quality_with, next_in, IsAbove, IsOf, Reached, frame_of, is_number, number_may_be_left, numbers_meet, candidates_of, downfloaters, first_group, quality_of, scoregroups, all_pairs, difference, difference_down, lowest, score_at, seat_of, is_seat, seats_meet, greatest_shape, shapes, number_pairs}
use Rattle.dutch_bracket.proofs.AllLemmas.{all_join}
use Rattle.dutch_bracket.proofs.ArrangementParts.{numbers_above, numbers_rise, numbers_within, parts_of}
use Rattle.dutch_weighing.proofs.C06ToC19Weights.{all_so, pairs_seated}
use Rattle.dutch_bracket.proofs.C07WeakerRules.{always_a_shape, found_fits}
use Rattle.dutch_weighing.proofs.CandidateMatchings.{each, total_sum, zip_meets, zip_sum}
use Rattle.dutch_bracket.proofs.Copies.{Falls, highest_first_falls}
use Rattle.dutch_bracket.proofs.DownLemmas.{down_numbers, players}
use Rattle.dutch_bracket.proofs.Everybody.{arranged}
use Rattle.dutch_bracket.proofs.SeatPlaces.{get_place, place_of}
use Rattle.dutch_bracket.proofs.FlatBrackets.{one_score_of}
use Rattle.dutch_bracket.proofs.GroupLemmas.{concat_scoregroups}
use Rattle.dutch_bracket.proofs.LeastPsd.{in_filter}
use Rattle.dutch_bracket.proofs.LegalPairs.{in_passes, legal_of}
use Rattle.dutch_bracket.proofs.LowestLists.{lowest_is_one}
use Rattle.dutch_bracket.proofs.NextBrackets.{left_by_candidate, next_flat, next_of}
use Rattle.dutch_bracket.proofs.NextGroups.{first_is_next}
use Rattle.dutch_bracket.proofs.Places.{length_placed_all}
use Rattle.dutch_weighing.proofs.ScaleLemmas.{in_order}
use Rattle.dutch_bracket.proofs.ShapeSearch.{first_has, fits_by_test}
use Rattle.dutch_bracket.proofs.Totals.{total}

-- ---- pairs of two lists

seconds_have : (P : ℕ → Type 0) (xs ys : List ℕ) → AllByRecursion P ys → AllByRecursion (λ (pair : ℕ × ℕ). P pair.1) (zip xs ys)
seconds_have P [] ys all = tt
seconds_have P (x ∷ xs) [] all = tt
seconds_have P (x ∷ xs) (y ∷ ys) all = (all.0, seconds_have P xs ys all.1)

zip_length : (xs ys : List ℕ) → length xs ≡ length ys → length (zip xs ys) ≡ length xs
zip_length [] [] same = refl
zip_length [] (y ∷ ys) same = refl
zip_length (x ∷ xs) [] same = absurd (omega arith)
zip_length (x ∷ xs) (y ∷ ys) same = omega (arith, zip_length xs ys (omega arith))

map_so : {A B : Type 0} (f g : A → B) (xs : List A) → AllByRecursion (λ x. f x ≡ g x) xs → map f xs ≡ map g xs
map_so f g [] all = refl
map_so f g (x ∷ xs) all = ap (λ y. y ∷ map f xs) all.0 ∙ ap (λ ys. g x ∷ ys) (map_so f g xs all.1)

all_mapped : {A B : Type 0} (P : B → Type 0) (f : A → B) (xs : List A) → AllByRecursion (λ x. P (f x)) xs → AllByRecursion P (map f xs)
all_mapped P f [] all = tt
all_mapped P f (x ∷ xs) all = (all.0, all_mapped P f xs all.1)

both_hold : {A : Type 0} (P Q : A → Type 0) (xs : List A) → AllByRecursion P xs → AllByRecursion Q xs → AllByRecursion (λ x. P x × Q x) xs
both_hold P Q [] p q = tt
both_hold P Q (x ∷ xs) p q = ((p.0, q.0), both_hold P Q xs p.1 q.1)

-- ---- an arrangement of a bracket by number

module _ (facts : Facts) (reached : Reached) (of' : IsOf facts reached) (shape : Shape) (a : Arrangement)
    (m : IsIn a (arrangements (frame_of facts reached) shape)) where
  counts_are : (length a.s1 ≡ length a.s2) × (length a.s1r ≡ length a.s2r)
  counts_are =
      let parts = parts_of (frame_of facts reached) shape a of'.sound.within m in
      (parts.s1_count ∙ sym parts.s2_count, parts.s1r_count ∙ sym parts.s2r_count)

  -- its pairs and those whom it leaves over are all numbers
  bracket_made_up : MakeUp (numbers_from 1 (length reached.seats)) (number_pairs a) (down (frame_of facts reached) a)
  bracket_made_up w =
      omega (
        arith,
        arranged w (frame_of facts reached) shape a of'.sound.within m,
        ap (λ n. total w (numbers_from 1 n)) (players facts reached),
        total_sum w (numbers_from 1 (length reached.seats)),
        total_sum w (down (frame_of facts reached) a),
        sum_by-append (in_both w) (zip a.s1 a.s2) (zip a.s1r a.s2r),
        zip_sum w a.s1 a.s2 counts_are.0,
        zip_sum w a.s1r a.s2r counts_are.1,
      )

  -- how many pairs it has
  pairs_counted : length (number_pairs a) ≡ shape.mdps + remainder_pairs shape
  pairs_counted =
      let parts = parts_of (frame_of facts reached) shape a of'.sound.within m in
      omega (
        arith,
        length-append (zip a.s1 a.s2) (zip a.s1r a.s2r),
        zip_length a.s1 a.s2 counts_are.0,
        zip_length a.s1r a.s2r counts_are.1,
        parts.s1_count,
        parts.s1r_count,
      )

  -- the second of each pair is a resident
  seconds_reside : AllByRecursion (λ (pair : ℕ × ℕ). (reached.mdps < pair.1) × (pair.1 ≤ length (frame_of facts reached).scores)) (number_pairs a)
  seconds_reside =
      let q : ℕ = reached.mdps in
      let n : ℕ = length (frame_of facts reached).scores in
      let P : ℕ → Type 0 = λ i. (q < i) × (i ≤ n) in
      let parts = parts_of (frame_of facts reached) shape a of'.sound.within m in
      all_join (λ (pair : ℕ × ℕ). P pair.1) (zip a.s1 a.s2) (zip a.s1r a.s2r) (seconds_have P a.s1 a.s2 parts.s2) (seconds_have P a.s1r a.s2r parts.s2r)

-- ---- numbers that rise

rises_at : (xs : List ℕ) (i j : ℕ) → Rises xs → i < j → j < length xs → get_or xs i 0 < get_or xs j 0
rises_at [] i j rises h g = absurd (omega (arith, g))
rises_at (x ∷ xs) i zero rises h g = absurd (omega (arith, h))
rises_at (x ∷ xs) zero (suc j) rises h g = at_index (λ y. x < y) xs j rises.0 (omega (arith, g))
rises_at (x ∷ xs) (suc i) (suc j) rises h g = rises_at xs i j rises.1 (omega (arith, h)) (omega (arith, g))

rises_join : (n : ℕ) (xs ys : List ℕ) → Rises xs → AllByRecursion (λ x. x ≤ n) xs → Rises ys → AllByRecursion (λ y. n < y) ys → Rises (xs ++ ys)
rises_join n [] ys rises low rises' high = rises'
rises_join n (x ∷ xs) ys rises low rises' high = (
  all_join (λ y. x < y) xs ys rises.0 (all_so (λ y. n < y) (λ y. x < y) (λ y h. omega (arith, h, low.0)) ys high),
  rises_join n xs ys rises.1 low.1 rises' high,
)

-- ---- two numbers of a bracket that meet

record MeetAs (facts : Facts) (reached : Reached) (i j : ℕ) : Type 0 where
  first : (0 < i) × (i ≤ length reached.seats)
  second : (0 < j) × (j ≤ length reached.seats)
  differ : i ≡ j → ⊥
  meet : may_meet facts (seat_of reached.seats i) (seat_of reached.seats j) ≡ true

number_within : (reached : Reached) (i : ℕ) → is_number reached i ≡ true → (0 < i) × (i ≤ length reached.seats)
number_within reached i e =
    let both = and_parts (nat_le 1 i) (nat_le i (length reached.seats)) e in
    let low : nat_le 1 i ≡ true = both.0 in
    let high : nat_le i (length reached.seats) ≡ true = both.1 in
    (grind (arith, nat_tests), grind (arith, nat_tests))

meet_as : (facts : Facts) (reached : Reached) (i j : ℕ) → numbers_meet facts reached i j ≡ true → MeetAs facts reached i j
unfolding numbers_meet
meet_as facts reached i j e =
    let both = and_parts (is_number reached i && is_number reached j) _ e in
    let inside = and_parts (is_number reached i) (is_number reached j) both.0 in
    let others = and_parts (not (i == j)) (may_meet facts (seat_of reached.seats i) (seat_of reached.seats j)) both.1 in
    record {
      first = number_within reached i inside.0;
      second = number_within reached j inside.1;
      differ = λ same. true≢false (sym (eq-eqb i j same) ∙ not-true (i == j) others.0);
      meet = others.1;
    }

-- ---- the next bracket below a candidate

module _ (facts : Facts) (reached : Reached) (lower : List ℕ) (shape : Shape) (a : Arrangement) (above : IsAbove facts reached lower)
    (ordinary : reached.kind ≡ Ordinary) (m : IsIn a (candidates_of facts reached shape)) where
  abbrev group : List ℕ
  group = group_below facts lower

  abbrev left : List ℕ
  left = down (frame_of facts reached) a

  abbrev moved_down : List ℕ
  moved_down = downfloaters facts reached a

  abbrev next : Reached
  next = next_bracket moved_down group

  -- the numbers of the next lower scoregroup, and all of the next bracket
  abbrev behind : List ℕ
  behind = numbers_from (1 + length reached.seats) (length group)

  abbrev all_left : List ℕ
  all_left = left ++ behind

  -- the number that a number of the next bracket has in the numbering of both
  abbrev renumber : ℕ → ℕ
  renumber = seat_of all_left

  abbrev renumber_both : ℕ × ℕ → ℕ × ℕ
  renumber_both pair = (renumber pair.0, renumber pair.1)

  abbrev seat : ℕ → ℕ
  seat = seat_below facts reached lower

  a_listed : IsIn a (arrangements (frame_of facts reached) shape)
  a_listed = (legal_of facts reached shape a m).arranged

  group_is_next : IsNext facts reached group
  group_is_next = first_is_next facts reached lower above

  are_left : AreLeft reached left
  are_left = left_by_candidate facts reached (record { lists = a; down = left }) (record { lists = (shape, a_listed); down = refl })

  next_is_of : IsOf facts next
  next_is_of = next_of facts reached left group above.bracket are_left group_is_next

  next_is_flat : IsFlat facts next
  next_is_flat = next_flat facts reached left group above.bracket are_left group_is_next ordinary

  moved_count : length moved_down ≡ length left
  moved_count = length-map left (seat_of reached.seats)

  all_count : length all_left ≡ length left + length group
  all_count = length-append left behind ∙ ap (λ k. length left + k) (length-numbers (1 + length reached.seats) (length group))

  next_count : length next.seats ≡ length left + length group
  next_count = length-append moved_down group ∙ ap (λ k. k + length group) moved_count

  -- ---- seats agree

  left_mapped : map seat left ≡ moved_down
  left_mapped =
      map_so seat (seat_of reached.seats) left
      (all_so (λ v. (0 < v) × (v ≤ length reached.seats)) (λ v. seat v ≡ seat_of reached.seats v)
      (λ v h. get_or_append_left reached.seats group 0 (v - 1) (omega (arith, h.0, h.1))) left (down_numbers facts reached a))

  behind_mapped : map seat behind ≡ group
  behind_mapped =
      map-numbers_from seat group (1 + length reached.seats)
      (λ j lt.
      ap (λ k. get_or (reached.seats ++ group) k 0) (let e : ((1 + length reached.seats) + j) - 1 ≡ length reached.seats + j = omega arith in e)
      ∙ get_or-append-add reached.seats group j 0)

  all_mapped_to : map seat all_left ≡ next.seats
  all_mapped_to =
      map-append seat left behind ∙ ap (λ xs. xs ++ map seat behind) left_mapped ∙ ap (λ xs. moved_down ++ xs) behind_mapped

  seat_again : (i : ℕ) → (0 < i) × (i ≤ length next.seats) → seat (renumber i) ≡ seat_of next.seats i
  seat_again i h =
      sym (get_or-map seat all_left (i - 1) 0 0 (omega (arith, h.0, h.1, next_count, all_count))) ∙ ap (λ xs. get_or xs (i - 1) 0) all_mapped_to

  numbers_again : map renumber (numbers_from 1 (length next.seats)) ≡ all_left
  numbers_again =
      ap (λ k. map renumber (numbers_from 1 k)) (next_count ∙ sym all_count)
      ∙ map-numbers_from renumber all_left 1 (λ j lt. ap (λ k. get_or all_left k 0) (let e : (1 + j) - 1 ≡ j = omega arith in e))

  -- ---- whose numbers they are

  abbrev Below : ℕ → Type 0
  Below v = GoesBelow facts reached a v × (v ≤ count_below facts reached lower)

  all_below : AllByRecursion Below all_left
  all_below =
      all_join Below left behind
      (all_members Below left
      (λ v i.
      let h = member_has (λ x. (0 < x) × (x ≤ length reached.seats)) left (down_numbers facts reached a) v i in
      let le : v ≤ length reached.seats = h.1 in
      (inl i, omega (arith, le))))
      (all_so (λ v. (length reached.seats < v) × (v ≤ length reached.seats + length group)) Below (λ v h. (inr h.0, h.1)) behind
      (numbers_within (length reached.seats) (1 + length reached.seats) (length group) (length reached.seats + length group) (omega arith) (omega arith)))

  below_again : (i : ℕ) → (0 < i) × (i ≤ length next.seats) → Below (renumber i)
  below_again i h = at_index Below all_left (i - 1) all_below (omega (arith, h.0, h.1, next_count, all_count))

  resident_again : (i : ℕ) → next.mdps < i → i ≤ length next.seats → length reached.seats < renumber i
  resident_again i low high =
      let place : ℕ = (i - 1) - length left in
      let e : renumber i ≡ get_or behind place 0 =
      get_or-append_right left behind (length left) (i - 1) 0 refl (omega (arith, low, moved_count)) in
      let h : length reached.seats < get_or behind place 0 =
      at_index (λ y. length reached.seats < y) behind place (numbers_above (length reached.seats) (1 + length reached.seats) (length group) (omega arith))
      (omega (arith, low, high, moved_count, next_count, length-numbers (1 + length reached.seats) (length group))) in
      omega (arith, e, h)

  all_rise : Rises all_left
  all_rise =
      rises_join (length reached.seats) left behind (Rises-from left are_left.ascend)
      (all_so (λ x. (0 < x) × (x ≤ length reached.seats)) (λ x. x ≤ length reached.seats) (λ x h. h.1) left (down_numbers facts reached a))
      (numbers_rise (1 + length reached.seats) (length group))
      (numbers_above (length reached.seats) (1 + length reached.seats) (length group) (omega arith))

  rises_again : (i j : ℕ) → 0 < i → i < j → j ≤ length next.seats → renumber i < renumber j
  rises_again i j low less high =
      rises_at all_left (i - 1) (j - 1) all_rise (omega (arith, low, less)) (omega (arith, low, less, high, next_count, all_count))

  differ_again : (i j : ℕ) → MeetAs facts next i j → renumber i ≡ renumber j → ⊥
  differ_again i j met e = elim (cases_order i j) [
    | inl same ↦ met.differ same
    | inr (inl less) ↦ (let h = rises_again i j met.first.0 less met.second.1 in omega (arith, e, h))
    | inr (inr more) ↦ (let h = rises_again j i met.second.0 more met.first.1 in omega (arith, e, h))
  ]

  lowest_is : lowest facts next.seats ≡ score_below facts lower
  lowest_is =
      (one_score_of facts next next_is_of next_is_flat).least
      ∙ ap (score_at facts)
      (get_or-append_right moved_down group (length moved_down) ((length moved_down + 1) - 1) 0 refl (omega arith)
      ∙ ap (λ k. get_or group k 0) (let e : ((length moved_down + 1) - 1) - length moved_down ≡ 0 = omega arith in e))

  -- ---- an arrangement of the next bracket, by these numbers

  module _ (next_shape : Shape) (b : Arrangement) (listed : IsIn b (legal_in facts next next_shape)) where
    abbrev pairs : List (ℕ × ℕ)
    pairs = map renumber_both (number_pairs b)

    abbrev alone : List ℕ
    alone = map renumber (down (frame_of facts next) b)

    b_listed : IsIn b (arrangements (frame_of facts next) next_shape)
    b_listed =
        in_filter (is_legal (numbers_meet facts next) (number_may_be_left facts next) (frame_of facts next)) b
        (arrangements (frame_of facts next) next_shape) listed

    made_up : MakeUp (numbers_from 1 (count_below facts reached lower)) (number_pairs a ++ pairs) alone
    made_up w =
        omega (
          arith,
          sum_by-append (in_both w) (number_pairs a) pairs,
          sum_map (in_both w) renumber_both (number_pairs b),
          sum_map w renumber (down (frame_of facts next) b),
          bracket_made_up facts next next_is_of next_shape b b_listed (λ v. w (renumber v)),
          sum_map w renumber (numbers_from 1 (length next.seats)),
          ap (sum_by w) numbers_again,
          sum_by-append w left behind,
          bracket_made_up facts reached above.bracket shape a a_listed w,
          ap (sum_by w) (numbers-append 1 (length reached.seats) (length group)),
          sum_by-append w (numbers_from 1 (length reached.seats)) behind,
        )

    b_meets : AllByRecursion (λ (pair : ℕ × ℕ). numbers_meet facts next pair.0 pair.1 ≡ true) (number_pairs b)
    b_meets =
        let passes = in_passes (is_legal (numbers_meet facts next) (number_may_be_left facts next) (frame_of facts next)) b
        (arrangements (frame_of facts next) next_shape) listed in
        let first = and_parts (all_meet (numbers_meet facts next) b.s1 b.s2) _ passes in
        let second = and_parts (all_meet (numbers_meet facts next) b.s1r b.s2r) _ first.1 in
        all_join (λ (pair : ℕ × ℕ). numbers_meet facts next pair.0 pair.1 ≡ true) (zip b.s1 b.s2) (zip b.s1r b.s2r)
        (zip_meets (numbers_meet facts next) b.s1 b.s2 first.0) (zip_meets (numbers_meet facts next) b.s1r b.s2r second.0)

    abbrev Met : ℕ × ℕ → Type 0
    Met pair = MeetAs facts next pair.0 pair.1

    b_met : AllByRecursion Met (number_pairs b)
    b_met =
        all_so (λ (pair : ℕ × ℕ). numbers_meet facts next pair.0 pair.1 ≡ true) Met (λ pair e. meet_as facts next pair.0 pair.1 e) (number_pairs b)
        b_meets

    abbrev Seconds : ℕ × ℕ → Type 0
    Seconds pair = (next.mdps < pair.1) × (pair.1 ≤ length (frame_of facts next).scores)

    may_pair_one : (pair : ℕ × ℕ) → Met pair × Seconds pair → MayPairBelow facts reached lower a (renumber_both pair)
    may_pair_one pair h =
        let met = h.0 in
        record {
          first = (below_again pair.0 met.first).0;
          second = resident_again pair.1 h.1.0 met.second.1;
          first_is = (below_again pair.0 met.first).1;
          second_is = (below_again pair.1 met.second).1;
          apart = differ_again pair.0 pair.1 met;
          meet =
              ap (λ s. may_meet facts s (seat (renumber pair.1))) (seat_again pair.0 met.first)
              ∙ ap (may_meet facts (seat_of next.seats pair.0)) (seat_again pair.1 met.second)
              ∙ met.meet;
        }

    may_pair_all : All (MayPairBelow facts reached lower a) pairs
    may_pair_all =
        each (MayPairBelow facts reached lower a) pairs
        (all_mapped (MayPairBelow facts reached lower a) renumber_both (number_pairs b)
        (all_so (λ pair. Met pair × Seconds pair) (λ pair. MayPairBelow facts reached lower a (renumber_both pair)) may_pair_one (number_pairs b)
        (both_hold Met Seconds (number_pairs b) b_met (seconds_reside facts next next_is_of next_shape b b_listed))))

    all_stay : All Below alone
    all_stay =
        each Below alone
        (all_mapped Below renumber (down (frame_of facts next) b)
        (all_so (λ v. (0 < v) × (v ≤ length next.seats)) (λ v. Below (renumber v)) below_again (down (frame_of facts next) b)
        (down_numbers facts next b)))

    -- ---- and its PSD

    abbrev by_next : ℕ × ℕ → ℕ
    by_next pair = difference facts (seat_of next.seats pair.0, seat_of next.seats pair.1)

    abbrev by_below : ℕ × ℕ → ℕ
    by_below pair = difference facts (seat pair.0, seat pair.1)

    differences_are : map (difference facts) (all_pairs next.seats b) ≡ map by_below pairs
    differences_are =
        let seats : ℕ × ℕ → ℕ × ℕ = λ pair. (seat_of next.seats pair.0, seat_of next.seats pair.1) in
        ap (map (difference facts)) (pairs_seated next.seats b)
        ∙ map-map (difference facts) seats (number_pairs b)
        ∙ map_so by_next (λ pair. by_below (renumber_both pair)) (number_pairs b)
        (all_so Met (λ pair. by_next pair ≡ by_below (renumber_both pair))
        (λ pair met.
        ap (λ s. difference facts (s, seat_of next.seats pair.1)) (sym (seat_again pair.0 met.first))
        ∙ ap (λ s. difference facts (seat (renumber pair.0), s)) (sym (seat_again pair.1 met.second))) (number_pairs b) b_met)
        ∙ sym (map-map by_below renumber_both (number_pairs b))

    abbrev floats_next : ℕ → ℕ
    floats_next v = difference_down facts (lowest facts next.seats) (seat_of next.seats v)

    abbrev floats_below : ℕ → ℕ
    floats_below v = difference_down facts (score_below facts lower) (seat v)

    floats_are : map (difference_down facts (lowest facts next.seats)) (map (seat_of next.seats) (down (frame_of facts next) b)) ≡ map floats_below alone
    floats_are =
        let over : List ℕ = down (frame_of facts next) b in
        map-map (difference_down facts (lowest facts next.seats)) (seat_of next.seats) over
        ∙ map_so floats_next (λ v. floats_below (renumber v)) over
        (all_so (λ v. (0 < v) × (v ≤ length next.seats)) (λ v. floats_next v ≡ floats_below (renumber v))
        (λ v h.
        ap (λ least. difference_down facts least (seat_of next.seats v)) lowest_is
        ∙ ap (difference_down facts (score_below facts lower)) (sym (seat_again v h))) over (down_numbers facts next b))
        ∙ sym (map-map floats_below renumber over)

    psd_is : psd_in facts next b ≡ (value_below facts reached lower pairs alone).psd
    unfolding psd
    psd_is =
        ap (λ xs. highest_first (xs ++ map (difference_down facts (lowest facts next.seats)) (map (seat_of next.seats) (down (frame_of facts next) b))))
        differences_are
        ∙ ap (λ xs. highest_first (map by_below pairs ++ xs)) floats_are

    count_is : next_shape.mdps ≤ next_shape.pairs → length pairs ≡ next_shape.pairs
    count_is within =
        omega (arith, length-map (number_pairs b) renumber_both, pairs_counted facts next next_is_of next_shape b b_listed, within)

    value_is : next_shape.mdps ≤ next_shape.pairs
        → (let value : NextValue = record { pairs = next_shape.pairs; psd = psd_in facts next b } in value ≡ value_below facts reached lower pairs alone)
    value_is within =
        ap (λ (count : ℕ). let value : NextValue = record { pairs = count; psd = psd_in facts next b } in value) (sym (count_is within))
        ∙ ap (λ (list : List ℕ). let value : NextValue = record { pairs = length pairs; psd = list } in value) psd_is

  -- ---- what the next bracket can be at best

  next_value : next_in (quality_of facts reached lower a) ≡ value_in reached.kind facts moved_down group
  unfolding quality_of quality quality_with
  next_value = refl

  value_of_next : next_in (quality_of facts reached lower a) ≡ value_of facts next
  value_of_next = next_value ∙ ap (λ (kind : BracketKind). value_in kind facts moved_down group) ordinary

  by_greatest : (found : Option Shape) → greatest_shape (legal_in facts next) (frame_of facts next) ≡ found → JoinsBelow facts reached lower a
  unfolding value_of
  by_greatest None e =
      absurd (always_a_shape (numbers_meet facts next) (number_may_be_left facts next) (frame_of facts next) refl e)
  by_greatest (Some s) e =
      let frame : Frame = frame_of facts next in
      let one = lowest_is_one (psd_in facts next) (legal_in facts next s) (first_has (legal_in facts next) (λ t. true) (shapes frame) s e) in
      let within : s.mdps ≤ s.pairs = (fits_by_test frame s (found_fits (legal_in facts next) frame s e)).within_pairs in
      record {
        pairs = pairs s one.lists one.listed;
        alone = alone s one.lists one.listed;
        whole = made_up s one.lists one.listed;
        may_pair = may_pair_all s one.lists one.listed;
        stay = all_stay s one.lists one.listed;
        value = value_of_next
            ∙ ap (value_of_shape facts next) e
            ∙ ap (λ (list : List ℕ). let value : NextValue = record { pairs = s.pairs; psd = list } in value) one.is
            ∙ value_is s one.lists one.listed within;
      }

  pub joins_below : JoinsBelow facts reached lower a
  joins_below = by_greatest (greatest_shape (legal_in facts next) (frame_of facts next)) refl

-- ---- sums and tests

twos : (pairs : List (ℕ × ℕ)) → sum_by (in_both (λ v. 1)) pairs ≡ 2 * length pairs
twos [] = refl
twos (pair ∷ pairs) = omega (arith, sum_by-cons (in_both (λ v. 1)) pair pairs, twos pairs)

made_up_count : (numbers : List ℕ) (pairs : List (ℕ × ℕ)) (others : List ℕ) → MakeUp numbers pairs others
    → 2 * length pairs + length others ≡ length numbers
made_up_count numbers pairs others whole = omega (arith, whole (λ v. 1), twos pairs, sum_of_ones others, sum_of_ones numbers)

ltb_from : (a b : ℕ) → a < b → nat_lt a b ≡ true
ltb_from a b h = grind (arith, nat_tests, h)

front_twice : (facts : Facts) (groups : List (List ℕ)) → NoneTwice (concat groups) → NoneTwice (first_group facts groups)
front_twice facts [] twice = tt
front_twice facts (group ∷ groups) twice = twice-front group (concat groups) twice

-- ---- how much it can be

module _ (facts : Facts) (reached : Reached) (lower : List ℕ) (shape : Shape) (a : Arrangement) (above : IsAbove facts reached lower)
    (ordinary : reached.kind ≡ Ordinary) (m : IsIn a (candidates_of facts reached shape)) where
  abbrev joined : JoinsBelow facts reached lower a
  joined = joins_below facts reached lower shape a above ordinary m

  abbrev count : ℕ
  count = players_below facts reached lower shape

  -- they are in its pairs or in none
  few_below : 2 * length joined.pairs + length joined.alone ≤ count
  few_below =
      let listed : IsIn a (arrangements (frame_of facts reached) shape) = (legal_of facts reached shape a m).arranged in
      let left : List ℕ = down (frame_of facts reached) a in
      let n : ℕ = length reached.seats in
      let g : ℕ = length (group_below facts lower) in
      let here : 2 * length (number_pairs a) + length left ≡ n =
      made_up_count (numbers_from 1 n) (number_pairs a) left (bracket_made_up facts reached above.bracket shape a listed) ∙ length-numbers 1 n in
      let both : 2 * length (number_pairs a ++ joined.pairs) + length joined.alone ≡ n + g =
      made_up_count (numbers_from 1 (n + g)) (number_pairs a ++ joined.pairs) joined.alone joined.whole ∙ length-numbers 1 (n + g) in
      omega (
        arith,
        here,
        both,
        length-append (number_pairs a) joined.pairs,
        pairs_counted facts reached above.bracket shape a listed,
      )

  pub next_is_small : (let q = quality_of facts reached lower a in (2 * q.next_pairs ≤ count) × (length q.next_psd ≤ count) × Falls q.next_psd)
  next_is_small =
      let by_below : ℕ × ℕ → ℕ = λ pair. difference facts (seat_below facts reached lower pair.0, seat_below facts reached lower pair.1) in
      let floats_below : ℕ → ℕ = λ v. difference_down facts (score_below facts lower) (seat_below facts reached lower v) in
      let all : List ℕ = map by_below joined.pairs ++ map floats_below joined.alone in
      let many : (quality_of facts reached lower a).next_pairs ≡ length joined.pairs = ap (λ (v : NextValue). v.pairs) joined.value in
      let list : (quality_of facts reached lower a).next_psd ≡ highest_first all = ap (λ (v : NextValue). v.psd) joined.value in (
        omega (arith, many, few_below),
        omega (
          arith,
          ap length list,
          length_placed_all [] all,
          length-append (map by_below joined.pairs) (map floats_below joined.alone),
          length-map joined.pairs by_below,
          length-map joined.alone floats_below,
          few_below,
        ),
        subst Falls (sym list) (highest_first_falls all),
      )

  -- the same in the words of the definitions
  pub next_in_order : IsSmall count (next_in (quality_of facts reached lower a))
  next_in_order = record {
    pairs = next_is_small.0;
    differences = next_is_small.1;
    order = in_order (quality_of facts reached lower a).next_psd next_is_small.2;
  }

-- ---- by seat

-- if no lower player comes twice, two who may be a pair are two seats that meet
module _ (facts : Facts) (reached : Reached) (lower : List ℕ) (a : Arrangement) (above : IsAbove facts reached lower) (twice : NoneTwice lower) where
  group_twice : NoneTwice (group_below facts lower)
  group_twice = front_twice facts (scoregroups facts lower) (subst NoneTwice (sym (concat_scoregroups facts lower)) twice)

  seat_inside : (v : ℕ) → 0 < v → v ≤ count_below facts reached lower → seat_below facts reached lower v < length facts.seats
  seat_inside v low high = elim (cases_lt (v - 1) (length reached.seats)) [
    | inl h ↦
        let e : seat_below facts reached lower v ≡ slice_index reached.seats (v - 1) =
        get_or_append_left reached.seats (group_below facts lower) 0 (v - 1) h in
        let lt : slice_index reached.seats (v - 1) < length facts.seats = above.bracket.inside (v - 1) h in
        omega (arith, e, lt)
    | inr h ↦
        let k : ℕ = (v - 1) - length reached.seats in
        let e : seat_below facts reached lower v ≡ slice_index (group_below facts lower) k =
        get_or-append_right reached.seats (group_below facts lower) (length reached.seats) (v - 1) 0 refl h in
        let lt : slice_index (group_below facts lower) k < length facts.seats =
        (first_is_next facts reached lower above).inside k (omega (arith, h, low, high)) in
        omega (arith, e, lt)
  ]

  numbers_of_group : (i j : ℕ) → i < length (group_below facts lower) → j < length (group_below facts lower)
      → slice_index (group_below facts lower) i ≡ slice_index (group_below facts lower) j → i ≡ j
  numbers_of_group i j h g e =
      sym (get_place (group_below facts lower) i group_twice h)
      ∙ ap (λ x. place_of x (group_below facts lower)) e
      ∙ get_place (group_below facts lower) j group_twice g

  in_group : (v : ℕ) → length reached.seats < v
      → seat_below facts reached lower v ≡ slice_index (group_below facts lower) ((v - 1) - length reached.seats)
  in_group v h = get_or-append_right reached.seats (group_below facts lower) (length reached.seats) (v - 1) 0 refl (omega (arith, h))

  numbered : (v : ℕ) → GoesBelow facts reached a v → 0 < v
  numbered v (inl i) = (member_has (λ x. (0 < x) × (x ≤ length reached.seats)) (down (frame_of facts reached) a) (down_numbers facts reached a) v i).0
  numbered v (inr h) = omega (arith, h)

  seats_differ : (pair : ℕ × ℕ) → MayPairBelow facts reached lower a pair
      → seat_below facts reached lower pair.0 ≡ seat_below facts reached lower pair.1 → ⊥
  seats_differ pair may e =
      let n : ℕ = length reached.seats in
      let group : List ℕ = group_below facts lower in
      let second : n < pair.1 = may.second in
      let last : pair.1 ≤ n + length group = may.second_is in
      let first : 0 < pair.0 = numbered pair.0 may.first in
      elim (cases_lt n pair.0) [
        | inl h ↦
            let also : pair.0 ≤ n + length group = may.first_is in
            let same : (pair.0 - 1) - n ≡ (pair.1 - 1) - n =
            numbers_of_group ((pair.0 - 1) - n) ((pair.1 - 1) - n) (omega (arith, h, also)) (omega (arith, second, last))
            (sym (in_group pair.0 h) ∙ e ∙ in_group pair.1 second) in
            may.apart (omega (arith, same, h, second))
        | inr h ↦
            let inside : pair.0 - 1 < n = omega (arith, first, h) in
            let lower' : score_at facts (slice_index group ((pair.1 - 1) - n)) < score_at facts (slice_index reached.seats (pair.0 - 1)) =
            (first_is_next facts reached lower above).below (pair.0 - 1) ((pair.1 - 1) - n) inside (omega (arith, second, last)) in
            let one : seat_below facts reached lower pair.0 ≡ slice_index reached.seats (pair.0 - 1) =
            get_or_append_left reached.seats group 0 (pair.0 - 1) inside in
            let level : score_at facts (slice_index reached.seats (pair.0 - 1)) ≡ score_at facts (slice_index group ((pair.1 - 1) - n)) =
            ap (score_at facts) (sym one ∙ e ∙ in_group pair.1 second) in
            omega (arith, lower', level)
      ]

  pub seats_meet_below : (pair : ℕ × ℕ) → MayPairBelow facts reached lower a pair
      → seats_meet facts (seat_below facts reached lower pair.0) (seat_below facts reached lower pair.1) ≡ true
  unfolding seats_meet
  seats_meet_below pair may =
      let s : ℕ = seat_below facts reached lower pair.0 in
      let t : ℕ = seat_below facts reached lower pair.1 in
      let second : length reached.seats < pair.1 = may.second in
      let first_inside : is_seat facts s ≡ true = ltb_from s (length facts.seats) (seat_inside pair.0 (numbered pair.0 may.first) may.first_is) in
      let second_inside : is_seat facts t ≡ true = ltb_from t (length facts.seats) (seat_inside pair.1 (omega (arith, second)) may.second_is) in
      and_from (is_seat facts s && is_seat facts t && not (s == t)) (may_meet facts s t)
      (and_from (is_seat facts s && is_seat facts t) (not (s == t)) (and_from (is_seat facts s) (is_seat facts t) first_inside second_inside)
      (not_from_false (s == t) (ne_eqb s t (seats_differ pair may))))
      may.meet
