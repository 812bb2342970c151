-- In the penultimate bracket those whom a candidate leaves over can be paired out with all lower players, if it can be chosen (C.04.3 C.4). So
-- its pairs and those of the rest are a matching of all these players, which costs no more than the candidate weighs.
use Rattle.std.proofs.Common.{◌≡◌, ℕ, ◌+◌, ◌-◌, ◌<◌, ◌≤◌, Bool, true, false, not, cond, ◌||◌, nat_lt, nat_le, List, [], ◌∷◌, ◌++◌, map, length, get_or, sum_by, Option, refl, ap, ◌∙◌, arith}
use Rattle.std.specs.Prelude.{◌%◌, ◌^◌}
use Rattle.std.specs.List.{AllByRecursion}
use Rattle.std.proofs.lemmas.Bool.{and_from, and_parts, or_left, or_right}
use Rattle.std.proofs.lemmas.Bool.Decides.{nat_tests}
use Rattle.std.proofs.lemmas.List.{get_or_append_left, get_or-append-add, map-append}
use Rattle.std.proofs.lemmas.List.Sums.{sum_by-append}
use Rattle.dual.specs.Prelude.{FloorTable, IsFloor, slack_in, IsMatching, IsPartOf, cost, in_both}
use Rattle.dual.proofs.Sums.{sum_none}
use Rattle.dual.proofs.WeakDuality.{counted}
use Rattle.dutch_arrangements.specs.declared.bracket.Shape.{Shape}
use Rattle.dutch_arrangements.specs.Prelude.{Arrangement, Fits, down, numbers_from, IsIn, Begins, Beginning}
use Rattle.dutch_sequence.proofs.Lists.{map-numbers_from}
use Rattle.dutch_sequence.proofs.Members.{length-numbers, numbers-append}
use Rattle.dutch_player.specs.Prelude.{Facts}
use Rattle.dutch_candidates.specs.declared.wish.Wish.{Wish}
use Rattle.dutch_weight_floors.specs.declared.scoped.Reach.TheVariants.{Lower}
use Rattle.dutch_bracket.specs.Completion.{Completable, MayBeLeftOut}
use Rattle.dutch_bracket.specs.Prelude.{fixed_lists, IsOf, Reached, frame_of, candidates_of, completable, downfloaters, quality_of, AllNumbers, seat_of, seats_may_be_left, seats_meet, number_pairs}
use Rattle.dutch_candidates.specs.Wishes.{is_wished}
use Rattle.dutch_weight_floors.specs.Prelude.{Covers, Scope, Order, Scoped, any_seat, both_go, both_weigh, bracket_costs, costs_in, goes_down, going_weight, is_inside, least_of, lower_costs, may_pair_out, added_in, stays_in}
use Rattle.dutch_weighing.specs.Prelude.{Scale, weight_of, weighing}
use Rattle.dutch_bracket.proofs.AllLemmas.{all_join}
use Rattle.dutch_bracket.proofs.ArrangementParts.{numbers_above}
use Rattle.dutch_weighing.proofs.C06ToC19Weights.{all_so, candidate_weighs}
use Rattle.dutch_weighing.proofs.CandidateMatchings.{each, part_of}
use Rattle.dutch_completion.proofs.Covering.{completable_by_test}
use Rattle.dutch_weight_floors.proofs.D02Orders.{pairs_cost}
use Rattle.dutch_bracket.proofs.DownLemmas.{down_numbers}
use Rattle.dutch_candidates.proofs.FixedListsLemmas.{has_fixed_pairs}
use Rattle.dutch_bracket.proofs.LegalPairs.{legal_of}
use Rattle.dutch_candidates.proofs.PairedOut.{Meet, PairedOut, few_left, odd_one, one_by_one, paired_out, sums_rise, sums_same}
use Rattle.dutch_weight_floors.proofs.ScopedMatchings.{is_matching_in, s1_moved_down}

-- ---- what two weigh at least

less_as_pair : (r t : Bool) (pair going : ℕ) → r ≡ true → least_of r t pair going ≤ pair
less_as_pair true true pair going e = omega arith
less_as_pair true false pair going e = omega arith
less_as_pair false t pair going e = absurd (let bad : false ≡ true = e in cc)

less_as_going : (r t : Bool) (pair going : ℕ) → t ≡ true → least_of r t pair going ≤ going
less_as_going true true pair going e = omega arith
less_as_going true false pair going e = absurd (let bad : false ≡ true = e in cc)
less_as_going false t pair going e = omega arith

no_more : (t : Bool) (x y : ℕ) → cond t (x + y) x ≤ x + y
no_more true x y = omega arith
no_more false x y = omega arith

module _ (facts : Facts) (reached : Reached) (scale : Scale) (lower : List ℕ) (scope : Scope) (wish : Option Wish) (order : Order) where
  abbrev s : Scoped
  s = record { weighing = record { facts = facts; reached = reached; lower = lower; scale = scale }; scope = scope; wish = wish; reach = Lower; order = order }

  -- the numbers of the lower players
  abbrev lowers : List ℕ
  lowers = numbers_from (1 + length reached.seats) (length lower)

  -- ---- seats

  inside_mapped : (vs : List ℕ) → AllNumbers reached.seats vs → map (any_seat s) vs ≡ map (seat_of reached.seats) vs
  inside_mapped [] all = refl
  inside_mapped (v ∷ vs) all =
      ap (λ x. x ∷ map (any_seat s) vs) (get_or_append_left reached.seats lower 0 (v - 1) (omega (arith, all.0.0, all.0.1)))
      ∙ ap (λ xs. seat_of reached.seats v ∷ xs) (inside_mapped vs all.1)

  lower_mapped : map (any_seat s) lowers ≡ lower
  lower_mapped =
      map-numbers_from (any_seat s) lower (1 + length reached.seats)
      (λ j lt.
      ap (λ k. get_or (reached.seats ++ lower) k 0) (let e : ((1 + length reached.seats) + j) - 1 ≡ length reached.seats + j = omega arith in e)
      ∙ get_or-append-add reached.seats lower j 0)

  seats_are : (vs : List ℕ) → AllNumbers reached.seats vs → map (any_seat s) (vs ++ lowers) ≡ map (seat_of reached.seats) vs ++ lower
  seats_are vs all =
      map-append (any_seat s) vs lowers
      ∙ ap (λ xs. xs ++ map (any_seat s) lowers) (inside_mapped vs all)
      ∙ ap (λ xs. map (seat_of reached.seats) vs ++ xs) lower_mapped

  -- ---- who goes down, and what that weighs

  abbrev Goes : ℕ → Type 0
  Goes v = goes_down s v ≡ true

  abbrev w_down : ℕ → ℕ
  w_down = (weighing facts reached scale).left_cost

  outside : (v : ℕ) → length reached.seats < v → is_inside s v ≡ false
  outside v h = let e : nat_le v (length reached.seats) ≡ false = grind (arith, nat_tests, h) in e

  within : (v : ℕ) → v ≤ length reached.seats → is_inside s v ≡ true
  within v h = let e : nat_le v (length reached.seats) ≡ true = grind (arith, nat_tests, h) in e

  lowers_go : AllByRecursion Goes lowers
  lowers_go =
      all_so (λ v. length reached.seats < v) Goes (λ v h. ap (λ t. not t || stays_in s v) (outside v h)) lowers
      (numbers_above (length reached.seats) (1 + length reached.seats) (length lower) (omega arith))

  lowers_weigh : sum_by (going_weight s) lowers ≡ 0
  lowers_weigh =
      sums_same (going_weight s) (λ v. 0) lowers
      (all_so (λ v. length reached.seats < v) (λ v. going_weight s v ≡ 0) (λ v h. ap (λ t. cond t (w_down v) 0) (outside v h)) lowers
      (numbers_above (length reached.seats) (1 + length reached.seats) (length lower) (omega arith)))
      ∙ sum_none lowers

  inside_weigh : (vs : List ℕ) → AllNumbers reached.seats vs → sum_by (going_weight s) vs ≡ sum_by w_down vs
  inside_weigh vs all =
      sums_same (going_weight s) w_down vs
      (all_so (λ v. (0 < v) × (v ≤ length reached.seats)) (λ v. going_weight s v ≡ w_down v)
      (λ v h. ap (λ t. cond t (w_down v) 0) (within v h.1)) vs all)

  -- two who go down cost no more than both weigh
  both_cost : (u v : ℕ) → Goes u → Goes v → (lower_costs s).weight u v ≤ going_weight s u + going_weight s v
  both_cost u v first second =
      let going = less_as_going ((bracket_costs s).meets u v) (both_go s u v) ((bracket_costs s).weight u v) (both_weigh s u v)
      (and_from (goes_down s u) (goes_down s v) first second) in
      omega (arith, going, no_more (nat_lt (going_weight s u + going_weight s v) (2 ^ 1024)) (going_weight s u) (going_weight s v))

  module _ (shape : Shape) (a : Arrangement) (of' : IsOf facts reached) (fits : Fits (frame_of facts reached) shape)
      (m : IsIn a (candidates_of facts reached shape)) (b : Beginning) (begins : Begins b a) (covers : Covers scope b) (granted : is_wished wish a ≡ true) where
    abbrev left : List ℕ
    left = down (frame_of facts reached) a

    -- the pairs of a candidate in the bracket
    inside : IsMatching (bracket_costs s) (numbers_from 1 (length reached.seats)) (number_pairs a) left
    inside = is_matching_in facts reached scale lower shape a of' fits m b begins scope covers wish granted order

    left_goes : AllByRecursion Goes left
    left_goes =
        all_so (λ v. (bracket_costs s).may_be_left v ≡ true) Goes
        (λ v may. or_right (not (is_inside s v)) (stays_in s v) (and_parts (stays_in s v) _ may).0) left
        (one_by_one (λ v. (bracket_costs s).may_be_left v ≡ true) left inside.may_be_left)

    abbrev Pairs : List ℕ → Type 0
    Pairs out' = PairedOut (any_seat s) (seats_meet facts) Goes (left ++ lowers) out'

    -- the pairs of the rest
    rest_paired : (whole : Completable (seats_meet facts) (seats_may_be_left facts) (downfloaters facts reached a ++ lower)) → Pairs whole.out
    rest_paired whole =
        paired_out (any_seat s) (seats_meet facts) Goes whole.pairs (downfloaters facts reached a ++ lower) whole.out whole.covered (left ++ lowers)
        (seats_are left (down_numbers facts reached a)) (all_join Goes left lowers left_goes lowers_go)

    module _ (out' : List ℕ) (rest : Pairs out') (may : MayBeLeftOut (seats_may_be_left facts) out') where
      abbrev all_pairs : List (ℕ × ℕ)
      all_pairs = number_pairs a ++ rest.pairs

      abbrev one_left : (length rest.out ≤ 1) × AllByRecursion (λ v. seats_may_be_left facts (any_seat s v) ≡ true) rest.out
      one_left = few_left (seats_may_be_left facts) (any_seat s) rest.out out' rest.out_is may

      abbrev Meets : ℕ × ℕ → Type 0
      Meets pair = (lower_costs s).meets pair.0 pair.1 ≡ true

      abbrev Stays : ℕ → Type 0
      Stays v = (lower_costs s).may_be_left v ≡ true

      pairs_meet : AllByRecursion Meets all_pairs
      pairs_meet =
          all_join Meets (number_pairs a) rest.pairs
          (all_so (λ pair. (bracket_costs s).meets pair.0 pair.1 ≡ true) Meets
          (λ pair e. or_left ((bracket_costs s).meets pair.0 pair.1) (may_pair_out s pair.0 pair.1) e) (number_pairs a)
          (one_by_one (λ pair. (bracket_costs s).meets pair.0 pair.1 ≡ true) (number_pairs a) inside.may_meet))
          (all_so (Meet (any_seat s) (seats_meet facts) Goes) Meets
          (λ pair holds.
          or_right ((bracket_costs s).meets pair.0 pair.1) (may_pair_out s pair.0 pair.1)
          (and_from (both_go s pair.0 pair.1) _ (and_from (goes_down s pair.0) (goes_down s pair.1) holds.0.0 holds.0.1) holds.1))
          rest.pairs rest.meet)

      all_stay : (xs : List ℕ) → AllByRecursion Goes xs → AllByRecursion (λ v. seats_may_be_left facts (any_seat s v) ≡ true) xs
          → AllByRecursion Stays xs
      all_stay [] goes left' = tt
      all_stay (x ∷ xs) goes left' = (and_from (goes_down s x) _ goes.0 left'.0, all_stay xs goes.1 left'.1)

      all_matched : IsMatching (lower_costs s) (numbers_from 1 (length reached.seats + length lower)) all_pairs rest.out
      all_matched = record {
        whole = λ w. omega (
          arith,
          sum_by-append (in_both w) (number_pairs a) rest.pairs,
          rest.whole w,
          sum_by-append w left lowers,
          inside.whole w,
          ap (sum_by w) (numbers-append 1 (length reached.seats) (length lower)),
          sum_by-append w (numbers_from 1 (length reached.seats)) lowers,
        );
        may_meet = each Meets all_pairs pairs_meet;
        may_be_left = each Stays rest.out (all_stay rest.out rest.stay one_left.1);
      }

      -- they cost no more than the candidate weighs, and what the members of its S1R add
      costs_no_more : cost (lower_costs s) all_pairs rest.out ≤ weight_of scale (quality_of facts reached lower a) + added_in order a
      costs_no_more =
          let least : ℕ × ℕ → ℕ = λ pair. (lower_costs s).weight pair.0 pair.1 in
          let here : ℕ × ℕ → ℕ = λ pair. (bracket_costs s).weight pair.0 pair.1 in
          let first = sums_rise least here (number_pairs a)
          (all_so (λ pair. (bracket_costs s).meets pair.0 pair.1 ≡ true) (λ pair. least pair ≤ here pair)
          (λ pair e. less_as_pair ((bracket_costs s).meets pair.0 pair.1) (both_go s pair.0 pair.1) (here pair) (both_weigh s pair.0 pair.1) e)
          (number_pairs a)
          (one_by_one (λ pair. (bracket_costs s).meets pair.0 pair.1 ≡ true) (number_pairs a) inside.may_meet)) in
          let second = sums_rise least (in_both (going_weight s)) rest.pairs
          (all_so (Meet (any_seat s) (seats_meet facts) Goes) (λ pair. least pair ≤ in_both (going_weight s) pair)
          (λ pair holds. both_cost pair.0 pair.1 holds.0.0 holds.0.1) rest.pairs rest.meet) in
          omega (
            arith,
            sum_by-append least (number_pairs a) rest.pairs,
            first,
            second,
            rest.whole (going_weight s),
            sum_by-append (going_weight s) left lowers,
            lowers_weigh,
            inside_weigh left (down_numbers facts reached a),
            candidate_weighs facts reached scale lower a,
            pairs_cost reached.mdps order (weighing facts reached scale).weight a
                (s1_moved_down (frame_of facts reached) shape a of'.sound.within (legal_of facts reached shape a m).arranged),
          )

      few_out : length rest.out ≡ (length reached.seats + length lower) % 2
      few_out =
          odd_one (length all_pairs) (length rest.out) (length reached.seats + length lower)
          (counted (lower_costs s) (numbers_from 1 (length reached.seats + length lower)) all_pairs rest.out all_matched
          ∙ length-numbers 1 (length reached.seats + length lower)) one_left.0

      fixed_part : IsPartOf (number_pairs (fixed_lists b)) all_pairs
      fixed_part =
          let part = part_of (fixed_lists b) a (has_fixed_pairs b.filling b.lists a begins) in
          record {
            others = part.others ++ rest.pairs;
            whole = λ f. omega (arith, part.whole f, sum_by-append f part.others rest.pairs, sum_by-append f (number_pairs a) rest.pairs);
          }

      bound_of : (floor : FloorTable)
          → IsFloor (lower_costs s) (numbers_from 1 (length reached.seats + length lower)) ((length reached.seats + length lower) % 2) floor
          → floor.base + sum_by (slack_in floor) (number_pairs (fixed_lists b)) ≤ floor.debt + (weight_of scale (quality_of facts reached lower a) + added_in order a)
      bound_of floor is =
          let bound = is all_pairs rest.out all_matched few_out (number_pairs (fixed_lists b)) [] fixed_part
          (record { others = rest.out; whole = λ f. omega arith }) in
          omega (arith, bound, costs_no_more)

    -- C.4: no candidate that leaves over players who can be paired out weighs less than a floor says that is for all lower players too
    pub weighs_more_below : completable facts (downfloaters facts reached a ++ lower) ≡ true → (floor : FloorTable)
        → IsFloor (costs_in s) (numbers_from 1 (length reached.seats + length lower)) ((length reached.seats + length lower) % 2) floor
        → floor.base + sum_by (slack_in floor) (number_pairs (fixed_lists b)) ≤ floor.debt + (weight_of scale (quality_of facts reached lower a) + added_in order a)
    unfolding completable
    weighs_more_below can floor is =
        let whole = (completable_by_test (seats_meet facts) (seats_may_be_left facts) (downfloaters facts reached a ++ lower)).1 can in
        bound_of whole.out (rest_paired whole) whole.left_out floor is
