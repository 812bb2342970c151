-- The pairs of a candidate and those of the best arrangement of the next bracket (C.04.3 C.7) are a matching of the bracket and the next lower
-- scoregroup, which costs no more than the candidate weighs on a scale that measures the next bracket.
use Rattle.std.proofs.Common.{◌≡◌, ℕ, ◌+◌, ◌-◌, ◌*◌, ◌<◌, ◌≤◌, ◌⊎◌, Bool, true, false, not, cond, ◌&&◌, ◌||◌, nat_le, List, [], ◌∷◌, ◌++◌, map, length, get_or, sum_by, Option, Some, None, inl, inr, refl, ap, ◌∙◌, arith}
use Rattle.std.specs.Prelude.{◌==◌, is_some}
use Rattle.std.specs.List.{AllByRecursion}
use Rattle.std.specs.Option.{ForSome}
use Rattle.std.proofs.lemmas.Bool.{and_from, and_parts, ne_eqb, or_right}
use Rattle.std.proofs.lemmas.Bool.Decides.{nat_tests}
use Rattle.std.proofs.lemmas.List.{get_or_append_left, get_or-append_right}
use Rattle.std.proofs.lemmas.List.Sums.{sum_by-cons, sum_by-append}
use Rattle.dual.specs.Prelude.{FloorTable, IsFloor, slack_in, IsMatching, IsPartOf, cost, in_both}
use Rattle.dual.proofs.Sums.{sum_none, sum_of_ones, sum_of_twos}
use Rattle.dutch_arrangements.specs.declared.bracket.Shape.{Shape}
use Rattle.dutch_arrangements.specs.Prelude.{Arrangement, Fits, down, numbers_from, IsIn, Begins, Beginning}
use Rattle.dutch_sequence.proofs.Members.{length-numbers, numbers-append}
use Rattle.dutch_sequence.proofs.Orders.{member_has}
use Rattle.dutch_player.specs.Prelude.{Facts}
use Rattle.dutch_candidates.specs.declared.wish.Wish.{Wish}
use Rattle.dutch_bracket.specs.declared.reached.BracketKind.TheVariants.{Ordinary}
use Rattle.dutch_weight_floors.specs.declared.scoped.Reach.TheVariants.{Next}
use Rattle.dutch_bracket.specs.Prelude.{fixed_lists, IsNext, GoesBelow, JoinsBelow, MayPairBelow, count_below, group_below, score_below, seat_below, NextValue, Quality, IsAbove, Reached, frame_of, is_number, numbers_meet, candidates_of, quality_of, difference, difference_down, score_at, number_pairs}
use Rattle.dutch_candidates.specs.Wishes.{is_wished}
use Rattle.dutch_weight_floors.specs.Prelude.{Covers, Scope, Order, Scoped, are_inside, both_go, bracket_costs, costs_in, goes_down, is_inside, is_number_below, may_meet_below, next_costs, pair_weight_below, added_in, joins_in, stays_in}
use Rattle.dutch_weighing.specs.Prelude.{IsNextScale, IsScaleFor, NextScale, Scale, alone_by, weight_below, weight_of, weighing, alone_weight, met_weight, own_weight}
use Rattle.dutch_bracket.proofs.AllLemmas.{all_join}
use Rattle.dutch_bracket.proofs.ArrangementParts.{numbers_above}
use Rattle.dutch_candidates.proofs.PairedOut.{one_by_one, sums_same}
use Rattle.dutch_weighing.proofs.C06ToC19Weights.{IsSmallBelow, all_so, below_more, below_none, below_ordered, candidate_weighs}
use Rattle.dutch_weighing.proofs.C07NextMatchings.{joins_below, next_is_small}
use Rattle.dutch_weighing.proofs.CandidateMatchings.{each, left_over, part_of}
use Rattle.dutch_weight_floors.proofs.D02Orders.{pairs_cost}
use Rattle.dutch_bracket.proofs.DownLemmas.{down_numbers}
use Rattle.dutch_candidates.proofs.FixedListsLemmas.{has_fixed_pairs}
use Rattle.dutch_bracket.proofs.LegalPairs.{legal_of}
use Rattle.dutch_bracket.proofs.NextGroups.{first_is_next}
use Rattle.dutch_weight_floors.proofs.ScopedMatchings.{is_matching_in, s1_moved_down}

-- ---- a candidate's value of the next bracket on a scale that measures it

-- it has no more pairs than players, and no more differences, the highest first
pub small_below : (facts : Facts) (reached : Reached) (lower : List ℕ) (shape : Shape) (scale : Scale) (a : Arrangement)
    → IsIn a (candidates_of facts reached shape) → IsScaleFor facts reached lower shape scale
    → ForSome scale.next (IsSmallBelow (quality_of facts reached lower a))
small_below facts reached lower shape scale a m scaled = λ next there.
    let is : IsNextScale facts reached lower shape next = scaled.next next there in
    let small = next_is_small facts reached lower shape a is.above is.ordinary m in
    record { pairs = omega (arith, is.players, small.0); few = omega (arith, is.players, small.1); falls = small.2 }

-- an ordinary bracket above lower seats is measured
measured : (facts : Facts) (reached : Reached) (lower : List ℕ) (shape : Shape) (next : Option NextScale) → is_some next ≡ true
    → ForSome next (IsNextScale facts reached lower shape) → IsAbove facts reached lower × (reached.kind ≡ Ordinary)
measured facts reached lower shape None some is = absurd (let bad : false ≡ true = some in cc)
measured facts reached lower shape (Some next) some is = ((is next refl).above, (is next refl).ordinary)

and_false : (t : Bool) → (t && false) ≡ false
and_false true = refl
and_false false = refl

pairs_same : (f g : ℕ × ℕ → ℕ) (xs : List (ℕ × ℕ)) → AllByRecursion (λ x. f x ≡ g x) xs → sum_by f xs ≡ sum_by g xs
pairs_same f g [] all = refl
pairs_same f g (x ∷ xs) all = omega (arith, sum_by-cons f x xs, sum_by-cons g x xs, all.0, pairs_same f g xs all.1)

at_most : (x y : ℕ) → (x ≤ y) ⊎ (y < x)
at_most x y = grind arith

module _ (facts : Facts) (reached : Reached) (scale : Scale) (lower : List ℕ) (scope : Scope) (wish : Option Wish) (order : Order) where
  abbrev s : Scoped
  s = record { weighing = record { facts = facts; reached = reached; lower = lower; scale = scale }; scope = scope; wish = wish; reach = Next; order = order }

  abbrev n : ℕ
  n = length reached.seats

  abbrev seat : ℕ → ℕ
  seat = seat_below facts reached lower

  abbrev low : ℕ
  low = score_below facts lower

  -- the numbers of the next lower scoregroup
  abbrev nexts : List ℕ
  nexts = numbers_from (1 + n) (length (group_below facts lower))

  abbrev own : ℕ → ℕ
  own = own_weight s.weighing

  abbrev w_down : ℕ → ℕ
  w_down = (weighing facts reached scale).left_cost

  -- ---- who stands inside

  outside : (v : ℕ) → n < v → is_inside s v ≡ false
  outside v h = let e : nat_le v n ≡ false = grind (arith, nat_tests, h) in e

  within : (v : ℕ) → v ≤ n → is_inside s v ≡ true
  within v h = let e : nat_le v n ≡ true = grind (arith, nat_tests, h) in e

  own_outside : (v : ℕ) → n < v → own v ≡ 0
  own_outside v h = ap (λ t. cond t (w_down v) 0) (outside v h)

  own_within : (v : ℕ) → v ≤ n → own v ≡ w_down v
  own_within v h = ap (λ t. cond t (w_down v) 0) (within v h)

  nexts_weigh : sum_by own nexts ≡ 0
  nexts_weigh =
      sums_same own (λ v. 0) nexts
      (all_so (λ v. n < v) (λ v. own v ≡ 0) own_outside nexts (numbers_above n (1 + n) (length (group_below facts lower)) (omega arith)))
      ∙ sum_none nexts

  inside_weigh : (vs : List ℕ) → AllByRecursion (λ v. (0 < v) × (v ≤ n)) vs → sum_by own vs ≡ sum_by w_down vs
  inside_weigh vs all = sums_same own w_down vs (all_so (λ v. (0 < v) × (v ≤ n)) (λ v. own v ≡ w_down v) (λ v h. own_within v h.1) vs all)

  numbers_inside : (u v : ℕ) → numbers_meet facts reached u v ≡ true → (u ≤ n) × (v ≤ n)
  unfolding numbers_meet
  numbers_inside u v e =
      let both = (and_parts (is_number reached u && is_number reached v) _ e).0 in
      let first = (and_parts (is_number reached u) _ both).0 in
      let second = (and_parts (is_number reached u) _ both).1 in
      let u_in : nat_le u n ≡ true = (and_parts (nat_le 1 u) _ first).1 in
      let v_in : nat_le v n ≡ true = (and_parts (nat_le 1 v) _ second).1 in
      (grind (arith, nat_tests, u_in), grind (arith, nat_tests, v_in))

  module _ (above : IsAbove facts reached lower) where
    abbrev is_next : IsNext facts reached (group_below facts lower)
    is_next = first_is_next facts reached lower above

    -- ---- scores

    seat_within : (v : ℕ) → 0 < v → v ≤ n → seat v ≡ get_or reached.seats (v - 1) 0
    seat_within v some h = get_or_append_left reached.seats (group_below facts lower) 0 (v - 1) (omega (arith, some, h))

    seat_outside : (v : ℕ) → n < v → seat v ≡ get_or (group_below facts lower) ((v - 1) - n) 0
    seat_outside v h = get_or-append_right reached.seats (group_below facts lower) n (v - 1) 0 refl (omega (arith, h))

    score_outside : (v : ℕ) → n < v → v ≤ count_below facts reached lower → score_at facts (seat v) ≡ low
    score_outside v h in' =
        ap (score_at facts) (seat_outside v h) ∙ is_next.same ((v - 1) - n) 0 (omega (arith, h, in')) (omega (arith, h, in'))

    score_within : (v : ℕ) → 0 < v → v ≤ n → n < count_below facts reached lower → low ≤ score_at facts (seat v)
    score_within v some h more =
        let less : low < score_at facts (get_or reached.seats (v - 1) 0) = is_next.below (v - 1) 0 (omega (arith, some, h)) (omega (arith, more)) in
        omega (arith, less, ap (score_at facts) (seat_within v some h))

    abbrev by : ℕ × ℕ → ℕ
    by pair = difference facts (seat pair.0, seat pair.1)

    abbrev floats : ℕ → ℕ
    floats v = difference_down facts low (seat v)

    -- what a pair of the next bracket weighs
    pair_weighs : (u v : ℕ) → 0 < u → u ≤ count_below facts reached lower → n < v → v ≤ count_below facts reached lower
        → pair_weight_below s u v ≡ (own u + own v) + weight_below scale 0 (by (u, v) ∷ [])
    pair_weighs u v some u_in h v_in = elim (at_most u n) [
      | inl inside ↦
          let same : score_at facts (seat u) - low ≡ by (u, v) =
          omega (arith, score_outside v h v_in, score_within u some inside (omega (arith, h, v_in))) in
          omega (
            arith,
            ap (λ t. cond t (met_weight s.weighing u) (met_weight s.weighing v)) (within u inside),
            ap (λ d. weight_below scale 0 (d ∷ [])) same,
            own_outside v h,
          )
      | inr beyond ↦
          let same : score_at facts (seat v) - low ≡ by (u, v) = omega (arith, score_outside v h v_in, score_outside u beyond u_in) in
          omega (
            arith,
            ap (λ t. cond t (met_weight s.weighing u) (met_weight s.weighing v)) (outside u beyond),
            ap (λ d. weight_below scale 0 (d ∷ [])) same,
            own_outside u beyond,
          )
    ]

    module _ (shape : Shape) (a : Arrangement) (fits : Fits (frame_of facts reached) shape) (m : IsIn a (candidates_of facts reached shape))
        (b : Beginning) (begins : Begins b a) (covers : Covers scope b) (granted : is_wished wish a ≡ true) where
      abbrev left : List ℕ
      left = down (frame_of facts reached) a

      abbrev Goes : ℕ → Type 0
      Goes v = goes_down s v ≡ true

      -- the pairs of a candidate in the bracket
      inside : IsMatching (bracket_costs s) (numbers_from 1 n) (number_pairs a) left
      inside = is_matching_in facts reached scale lower shape a above.bracket fits m b begins scope covers wish granted order

      left_goes : AllByRecursion Goes left
      left_goes =
          all_so (λ v. (bracket_costs s).may_be_left v ≡ true) Goes
          (λ v may. or_right (not (is_inside s v)) (stays_in s v) (and_parts (stays_in s v) _ may).0) left
          (one_by_one (λ v. (bracket_costs s).may_be_left v ≡ true) left inside.may_be_left)

      goes : (v : ℕ) → GoesBelow facts reached a v → Goes v
      goes v (inl member) = member_has Goes left left_goes v member
      goes v (inr beyond) = ap (λ t. not t || stays_in s v) (outside v beyond)

      some_of : (v : ℕ) → GoesBelow facts reached a v → 0 < v
      some_of v (inl member) = (member_has (λ x. (0 < x) × (x ≤ n)) left (down_numbers facts reached a) v member).0
      some_of v (inr beyond) = omega (arith, beyond)

      -- a pair of the candidate is one of two inside
      pair_inside : (pair : ℕ × ℕ) → (bracket_costs s).meets pair.0 pair.1 ≡ true → are_inside s pair.0 pair.1 ≡ true
      pair_inside pair e =
          let both = numbers_inside pair.0 pair.1 (and_parts (joins_in s pair.0 pair.1) _ e).1 in
          and_from (is_inside s pair.0) (is_inside s pair.1) (within pair.0 both.0) (within pair.1 both.1)

      pairs_inside : AllByRecursion (λ (pair : ℕ × ℕ). are_inside s pair.0 pair.1 ≡ true) (number_pairs a)
      pairs_inside =
          all_so (λ (pair : ℕ × ℕ). (bracket_costs s).meets pair.0 pair.1 ≡ true) (λ pair. are_inside s pair.0 pair.1 ≡ true) pair_inside (number_pairs a)
          (one_by_one (λ (pair : ℕ × ℕ). (bracket_costs s).meets pair.0 pair.1 ≡ true) (number_pairs a) inside.may_meet)

      -- one of the next bracket is not
      pair_beyond : (pair : ℕ × ℕ) → n < pair.1 → are_inside s pair.0 pair.1 ≡ false
      pair_beyond pair h = ap (λ t. is_inside s pair.0 && t) (outside pair.1 h) ∙ and_false (is_inside s pair.0)

      module _ (joins : JoinsBelow facts reached lower a) where
        abbrev all_pairs : List (ℕ × ℕ)
        all_pairs = number_pairs a ++ joins.pairs

        abbrev Meets : ℕ × ℕ → Type 0
        Meets pair = (next_costs s).meets pair.0 pair.1 ≡ true

        meets_inside : (pair : ℕ × ℕ) → (bracket_costs s).meets pair.0 pair.1 ≡ true → Meets pair
        meets_inside pair e =
            ap (λ t. cond t ((bracket_costs s).meets pair.0 pair.1) (may_meet_below s pair.0 pair.1)) (pair_inside pair e) ∙ e

        number_below : (v : ℕ) → 0 < v → v ≤ count_below facts reached lower → is_number_below s.weighing v ≡ true
        number_below v some h =
            and_from (nat_le 1 v) (nat_le v (count_below facts reached lower)) (grind (arith, nat_tests, some)) (grind (arith, nat_tests, h))

        meets_below : (pair : ℕ × ℕ) → MayPairBelow facts reached lower a pair → Meets pair
        meets_below pair may =
            let second : GoesBelow facts reached a pair.1 = inr may.second in
            let go = and_from (goes_down s pair.0) (goes_down s pair.1) (goes pair.0 may.first) (goes pair.1 second) in
            let known = and_from (is_number_below s.weighing pair.0) (is_number_below s.weighing pair.1)
            (number_below pair.0 (some_of pair.0 may.first) may.first_is) (number_below pair.1 (some_of pair.1 second) may.second_is) in
            let apart : not (pair.0 == pair.1) ≡ true = ap not (ne_eqb pair.0 pair.1 may.apart) in
            ap (λ t. cond t ((bracket_costs s).meets pair.0 pair.1) (may_meet_below s pair.0 pair.1)) (pair_beyond pair may.second)
            ∙ and_from _ _ (and_from (both_go s pair.0 pair.1) _ go known) (and_from (not (pair.0 == pair.1)) _ apart may.meet)

        all_matched : IsMatching (next_costs s) (numbers_from 1 (count_below facts reached lower)) all_pairs joins.alone
        all_matched = record {
          whole = joins.whole;
          may_meet = each Meets all_pairs (all_join Meets (number_pairs a) joins.pairs
              (all_so (λ (pair : ℕ × ℕ). (bracket_costs s).meets pair.0 pair.1 ≡ true) Meets meets_inside (number_pairs a)
              (one_by_one (λ (pair : ℕ × ℕ). (bracket_costs s).meets pair.0 pair.1 ≡ true) (number_pairs a) inside.may_meet))
              (all_so (MayPairBelow facts reached lower a) Meets meets_below joins.pairs (one_by_one (MayPairBelow facts reached lower a) joins.pairs joins.may_pair)));
          may_be_left = each (λ v. goes_down s v ≡ true) joins.alone
              (all_so (λ v. GoesBelow facts reached a v × (v ≤ count_below facts reached lower)) (λ v. goes_down s v ≡ true) (λ v is. goes v is.0) joins.alone
              (one_by_one (λ v. GoesBelow facts reached a v × (v ≤ count_below facts reached lower)) joins.alone joins.stay));
        }

        -- ---- what they cost

        costs_inside : sum_by (λ (pair : ℕ × ℕ). (next_costs s).weight pair.0 pair.1) (number_pairs a)
            ≡ sum_by (λ (pair : ℕ × ℕ). (bracket_costs s).weight pair.0 pair.1) (number_pairs a)
        costs_inside =
            pairs_same (λ pair. (next_costs s).weight pair.0 pair.1) (λ pair. (bracket_costs s).weight pair.0 pair.1) (number_pairs a)
            (all_so (λ (pair : ℕ × ℕ). are_inside s pair.0 pair.1 ≡ true) (λ pair. (next_costs s).weight pair.0 pair.1 ≡ (bracket_costs s).weight pair.0 pair.1)
            (λ pair e. ap (λ t. cond t ((bracket_costs s).weight pair.0 pair.1) (pair_weight_below s pair.0 pair.1)) e) (number_pairs a) pairs_inside)

        one_costs : (pair : ℕ × ℕ) → MayPairBelow facts reached lower a pair
            → (next_costs s).weight pair.0 pair.1 ≡ in_both own pair + weight_below scale 0 (by pair ∷ [])
        one_costs pair may =
            ap (λ t. cond t ((bracket_costs s).weight pair.0 pair.1) (pair_weight_below s pair.0 pair.1)) (pair_beyond pair may.second)
            ∙ pair_weighs pair.0 pair.1 (some_of pair.0 may.first) may.first_is may.second may.second_is

        costs_below : (pairs : List (ℕ × ℕ)) → AllByRecursion (MayPairBelow facts reached lower a) pairs
            → sum_by (λ (pair : ℕ × ℕ). (next_costs s).weight pair.0 pair.1) pairs ≡ sum_by (in_both own) pairs + weight_below scale 0 (map by pairs)
        costs_below [] all = omega (arith, below_none facts reached scale)
        costs_below (pair ∷ pairs) all =
            omega (
              arith,
              sum_by-cons (λ (p : ℕ × ℕ). (next_costs s).weight p.0 p.1) pair pairs,
              sum_by-cons (in_both own) pair pairs,
              one_costs pair all.0,
              costs_below pairs all.1,
              below_more facts reached scale 0 0 (by pair ∷ []) (map by pairs),
            )

        costs_alone : (vs : List ℕ) → sum_by (alone_weight s.weighing) vs ≡ sum_by own vs + weight_below scale (length vs) (map floats vs)
        costs_alone [] = omega (arith, below_none facts reached scale)
        costs_alone (v ∷ vs) =
            omega (
              arith,
              sum_by-cons (alone_weight s.weighing) v vs,
              sum_by-cons own v vs,
              costs_alone vs,
              ap (λ k. weight_below scale k (map floats (v ∷ vs))) (let e : length (v ∷ vs) ≡ 1 + length vs = omega arith in e),
              below_more facts reached scale 1 (length vs) (floats v ∷ []) (map floats vs),
            )

        -- those who go down weigh what they do in the bracket
        own_sum : sum_by (in_both own) joins.pairs + sum_by own joins.alone ≡ sum_by w_down left
        own_sum =
            omega (
              arith,
              joins.whole own,
              sum_by-append (in_both own) (number_pairs a) joins.pairs,
              inside.whole own,
              ap (sum_by own) (numbers-append 1 n (length (group_below facts lower))),
              sum_by-append own (numbers_from 1 n) nexts,
              nexts_weigh,
              inside_weigh left (down_numbers facts reached a),
            )

        alone_counted : (next : NextScale) → IsNextScale facts reached lower shape next → next.players - 2 * length joins.pairs ≡ length joins.alone
        alone_counted next is =
            omega (
              arith,
              is.players,
              joins.whole (λ v. 1),
              sum_by-append (in_both (λ v. 1)) (number_pairs a) joins.pairs,
              sum_of_twos joins.pairs,
              sum_of_ones joins.alone,
              sum_of_ones (numbers_from 1 (count_below facts reached lower)),
              length-numbers 1 (count_below facts reached lower),
              inside.whole (λ v. 1),
              sum_of_ones left,
              sum_of_ones (numbers_from 1 n),
              length-numbers 1 n,
              left_over facts reached scale lower shape a above.bracket fits m,
            )

        abbrev q : Quality
        q = quality_of facts reached lower a

        alone_is : (next : Option NextScale) → is_some next ≡ true → ForSome next (IsNextScale facts reached lower shape) → alone_by next q.next_pairs ≡ length joins.alone
        alone_is None some each = absurd (let bad : false ≡ true = some in cc)
        alone_is (Some next) some each =
            ap (λ k. next.players - 2 * k) (ap (λ (v : NextValue). v.pairs) joins.value) ∙ alone_counted next (each next refl)

        value_weighs : is_some scale.next ≡ true → IsScaleFor facts reached lower shape scale
            → weight_below scale (alone_by scale.next q.next_pairs) q.next_psd ≡ weight_below scale 0 (map by joins.pairs) + weight_below scale (length joins.alone) (map floats joins.alone)
        value_weighs some scaled =
            ap (λ k. weight_below scale k q.next_psd) (alone_is scale.next some scaled.next)
            ∙ ap (λ psd. weight_below scale (length joins.alone) psd) (ap (λ (v : NextValue). v.psd) joins.value)
            ∙ below_ordered facts reached scale (length joins.alone) (map by joins.pairs ++ map floats joins.alone)
            ∙ ap (λ k. weight_below scale k (map by joins.pairs ++ map floats joins.alone)) (let e : length joins.alone ≡ 0 + length joins.alone = omega arith in e)
            ∙ below_more facts reached scale 0 (length joins.alone) (map by joins.pairs) (map floats joins.alone)

        -- they cost no more than the candidate weighs, and what the members of its S1R add
        costs_no_more : is_some scale.next ≡ true → IsScaleFor facts reached lower shape scale
            → cost (next_costs s) all_pairs joins.alone ≤ weight_of scale q + added_in order a
        costs_no_more some scaled =
            let weight : ℕ × ℕ → ℕ = λ pair. (next_costs s).weight pair.0 pair.1 in
            omega (
              arith,
              sum_by-append weight (number_pairs a) joins.pairs,
              costs_inside,
              costs_below joins.pairs (one_by_one (MayPairBelow facts reached lower a) joins.pairs joins.may_pair),
              costs_alone joins.alone,
              own_sum,
              value_weighs some scaled,
              candidate_weighs facts reached scale lower a,
              pairs_cost reached.mdps order (weighing facts reached scale).weight a
                  (s1_moved_down (frame_of facts reached) shape a above.bracket.sound.within (legal_of facts reached shape a m).arranged),
            )

        fixed_part : IsPartOf (number_pairs (fixed_lists b)) all_pairs
        fixed_part =
            let part = part_of (fixed_lists b) a (has_fixed_pairs b.filling b.lists a begins) in
            record {
              others = part.others ++ joins.pairs;
              whole = λ f. omega (arith, part.whole f, sum_by-append f part.others joins.pairs, sum_by-append f (number_pairs a) joins.pairs);
            }

        bound_of : is_some scale.next ≡ true → IsScaleFor facts reached lower shape scale → (floor : FloorTable)
            → ((count : ℕ) → IsFloor (next_costs s) (numbers_from 1 (count_below facts reached lower)) count floor)
            → floor.base + sum_by (slack_in floor) (number_pairs (fixed_lists b)) ≤ floor.debt + (weight_of scale q + added_in order a)
        bound_of some scaled floor is =
            let bound = is (length joins.alone) all_pairs joins.alone all_matched refl (number_pairs (fixed_lists b)) [] fixed_part
            (record { others = joins.alone; whole = λ f. omega arith }) in
            omega (arith, bound, costs_no_more some scaled)

-- C.7: no candidate weighs less than a floor says that is for the next lower scoregroup too, however many are left over there
pub weighs_more_next : (facts : Facts) (reached : Reached) (scale : Scale) (lower : List ℕ) (scope : Scope) (wish : Option Wish) (order : Order) (shape : Shape)
    (a : Arrangement) → Fits (frame_of facts reached) shape → IsIn a (candidates_of facts reached shape) → is_wished wish a ≡ true
    → (b : Beginning) → Begins b a → Covers scope b → is_some scale.next ≡ true → IsScaleFor facts reached lower shape scale → (floor : FloorTable)
    → ((left : ℕ) → IsFloor (costs_in (record { weighing = record { facts = facts; reached = reached; lower = lower; scale = scale }; scope = scope; wish = wish; reach = Next; order = order }))
    (numbers_from 1 (count_below facts reached lower)) left floor)
    → floor.base + sum_by (slack_in floor) (number_pairs (fixed_lists b)) ≤ floor.debt + (weight_of scale (quality_of facts reached lower a) + added_in order a)
weighs_more_next facts reached scale lower scope wish order shape a fits m granted b begins covers some scaled floor is =
    let known = measured facts reached lower shape scale.next some scaled.next in
    bound_of facts reached scale lower scope wish order known.0 shape a fits m b begins covers granted (joins_below facts reached lower shape a known.0 known.1 m) some scaled
    floor is
