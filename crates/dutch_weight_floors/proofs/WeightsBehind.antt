-- No candidate behind a beginning weighs less than a floor says (C.04.3 C.6, C.8 to C.19). So none is better than a quality that weighs no
-- more, and one that weighs less is better than all.
use Rattle.std.proofs.Common.{◌≡◌, ℕ, zero, suc, ◌+◌, ◌-◌, ◌*◌, ◌%◌, ◌<◌, ◌≤◌, true, false, not, cond, ◌||◌, List, [], ◌∷◌, ◌++◌, All, sum_by, map, drop, length, Option, inl, inr, refl, sym, ap, subst, ◌∙◌, arith}
use Rattle.std.specs.List.{AllByRecursion}
use Rattle.std.specs.Option.{ForSome}
use Rattle.std.proofs.lemmas.Bool.{eq-eqb, ne_eqb}
use Rattle.dual.specs.declared.table.CertificateTable.{CertificateTable}
use Rattle.dual.specs.Prelude.{Certificate, FloorTable, IsChecked, IsFloor, certificate_in, slack_in, slack_left_in, Costs, IsPartOf, cost}
use Rattle.dual.proofs.Sums.{sum_none}
use Rattle.dutch_arrangements.specs.declared.bracket.Shape.{Shape}
use Rattle.dutch_arrangements.specs.declared.prefix.Filling.{Filling}
use Rattle.dutch_arrangements.specs.declared.prefix.Filling.TheVariants.{ChoosingS1, S2, S2r}
use Rattle.dutch_arrangements.specs.Prelude.{Arrangement, Fits, Frame, arrangements, down, left_of, remainder_pairs, residents_of, numbers_from, subsets, IsIn, Begins, BeginsAt, Beginning}
use Rattle.dutch_sequence.proofs.Members.{length-numbers}
use Rattle.dutch_sequence.proofs.Orders.{IsIn-append, IsIn-map}
use Rattle.dutch_player.specs.Prelude.{Facts}
use Rattle.dutch_candidates.specs.declared.wish.Wish.{Wish}
use Rattle.dutch_bracket.specs.Prelude.{fixed_lists, Quality, is_better, next_in, IsOf, Reached, frame_of, candidates_of, completable, downfloaters, is_penultimate, quality_of, number_pairs}
use Rattle.dutch_candidates.specs.Wishes.{is_wished}
use Rattle.dutch_weight_floors.specs.Prelude.{Covers, Scope, Order, IsFloorBy, MeasuresNext, Scoped, all_numbers, costs_in, kept_by, without_left, AreFloors, IsCheckedFor, IsCheckedIn, IsChoosable, IsFloorFor, IsScaled, IsWeightFloor, ScopedFloor, Weighed, added_in, bound_behind, is_first, left_known, passed_over, scoped_by, weight_in}
use Rattle.dutch_weighing.specs.Prelude.{HasDigits, IsOn, IsScale, IsScaleFor, Scale, numbers, weighing, weight_above, weight_of, HasNoBetterOn}
use Rattle.dutch_weight_floors.specs.declared.scoped.Reach.{Reach}
use Rattle.dutch_weight_floors.specs.declared.scoped.Reach.TheVariants.{Bracket, Lower, Next}
use Rattle.dutch_bracket.proofs.ArrangementParts.{lists_of, numbers_above, numbers_rise, numbers_within, parts_of, subset_members, subset_whole}
use Rattle.dutch_weighing.proofs.C06ToC19Weights.{IsSmallBelow, candidate_ordered, candidate_weighs}
use Rattle.dutch_weight_floors.proofs.C04Lower.{weighs_more_below}
use Rattle.dutch_weight_floors.proofs.C07NextWeights.{small_below, weighs_more_next}
use Rattle.dutch_weighing.proofs.CandidateMatchings.{digits_are_small, each, left_over, part_of, total_sum}
use Rattle.dutch_weight_floors.proofs.D02Orders.{pairs_cost}
use Rattle.dutch_candidates.proofs.FixedListsLemmas.{has_fixed_pairs}
use Rattle.dutch_bracket.proofs.LegalPairs.{legal_of}
use Rattle.dutch_bracket.proofs.PsdParts.{down_parts}
use Rattle.dutch_weight_floors.proofs.ScopedMatchings.{is_matching_in, s1_moved_down}
use Rattle.dutch_bracket.proofs.QualityOrder.{total as in_order}
use Rattle.dutch_bracket.proofs.Totals.{total, total_append}
use Rattle.dutch_weighing.proofs.WrittenNumbers.{behind_psd, not_lighter}

-- ---- those whom an S1 passes over are those whom it leaves

-- none is met in a list whose members are all higher
none_met : (first : ℕ) (list : List ℕ) → AllByRecursion (λ y. first < y) list → is_first first list ≡ false
none_met first [] above = refl
none_met first (x ∷ list) above = ne_eqb x first (λ e. let h : first < x = above.0 in omega (arith, h, e))

-- what is passed over if one is met, and if none is
pub at_met : (list : List ℕ) (first count : ℕ) → is_first first list ≡ true → passed_over list first (suc count) ≡ passed_over (drop 1 list) (suc first) count
at_met list first count met = ap (λ t. cond t (passed_over (drop 1 list) (suc first) count) (first ∷ passed_over list (suc first) count)) met

pub at_none : (list : List ℕ) (first count : ℕ) → is_first first list ≡ false → passed_over list first (suc count) ≡ first ∷ passed_over list (suc first) count
at_none list first count none = ap (λ t. cond t (passed_over (drop 1 list) (suc first) count) (first ∷ passed_over list (suc first) count)) none

module _ (w : ℕ → ℕ) where
  over_none : (first count : ℕ) → total w (passed_over [] first count) ≡ total w (numbers_from first count)
  over_none first zero = refl
  over_none first (suc count) = ap (λ n. w first + n) (over_none (suc first) count)

  over_whole : (first count k : ℕ) (set : List ℕ) → IsIn set (subsets (numbers_from first count) k)
      → total w (passed_over set first count) + total w set ≡ total w (numbers_from first count)
  over_whole first count zero set (inl same) =
      omega (arith, ap (λ s. total w (passed_over s first count)) same, ap (total w) same, over_none first count)
  over_whole first count zero set (inr none) = absurd none
  over_whole first zero (suc k) set m = absurd m
  over_whole first (suc count) (suc k) set m =
      let others : List ℕ = numbers_from (suc first) count in
      elim (IsIn-append set (map (λ rest. first ∷ rest) (subsets others k)) (subsets others (suc k)) m) [
        | inl with' ↦
            let from = IsIn-map (λ rest. first ∷ rest) set (subsets others k) with' in
            let met = at_met (first ∷ from.0) first count (eq-eqb first first refl) in
            omega (
              arith,
              ap (λ s. total w (passed_over s first (suc count))) from.1,
              ap (total w) met,
              ap (total w) from.1,
              over_whole (suc first) count k from.0 from.2,
            )
        | inr out ↦
            let above = subset_members (λ y. first < y) others (suc k) set (numbers_above first (suc first) count (omega arith)) out in
            omega (arith, ap (total w) (at_none set first count (none_met first set above)), over_whole (suc first) count (suc k) set out)
      ]

module _ (frame : Frame) (shape : Shape) (a : Arrangement) (within : frame.mdps ≤ length frame.scores) (m : IsIn a (arrangements frame shape)) where
  over_left : (w : ℕ → ℕ) → total w (passed_over a.s1 1 frame.mdps) ≡ total w (left_of (numbers_from 1 frame.mdps) a.s1)
  over_left w =
      let lists = lists_of frame shape a within m in
      omega (
        arith,
        over_whole w 1 frame.mdps shape.mdps a.s1 lists.s1,
        subset_whole w (numbers_from 1 frame.mdps) shape.mdps a.s1 (numbers_rise 1 frame.mdps) lists.s1,
      )

  abbrev residents_left : List ℕ
  residents_left = left_of (left_of (left_of (residents_of frame) a.s2) a.s1r) a.s2r

  -- the moved-down players outside of S1 are among the downfloaters
  outside_part : (s1 : List ℕ) → s1 ≡ a.s1 → IsPartOf (passed_over s1 1 frame.mdps) (down frame a)
  outside_part s1 same = record {
    others = residents_left;
    whole = λ w. omega (
      arith,
      sym (total_sum w (passed_over s1 1 frame.mdps)),
      ap (λ s. total w (passed_over s 1 frame.mdps)) same,
      over_left w,
      total_sum w residents_left,
      total_append w (left_of (numbers_from 1 frame.mdps) a.s1) residents_left,
      ap (total w) (down_parts frame shape.mdps (remainder_pairs shape) a within (parts_of frame shape a within m)),
      total_sum w (down frame a),
    );
  }

  left_part : (filling : Filling) (lists : Arrangement) → BeginsAt filling lists a → IsPartOf (left_known filling frame.mdps lists.s1) (down frame a)
  left_part ChoosingS1 lists begins = record { others = down frame a; whole = λ w. omega arith }
  left_part S2 lists begins = outside_part lists.s1 begins.0
  left_part S2r lists begins = outside_part lists.s1 begins.0

-- ---- what a floor says of a candidate

module _ (facts : Facts) (reached : Reached) (scale : Scale) (lower : List ℕ) (shape : Shape) (a : Arrangement) (of' : IsOf facts reached)
    (fits : Fits (frame_of facts reached) shape) (m : IsIn a (candidates_of facts reached shape)) where
  -- C.6, C.8 to C.19: a candidate behind a beginning that grants what is wished weighs no less than a floor says
  pub weighs_more : (b : Beginning) → Begins b a → (scope : Scope) → Covers scope b → (wish : Option Wish) → is_wished wish a ≡ true → (order : Order)
      → (floor : FloorTable)
      → IsFloor (costs_in (record { weighing = record { facts = facts; reached = reached; lower = lower; scale = scale }; scope = scope; wish = wish; reach = Bracket; order = order }))
      (numbers reached) (length reached.seats - 2 * shape.pairs) floor
      → bound_behind floor reached.mdps b ≤ floor.debt + (weight_of scale (quality_of facts reached lower a) + added_in order a)
  weighs_more b begins scope covers wish granted order floor is =
      let frame : Frame = frame_of facts reached in
      let costs : Costs = costs_in (record { weighing = record { facts = facts; reached = reached; lower = lower; scale = scale }; scope = scope; wish = wish; reach = Bracket; order = order }) in
      let bound : bound_behind floor reached.mdps b ≤ floor.debt + cost costs (number_pairs a) (down frame a) =
      is (number_pairs a) (down frame a) (is_matching_in facts reached scale lower shape a of' fits m b begins scope covers wish granted order)
      (left_over facts reached scale lower shape a of' fits m)
      (number_pairs (fixed_lists b)) (left_known b.filling reached.mdps b.lists.s1)
      (part_of (fixed_lists b) a (has_fixed_pairs b.filling b.lists a begins))
      (left_part frame shape a of'.sound.within (legal_of facts reached shape a m).arranged b.filling b.lists begins) in
      omega (
        arith,
        bound,
        candidate_weighs facts reached scale lower a,
        pairs_cost reached.mdps order (weighing facts reached scale).weight a (s1_moved_down frame shape a of'.sound.within (legal_of facts reached shape a m).arranged),
      )

module _ (facts : Facts) (reached : Reached) (scale : Scale) (lower : List ℕ) (shape : Shape) (a : Arrangement) (of' : IsOf facts reached)
    (fits : Fits (frame_of facts reached) shape) (m : IsIn a (candidates_of facts reached shape)) (falls : IsScale scale)
    (scaled : IsScaleFor facts reached lower shape scale) (f : Quality) (on : IsOn scale f) where
  abbrev here : Quality
  here = quality_of facts reached lower a

  small : ForSome scale.next (IsSmallBelow here)
  small = small_below facts reached lower shape scale a m scaled

  has_digits : HasDigits scale here
  has_digits = digits_are_small facts reached scale lower shape a of' fits m scaled small

  -- C.6 to C.19: where it weighs no less than a quality, and has no better value of the next bracket, it is not better
  pub no_lighter : weight_of scale f ≤ weight_of scale here → HasNoBetterOn scale.next here (next_in f) → is_better here f ≡ false
  no_lighter heavy next = not_lighter scale falls f here on (candidate_ordered facts reached scale lower a small) has_digits heavy next

  -- C.6: nor is it where it weighs no less than all with a higher PSD
  pub behind_all : weight_above scale f ≤ weight_of scale here → is_better here f ≡ false
  behind_all heavy = behind_psd scale falls f here on (candidate_ordered facts reached scale lower a small) has_digits heavy

  -- and if it weighs more, the quality is better than it
  pub then_worse : weight_of scale f < weight_of scale here → is_better here f ≡ false → is_better f here ≡ true
  then_worse heavier not = elim (in_order f here) [
    | inl same ↦ absurd (omega (arith, heavier, ap (weight_of scale) same))
    | inr (inl better) ↦ better
    | inr (inr worse) ↦ absurd (let bad : true ≡ false = sym worse ∙ not in cc)
  ]

-- ---- floors that are put

-- all numbers of a bracket are known
pub numbers_known : (n : ℕ) → All (λ a. (0 < a) × (a ≤ n)) (numbers_from 1 n)
numbers_known n = each (λ a. (0 < a) × (a ≤ n)) (numbers_from 1 n) (numbers_within 0 1 n n (omega arith) (omega arith))

-- a floor that adds nothing for whoever is left over is one of a bracket, if all that it says of known pairs holds
kept_put : (w : Weighed) (scope : Scope) (order : Order) (reach : Reach) (table : CertificateTable) (floor : FloorTable)
    → ((b : Beginning) (a : Arrangement) → IsChoosable w a → Begins b a → Covers scope b
    → floor.base + sum_by (slack_in floor) (number_pairs (fixed_lists b)) ≤ floor.debt + (weight_in w a + added_in order a))
    → IsWeightFloor w (record { scope = scope; order = order; reach = reach; table = table; floor = without_left floor })
kept_put w scope order reach table floor bound = λ b a is_one begins covers.
    let adds_none : sum_by (slack_left_in (without_left floor)) (left_known b.filling w.reached.mdps b.lists.s1) ≡ 0 =
    sum_none (left_known b.filling w.reached.mdps b.lists.s1) in
    omega (arith, bound b a is_one begins covers, adds_none)

-- what is kept of a floor by matchings of a scope is one of the bracket's weights
put_by : (w : Weighed) → IsScaled w → (reach : Reach) → (reach ≡ Lower → is_penultimate w.reached.kind ≡ true) → MeasuresNext reach w.scale
    → (scope : Scope) (order : Order) (table : CertificateTable) (floor : FloorTable)
    → IsFloorBy reach (scoped_by w scope reach order) (length w.reached.seats - 2 * w.shape.pairs) floor
    → IsWeightFloor w (record { scope = scope; order = order; reach = reach; table = table; floor = kept_by reach floor })
put_by w scaled Bracket penultimate next scope order table floor is = λ b a is_one begins covers.
    weighs_more w.facts w.reached w.scale w.lower w.shape a is_one.of is_one.fits is_one.listed b begins scope covers w.wish is_one.wished order floor is
put_by w scaled Lower penultimate next scope order table floor is =
    let s : Scoped = scoped_by w scope Lower order in
    let held = subst (λ (n : ℕ). IsFloor (costs_in s) (all_numbers s) (n % 2) floor) (length-numbers 1 (length w.reached.seats + length w.lower)) is in
    kept_put w scope order Lower table floor (λ b a is_one begins covers.
    let can : completable w.facts (downfloaters w.facts w.reached a ++ w.lower) ≡ true =
    subst (λ t. (not t || completable w.facts (downfloaters w.facts w.reached a ++ w.lower)) ≡ true) (penultimate refl) is_one.can in
    weighs_more_below w.facts w.reached w.scale w.lower scope w.wish order w.shape a is_one.of is_one.fits is_one.listed b begins covers is_one.wished can floor held)
put_by w scaled Next penultimate next scope order table floor is =
    kept_put w scope order Next table floor (λ b a is_one begins covers.
    weighs_more_next w.facts w.reached w.scale w.lower scope w.wish order w.shape a is_one.fits is_one.listed is_one.wished b begins covers next scaled floor is)

-- the same where the scope that is kept is a copy
pub floor_put : (w : Weighed) → IsScaled w → (kept : ScopedFloor) → (kept.reach ≡ Lower → is_penultimate w.reached.kind ≡ true)
    → MeasuresNext kept.reach w.scale → (s : Scoped) (floor : FloorTable) → s ≡ scoped_by w kept.scope kept.reach kept.order
    → kept.floor ≡ kept_by kept.reach floor → IsFloorFor w s (certificate_in kept.table) floor → IsWeightFloor w kept
floor_put w scaled kept penultimate next s floor scoped kept_is is =
    let held = subst (λ (s : Scoped). IsFloorBy s.reach s (length w.reached.seats - 2 * w.shape.pairs) floor) scoped is.least in
    subst (λ (f : FloorTable).
    IsWeightFloor w (record { scope = kept.scope; order = kept.order; reach = kept.reach; table = kept.table; floor = f })) (sym kept_is)
    (put_by w scaled kept.reach penultimate next kept.scope kept.order kept.table floor held)

-- what is kept of a floor tells the slack of each pair as the floor does
kept_checked : (costs : Costs) (players : List ℕ) (certificate : Certificate) (reach : Reach) (floor : FloorTable)
    → IsChecked costs players certificate floor → IsChecked costs players certificate (kept_by reach floor)
kept_checked costs players certificate Bracket floor is = is
kept_checked costs players certificate Lower floor is = record { pairs = is.pairs; below = is.below; tells = is.tells }
kept_checked costs players certificate Next floor is = record { pairs = is.pairs; below = is.below; tells = is.tells }

pub checked_put : (w : Weighed) (kept : ScopedFloor) (s : Scoped) (floor : FloorTable) → s ≡ scoped_by w kept.scope kept.reach kept.order
    → kept.floor ≡ kept_by kept.reach floor → IsFloorFor w s (certificate_in kept.table) floor → IsCheckedIn w kept
checked_put w kept s floor scoped kept_is is =
    let here : Scoped = scoped_by w kept.scope kept.reach kept.order in
    let held = subst (λ (s : Scoped). IsCheckedFor s (certificate_in kept.table) floor) scoped is.checked in
    record {
      pairs = subst (λ (f : FloorTable). IsCheckedFor here (certificate_in kept.table) f) (sym kept_is)
          (kept_checked (costs_in here) (all_numbers here) (certificate_in kept.table) kept.reach floor held);
    }

-- some of them are floors too
pub fewer : (w : Weighed) (old new : List ScopedFloor) → AreFloors w old
    → ((u : Weighed) → All (IsWeightFloor u) old → All (IsWeightFloor u) new)
    → ((u : Weighed) → All (IsCheckedIn u) old → All (IsCheckedIn u) new) → AreFloors w new
fewer w old new held holds checks = record { scaled = held.scaled; hold = holds w held.hold; checked = checks w held.checked }

-- floors with one more are floors, where it is one
pub one_more : (v w : Weighed) (old new : List ScopedFloor) (floor : ScopedFloor) → v ≡ w → AreFloors v old
    → ((u : Weighed) → All (IsWeightFloor u) old → IsWeightFloor u floor → All (IsWeightFloor u) new)
    → ((u : Weighed) → All (IsCheckedIn u) old → IsCheckedIn u floor → All (IsCheckedIn u) new)
    → IsWeightFloor w floor → IsCheckedIn w floor → AreFloors v new
one_more v w old new floor same held holds checks is is_checked = record {
  scaled = held.scaled;
  hold = holds v held.hold (subst (λ (u : Weighed). IsWeightFloor u floor) (sym same) is);
  checked = checks v held.checked (subst (λ (u : Weighed). IsCheckedIn u floor) (sym same) is_checked);
}
