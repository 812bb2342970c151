-- A search of exchanges that begins at a set finds the sets from it on, by their keys.
use Rattle.std.proofs.Common.{◌≡◌, ℕ, suc, ◌+◌, ◌-◌, ◌<◌, ◌≤◌, Bool, true, not, List, [], ◌∷◌, ◌++◌, map, length, refl, sym, ◌∙◌, ap, arith, subst, inl, inr, Option, Some, None}
use Rattle.std.specs.List.Sorted.{IsStrictlyIncreasing}
use Rattle.std.proofs.lemmas.Bool.{true≢false, cases_order, not_from_true, not_from_false}
use Rattle.dutch_sequence.specs.declared.exchange.Side.TheVariants.{Out, In}
use Rattle.dutch_sequence.specs.Prelude.{Plan, entry, ahead, hits, lower, lowest, subsets, from_on, hinted, first_hint, IsIn, exchanges, exchange_cmp, sum_of, total, value_of, exchange_plan, kept_of, set_of, stage_left, sets_of_stages, sets_of_sizes, stages_of, least_difference, greatest_difference, most_exchanged, sets_ahead, out_places, in_places, exchange_path, exchange_difference}
use Rattle.std.specs.List.{filter}
use Rattle.dutch_sequence.proofs.HalfWalks.{Climbs, Admitted}
use Rattle.dutch_sequence.proofs.Orders.{is_before-lower, is_before-equal, IsIn-map, map-IsIn, IsIn-append, IsIn-front, IsIn-back, IsIn-filter, filter-IsIn, Ascends-append, Ascends-filter, Ascends-unique, is_before-asymmetric}
use Rattle.dutch_sequence.proofs.Found.{found}
use Rattle.dutch_sequence.proofs.FoundPaths.{admitted-found, found-ascends}
use Rattle.dutch_sequence.proofs.Sets.{in-sorted, sorted-in, Ascends-map}
use Rattle.dutch_sequence.proofs.Hinted.{hinted-ahead, hinted-hits}
use Rattle.dutch_sequence.proofs.FromOn.{is_late, from_on-filter, order-same, admitted-length, admitted-reaches}
use Rattle.dutch_sequence.proofs.ExchangeSets.{set-in_pool, exchange-of, places-of_exchange}
use Rattle.dutch_sequence.proofs.DifferenceRanges.{difference-least, difference-greatest}
use Rattle.dutch_sequence.proofs.StageSets.{Climbs-length, Exchange, path-set, no_difference, path-exchange, stage-exchange, stage-hits, exchange-admitted, key-at, stage-order, beyond_above, below_above, stages-in, in-stages, stages-ascend, in-sizes, size-exchange, sizes-ascend, sizes-sorted}
use Rattle.dutch_sequence.proofs.StageMoves.{sets-low}
use Rattle.dutch_sequence.proofs.ByKeys.{is_before, Ascends, turned_in, exchange_key}

module _ (pool : List ℕ) (k : ℕ) (rises : IsStrictlyIncreasing pool) (enough : k ≤ length pool) where
  abbrev key : List ℕ → List ℕ
  key = exchange_key pool k

  abbrev inn : ℕ → ℕ
  inn = value_of pool k In

  abbrev out : ℕ → ℕ
  out = value_of pool k Out

  -- the exchange of a set
  exchange-is : (set : List ℕ) → IsIn set (subsets pool k) → Exchange pool k (length (out_places pool k set)) (exchange_difference pool k set) set (out_places pool k set) (in_places pool k set)
  exchange-is set m =
      let e = exchange-of pool k rises enough set m in
      let same = places-of_exchange pool k rises enough set e.0 e.1 e.2 e.3 e.5 in
      record {
        outs_climb = subst (Climbs 0 k) (sym same.0) e.2;
        ins_climb = subst (Climbs 0 (length pool - k)) (sym same.1) e.3;
        outs_size = refl;
        ins_size = ap length same.1 ∙ sym e.4 ∙ ap length (sym same.0);
        differs = refl;
        is_set = e.5 ∙ ap (λ outs. kept_of pool k outs ++ map inn e.1) (sym same.0) ∙ ap (λ ins. kept_of pool k (out_places pool k set) ++ map inn ins) (sym same.1);
      }

  -- no more are moved out or in than there are
  pub exchange-room : (set : List ℕ) → IsIn set (subsets pool k) → (length (out_places pool k set) ≤ k) × (length (in_places pool k set) ≡ length (out_places pool k set)) × (length (out_places pool k set) ≤ length pool - k)
  exchange-room set m =
      let e = exchange-is set m in
      let out_room : 0 + length (out_places pool k set) ≤ k = Climbs-length 0 k (out_places pool k set) (omega arith) e.outs_climb in
      let in_room : 0 + length (in_places pool k set) ≤ length pool - k = Climbs-length 0 (length pool - k) (in_places pool k set) (omega arith) e.ins_climb in
      (omega arith, e.ins_size, omega (arith, e.ins_size))

  exchange-sorted : (size difference : ℕ) (set outs ins : List ℕ) → Exchange pool k size difference set outs ins → IsIn set (exchanges pool k)
  exchange-sorted size difference set outs ins e =
      in-sorted (exchange_cmp pool k) set (subsets pool k)
      (subst (λ s. IsIn s (subsets pool k)) (sym e.is_set) (set-in_pool pool k rises enough outs ins e.outs_climb e.ins_climb (e.outs_size ∙ sym e.ins_size)))

  -- fewer exchanged are before more, and then a smaller difference before a larger one
  before-larger : (size size' difference difference' : ℕ) (x y outs ins outs' ins' : List ℕ) → size < size' → Exchange pool k size difference x outs ins → Exchange pool k size' difference' y outs' ins' → is_before (key x) (key y) ≡ true
  before-larger size size' difference difference' x y outs ins outs' ins' less e e' =
      subst (λ z. is_before z (key y) ≡ true) (sym (key-at pool k rises enough size difference x outs ins e))
      (subst (λ z. is_before (size ∷ difference ∷ (map (λ i. turned_in (sum_of pool) (out i)) outs ++ map inn ins)) z ≡ true) (sym (key-at pool k rises enough size' difference' y outs' ins' e'))
      (is_before-lower size size' (difference ∷ (map (λ i. turned_in (sum_of pool) (out i)) outs ++ map inn ins)) (difference' ∷ (map (λ i. turned_in (sum_of pool) (out i)) outs' ++ map inn ins')) less))

  before-wider : (size difference difference' : ℕ) (x y outs ins outs' ins' : List ℕ) → difference < difference' → Exchange pool k size difference x outs ins → Exchange pool k size difference' y outs' ins' → is_before (key x) (key y) ≡ true
  before-wider size difference difference' x y outs ins outs' ins' less e e' =
      let one : List ℕ = map (λ i. turned_in (sum_of pool) (out i)) outs ++ map inn ins in
      let two : List ℕ = map (λ i. turned_in (sum_of pool) (out i)) outs' ++ map inn ins' in
      subst (λ z. is_before z (key y) ≡ true) (sym (key-at pool k rises enough size difference x outs ins e))
      (subst (λ z. is_before (size ∷ difference ∷ one) z ≡ true) (sym (key-at pool k rises enough size difference' y outs' ins' e'))
      (is_before-equal size (difference ∷ one) (difference' ∷ two) ∙ is_before-lower difference difference' one two less))

  -- a known next difference that none lies before
  lower-next : (difference : ℕ) (o : Option ℕ) → ((n : ℕ) → o ≡ Some n → difference < n) → lower (Some (suc difference)) o ≡ Some (suc difference)
  lower-next difference None above = refl
  lower-next difference (Some n) above = ap Some (omega (arith, above n refl))

  module _ (set : List ℕ) (given : IsIn set (subsets pool k)) where
    abbrev outs : List ℕ
    outs = out_places pool k set

    abbrev ins : List ℕ
    ins = in_places pool k set

    abbrev hint : List ℕ
    hint = exchange_path pool k set

    abbrev size : ℕ
    size = length outs

    abbrev difference : ℕ
    difference = exchange_difference pool k set

    abbrev stage : Plan
    stage = exchange_plan pool k size difference

    abbrev late : List ℕ → Bool
    late = is_late key set

    e : Exchange pool k size difference set outs ins
    e = exchange-is set given

    -- where nothing is exchanged, nothing differs
    none : size ≡ 0 → difference ≡ 0
    none empty = no_difference pool k rises enough outs ins empty (e.ins_size ∙ empty)

    none_later : (difference' : ℕ) → suc difference ≤ difference' → difference' < suc difference + (greatest_difference pool k size - difference) → size ≡ 0 → difference' ≡ 0
    none_later difference' from below' empty =
        let nothing : greatest_difference pool k size ≡ 0 = ap (greatest_difference pool k) empty in
        absurd (omega (arith, from, below', nothing))

    admitted : Admitted stage (size + size) [] hint
    admitted = exchange-admitted pool k rises enough size difference set outs ins e

    here : IsIn hint (found stage (size + size) [])
    here = admitted-found stage (size + size) [] hint admitted

    whole : size + size ≡ length hint
    whole = sym (admitted-length stage (size + size) [] hint admitted)

    hint-set : set_of pool k size hint ≡ set
    hint-set = path-set pool k rises enough size outs ins refl ∙ sym e.is_set

    -- what its stage still finds
    first_sets : List (List ℕ)
    first_sets = map (set_of pool k size) (filter (λ path. not (is_before path hint)) (found stage (size + size) []))

    stage-from : stage_left pool k hint size difference [] (first_hint hint) ≡ first_sets
    unfolding stage_left first_sets
    stage-from = ap (map (set_of pool k size)) (hinted-hits stage hint whole (admitted-reaches stage (size + size) [] hint admitted))

    next-from : lower (Some (suc difference)) (lowest (ahead (hinted hint stage) [] (first_hint hint))) ≡ Some (suc difference)
    next-from =
        lower-next difference (lowest (ahead (hinted hint stage) [] (first_hint hint)))
        (λ n is. below_above pool k rises enough (hinted hint stage) difference (beyond_above pool k rises enough size difference) (size + size) [] (entry (hinted hint stage) (size + size) []) n
        (ap lowest (sym (hinted-ahead stage hint whole)) ∙ is))

    second_sets : List (List ℕ)
    second_sets = sets_of_stages pool k (greatest_difference pool k size - difference) size (suc difference) (Some (suc difference))

    third_sets : List (List ℕ)
    third_sets = sets_of_sizes pool k (most_exchanged pool k - size) (suc size)

    -- each part has exchanges of its kind, and each is late
    path-late : (path : List ℕ) → IsIn path (found stage (size + size) []) → late (set_of pool k size path) ≡ not (is_before path hint)
    path-late path m =
        ap (λ s. not (is_before (key (set_of pool k size path)) (key s))) (sym hint-set)
        ∙ ap not (sym (order-same key (set_of pool k size) (found stage (size + size) []) (stage-order pool k rises enough size difference none) path hint m here))

    first-in : (x : List ℕ) → IsIn x first_sets → (late x ≡ true) × ((outs' : List ℕ) × (ins' : List ℕ) × Exchange pool k size difference x outs' ins')
    unfolding first_sets
    first-in x m =
        let from = IsIn-map (set_of pool k size) x (filter (λ path. not (is_before path hint)) (found stage (size + size) [])) m in
        let kept = IsIn-filter (λ path. not (is_before path hint)) from.0 (found stage (size + size) []) from.2 in
        let path = path-exchange pool k rises enough size difference none from.0 kept.0 in (
          ap late from.1 ∙ path-late from.0 kept.0 ∙ kept.1,
          (path.0, path.1, subst (λ s. Exchange pool k size difference s path.0 path.1) (sym from.1) path.3),
        )

    second-in : (x : List ℕ) → IsIn x second_sets → (difference' : ℕ) × (outs' : List ℕ) × (ins' : List ℕ) × (difference < difference') × Exchange pool k size difference' x outs' ins'
    unfolding second_sets
    second-in x m =
        let later = stages-in pool k rises enough (greatest_difference pool k size - difference) size (suc difference) (Some (suc difference)) x m in
        let there = stage-exchange pool k rises enough size later.0 (none_later later.0 later.1 later.2) x later.3 in
        (later.0, there.0, there.1, omega (arith, later.1), there.2)

    third-in : (x : List ℕ) → IsIn x third_sets → (size' : ℕ) × (difference' : ℕ) × (outs' : List ℕ) × (ins' : List ℕ) × (size < size') × Exchange pool k size' difference' x outs' ins'
    unfolding third_sets
    third-in x m =
        let there = size-exchange pool k rises enough (most_exchanged pool k - size) (suc size) x m in
        (there.0, there.1, there.2, there.3, omega (arith, there.4), there.5)

    after-late : (x : List ℕ) → is_before (key set) (key x) ≡ true → late x ≡ true
    after-late x before = not_from_false (is_before (key x) (key set)) (is_before-asymmetric (key set) (key x) before)

    parts-ascend : Ascends key (first_sets ++ (second_sets ++ third_sets))
    unfolding first_sets second_sets third_sets
    parts-ascend =
        let first_ascend : Ascends key first_sets =
        Ascends-map key (set_of pool k size) (filter (λ path. not (is_before path hint)) (found stage (size + size) []))
        (Ascends-filter (λ path. path) (λ path. not (is_before path hint)) (found stage (size + size) []) (found-ascends stage (size + size) []))
        (λ p q m n. stage-order pool k rises enough size difference none p q
        (IsIn-filter (λ path. not (is_before path hint)) p (found stage (size + size) []) m).0
        (IsIn-filter (λ path. not (is_before path hint)) q (found stage (size + size) []) n).0) in
        let rest_ascend : Ascends key (second_sets ++ third_sets) =
        Ascends-append key second_sets third_sets
        (stages-ascend pool k rises enough (greatest_difference pool k size - difference) size (suc difference) (Some (suc difference)) none_later)
        (sizes-ascend pool k rises enough (most_exchanged pool k - size) (suc size))
        (λ x y m n.
        let one = second-in x m in
        let two = third-in y n in
        before-larger size two.0 one.0 two.1 x y one.1 one.2 two.2 two.3 two.4 one.4 two.5) in
        Ascends-append key first_sets (second_sets ++ third_sets) first_ascend rest_ascend
        (λ x y m n.
        let one = (first-in x m).1 in
        elim (IsIn-append y second_sets third_sets n) [
          | inl second ↦ (let two = second-in y second in before-wider size difference two.0 x y one.0 one.1 two.1 two.2 two.3 one.2 two.4)
          | inr third ↦ (let two = third-in y third in before-larger size two.0 difference two.1 x y one.0 one.1 two.2 two.3 two.4 one.2 two.5)
        ])

    -- the parts have what is not before the set
    parts-late : (x : List ℕ) → IsIn x (first_sets ++ (second_sets ++ third_sets)) → IsIn x (filter late (exchanges pool k))
    parts-late x m =
        elim (IsIn-append x first_sets (second_sets ++ third_sets) m) [
          | inl first ↦ (let one = first-in x first in filter-IsIn late x (exchanges pool k) (exchange-sorted size difference x one.1.0 one.1.1 one.1.2) one.0)
          | inr rest ↦ elim (IsIn-append x second_sets third_sets rest) [
            | inl second ↦ (let two = second-in x second in
                filter-IsIn late x (exchanges pool k) (exchange-sorted size two.0 x two.1 two.2 two.4)
                (after-late x (before-wider size difference two.0 set x outs ins two.1 two.2 two.3 e two.4)))
            | inr third ↦ (let two = third-in x third in
                filter-IsIn late x (exchanges pool k) (exchange-sorted two.0 two.1 x two.2 two.3 two.5)
                (after-late x (before-larger size two.0 difference two.1 set x outs ins two.2 two.3 two.4 e two.5)))
          ]
        ]

    not-late : (x : List ℕ) → is_before (key x) (key set) ≡ true → late x ≡ true → ⊥
    not-late x before is = true≢false (sym is ∙ not_from_true (is_before (key x) (key set)) before)

    late-first : (x outs' ins' : List ℕ) → Exchange pool k size difference x outs' ins' → late x ≡ true → IsIn x first_sets
    unfolding first_sets
    late-first x outs' ins' e' is =
        let path : List ℕ = outs' ++ ins' in
        let there : IsIn path (found stage (size + size) []) = admitted-found stage (size + size) [] path (exchange-admitted pool k rises enough size difference x outs' ins' e') in
        let made : set_of pool k size path ≡ x = path-set pool k rises enough size outs' ins' e'.outs_size ∙ sym e'.is_set in
        subst (λ s. IsIn s (map (set_of pool k size) (filter (λ path. not (is_before path hint)) (found stage (size + size) [])))) made
        (map-IsIn (set_of pool k size) path (filter (λ path. not (is_before path hint)) (found stage (size + size) []))
        (filter-IsIn (λ path. not (is_before path hint)) path (found stage (size + size) []) there
        (sym (path-late path there) ∙ ap late made ∙ is)))

    late-second : (difference' : ℕ) (x outs' ins' : List ℕ) → Exchange pool k size difference' x outs' ins' → difference < difference' → IsIn x second_sets
    unfolding second_sets
    late-second difference' x outs' ins' e' less =
        let greatest : total inn ins' - total out outs' ≤ greatest_difference pool k size = difference-greatest pool k rises enough outs' ins' size e'.outs_size e'.ins_size e'.outs_climb e'.ins_climb in
        in-stages pool k rises enough (greatest_difference pool k size - difference) size (suc difference) difference' (suc difference) (Some (suc difference)) x outs' ins' e' refl (omega arith) (omega arith)
        (omega (arith, greatest, e'.differs, less))

    late-third : (size' difference' : ℕ) (x outs' ins' : List ℕ) → Exchange pool k size' difference' x outs' ins' → size < size' → IsIn x third_sets
    unfolding third_sets
    late-third size' difference' x outs' ins' e' less =
        let least : least_difference pool k size' ≤ total inn ins' - total out outs' = difference-least pool k rises enough outs' ins' size' e'.outs_size e'.ins_size e'.outs_climb e'.ins_climb in
        let greatest : total inn ins' - total out outs' ≤ greatest_difference pool k size' = difference-greatest pool k rises enough outs' ins' size' e'.outs_size e'.ins_size e'.outs_climb e'.ins_climb in
        let out_room : 0 + length outs' ≤ k = Climbs-length 0 k outs' (omega arith) e'.outs_climb in
        let in_room : 0 + length ins' ≤ length pool - k = Climbs-length 0 (length pool - k) ins' (omega arith) e'.ins_climb in
        in-sizes pool k rises enough (most_exchanged pool k - size) (suc size) size' x (omega (arith, less)) (omega (arith, less, e'.outs_size, e'.ins_size))
        (in-stages pool k rises enough (stages_of pool k size') size' (least_difference pool k size') difference' (least_difference pool k size') (Some (least_difference pool k size')) x outs' ins' e' refl (omega (arith, least, e'.differs)) (omega (arith, least, e'.differs)) (omega (arith, least, greatest, e'.differs)))

    late-parts : (x : List ℕ) → IsIn x (filter late (exchanges pool k)) → IsIn x (first_sets ++ (second_sets ++ third_sets))
    late-parts x m =
        let kept = IsIn-filter late x (exchanges pool k) m in
        let outs' : List ℕ = out_places pool k x in
        let ins' : List ℕ = in_places pool k x in
        let size' : ℕ = length outs' in
        let difference' : ℕ = exchange_difference pool k x in
        let e' : Exchange pool k size' difference' x outs' ins' = exchange-is x (sorted-in (exchange_cmp pool k) x (subsets pool k) kept.0) in
        elim (cases_order size size') [
          | inl same_size ↦
              let here' : Exchange pool k size difference' x outs' ins' = subst (λ s. Exchange pool k s difference' x outs' ins') (sym same_size) e' in
              elim (cases_order difference difference') [
                | inl same ↦
                    IsIn-front x first_sets (second_sets ++ third_sets)
                    (late-first x outs' ins' (subst (λ d. Exchange pool k size d x outs' ins') (sym same) here') kept.1)
                | inr (inl less) ↦ IsIn-back x first_sets (second_sets ++ third_sets) (IsIn-front x second_sets third_sets (late-second difference' x outs' ins' here' less))
                | inr (inr more) ↦ absurd (not-late x (before-wider size difference' difference x set outs' ins' outs ins more here' e) kept.1)
              ]
          | inr (inl less) ↦ IsIn-back x first_sets (second_sets ++ third_sets) (IsIn-back x second_sets third_sets (late-third size' difference' x outs' ins' e' less))
          | inr (inr more) ↦ absurd (not-late x (before-larger size' size difference' difference x set outs' ins' outs ins more e' e) kept.1)
        ]

    -- no set is passed over, and each path to come is one of its stage
    pub late-known : sets_of_stages pool k (greatest_difference pool k size - difference) size (suc difference) (lower (Some (suc difference)) (lowest (ahead (hinted hint stage) [] (first_hint hint)))) ≡ sets_of_stages pool k (greatest_difference pool k size - difference) size (suc difference) (Some 0)
    late-known =
        ap (sets_of_stages pool k (greatest_difference pool k size - difference) size (suc difference)) next-from
        ∙ sets-low pool k size (greatest_difference pool k size - difference) (suc difference) (suc difference) 0 (omega arith) (omega arith)

    pub late-own : (x : List ℕ) → IsIn x (hits (ahead (hinted hint stage) [] (first_hint hint))) → IsIn x (hits (ahead stage [] 0))
    late-own x m =
        subst (IsIn x) (sym (stage-hits pool k rises enough size difference))
        (IsIn-filter (λ path. not (is_before path hint)) x (found stage (size + size) [])
        (subst (IsIn x) (hinted-hits stage hint whole (admitted-reaches stage (size + size) [] hint admitted)) m)).0

    -- a search that begins at a set finds those from it on
    pub exchanges-from : sets_ahead pool k hint size difference [] (first_hint hint) (Some (suc difference)) ≡ from_on set (exchanges pool k)
    unfolding second_sets third_sets sets_ahead
    exchanges-from =
        let ascend : Ascends key (exchanges pool k) = subst (Ascends key) (sizes-sorted pool k rises enough) (sizes-ascend pool k rises enough (suc (most_exchanged pool k)) 0) in
        ap (λ sets. sets ++ (sets_of_stages pool k (greatest_difference pool k size - difference) size (suc difference) (lower (Some (suc difference)) (lowest (ahead (hinted hint stage) [] (first_hint hint)))) ++ third_sets)) stage-from
        ∙ ap (λ next. first_sets ++ (sets_of_stages pool k (greatest_difference pool k size - difference) size (suc difference) next ++ third_sets)) next-from
        ∙ Ascends-unique key (first_sets ++ (second_sets ++ third_sets)) (filter late (exchanges pool k)) parts-ascend (Ascends-filter key late (exchanges pool k) ascend) parts-late late-parts
        ∙ sym (from_on-filter key set (exchanges pool k) ascend (in-sorted (exchange_cmp pool k) set (subsets pool k) given))
