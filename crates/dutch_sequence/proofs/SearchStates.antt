-- Where a search of exchanges stands: what is known of what lies beyond its stage, and which paths are to come.
use Rattle.std.proofs.Common.{◌≡◌, ℕ, suc, ◌-◌, ◌<◌, ◌≤◌, List, [], ◌++◌, map, length, refl, sym, ◌∙◌, ap, arith, subst, Option, Some, None}
use Rattle.std.specs.List.Sorted.{IsStrictlyIncreasing}
use Rattle.dutch_sequence.specs.Prelude.{GoesOn, IsExchange, class_from, subsets, hinted, first_hint, IsIn, IsKnown, IsOfStage, IsOwn, IsSearchState, exchange_difference, exchange_path, exchange_plan, greatest_difference, most_exchanged, out_places, set_of, sets_ahead, sets_from, sets_of_sizes, sets_of_stages, stage_left, Passes, Plan, after, ahead, below, hits, lower, lowest, beyond_all}
use Rattle.dutch_sequence.specs.declared.exchange.SearchState.{SearchState}
use Rattle.dutch_sequence.specs.declared.numbers.TheConstants.{LIMIT}
use Rattle.dutch_sequence.specs.declared.search.Descent.{Descent}
use Rattle.dutch_sequence.proofs.Asked.{path-of_class}
use Rattle.dutch_sequence.proofs.LateSets.{late-known, late-own}
use Rattle.dutch_sequence.proofs.Moves.{lower-zero}
use Rattle.dutch_sequence.proofs.Skipping.{all-members, passes-before, passes-same, passes-weaker, passes-map}
use Rattle.dutch_sequence.proofs.StageSets.{stages-known}

-- where nothing is exchanged, no stage follows
pub none_after : (pool : List ℕ) (k size difference : ℕ) → size ≡ 0 → greatest_difference pool k size - difference ≡ 0
none_after pool k size difference empty =
    let nothing : greatest_difference pool k size ≡ 0 = ap (greatest_difference pool k) empty in
    omega (arith, nothing)

-- a stage that has not begun
pub new-state : (pool : List ℕ) (k : ℕ) → IsStrictlyIncreasing pool → k ≤ length pool → (state : SearchState) → state.hint.items ≡ [] → state.descent.path ≡ [] → state.descent.number ≡ 0 → state.descent.beyond ≡ None → IsKnown pool k state × IsOwn pool k state
new-state pool k rises enough state no_hint no_path no_number no_beyond =
    let plan : Plan = exchange_plan pool k state.size state.difference in
    let start : ahead (hinted state.hint.items plan) state.descent.path state.descent.number ≡ ahead plan [] 0 =
    ap (λ hint. ahead (hinted hint plan) state.descent.path state.descent.number) no_hint
    ∙ ap (λ path. ahead plan path state.descent.number) no_path
    ∙ ap (λ number. ahead plan [] number) no_number in
    let count : ℕ = greatest_difference pool k state.size - state.difference in (
      ap (sets_of_stages pool k count state.size (suc state.difference))
          (ap (λ o. lower o (lowest (ahead (hinted state.hint.items plan) state.descent.path state.descent.number))) no_beyond ∙ ap lowest start)
          ∙ stages-known pool k rises enough count state.size state.difference (none_after pool k state.size state.difference),
      all-members (IsOfStage pool k state.size state.difference) (hits (ahead (hinted state.hint.items plan) state.descent.path state.descent.number))
          (λ x m. subst (IsIn x) (ap hits start) m),
    )

-- a stage that begins at a set
pub late-state : (pool : List ℕ) (k : ℕ) → IsStrictlyIncreasing pool → k ≤ length pool → (set : List ℕ) → IsIn set (subsets pool k) → (copy : List ℕ) → copy ≡ pool → (state : SearchState) → state.size ≡ length (out_places pool k set) → state.difference ≡ exchange_difference pool k set → state.hint.items ≡ exchange_path pool k set → state.descent.path ≡ [] → state.descent.number ≡ first_hint (exchange_path pool k set) → state.descent.beyond ≡ Some (suc (exchange_difference pool k set)) → IsKnown copy k state × IsOwn copy k state
late-state pool k rises enough set given copy is_copy state is_size is_difference is_hint no_path is_number is_beyond =
    let size : ℕ = length (out_places pool k set) in
    let difference : ℕ = exchange_difference pool k set in
    let hint : List ℕ = exchange_path pool k set in
    let known = late-known pool k rises enough set given in
    let own = late-own pool k rises enough set given in
    let events : ahead (hinted state.hint.items (exchange_plan copy k state.size state.difference)) state.descent.path state.descent.number ≡ ahead (hinted hint (exchange_plan pool k size difference)) [] (first_hint hint) = cc in
    let stage : hits (ahead (exchange_plan copy k state.size state.difference) [] 0) ≡ hits (ahead (exchange_plan pool k size difference) [] 0) = cc in
    let next : lower state.descent.beyond (lowest (ahead (hinted state.hint.items (exchange_plan copy k state.size state.difference)) state.descent.path state.descent.number)) ≡ lower (Some (suc difference)) (lowest (ahead (hinted hint (exchange_plan pool k size difference)) [] (first_hint hint))) = cc in
    let all : (o : Option ℕ) → sets_of_stages copy k (greatest_difference copy k state.size - state.difference) state.size (suc state.difference) o ≡ sets_of_stages pool k (greatest_difference pool k size - difference) size (suc difference) o = λ o. cc in (
      ap (sets_of_stages copy k (greatest_difference copy k state.size - state.difference) state.size (suc state.difference)) next
          ∙ all (lower (Some (suc difference)) (lowest (ahead (hinted hint (exchange_plan pool k size difference)) [] (first_hint hint)))) ∙ known ∙ sym (all (Some 0)),
      all-members (IsOfStage copy k state.size state.difference) (hits (ahead (hinted state.hint.items (exchange_plan copy k state.size state.difference)) state.descent.path state.descent.number))
          (λ x m. subst (IsIn x) (sym stage) (own x (subst (IsIn x) (ap hits events) m))),
    )

-- a search that has ended
pub ended-known : (pool hint path : List ℕ) (number : ℕ) (beyond : Option ℕ) → pool ≡ [] → sets_of_stages pool 0 (greatest_difference pool 0 0 - 0) 0 1 (lower beyond (lowest (ahead (hinted hint (exchange_plan pool 0 0 0)) path number))) ≡ sets_of_stages pool 0 (greatest_difference pool 0 0 - 0) 0 1 (Some 0)
unfolding sets_of_stages
ended-known pool hint path number beyond none =
    let count : greatest_difference pool 0 0 - 0 ≡ 0 = none_after pool 0 0 0 refl in
    ap (λ n. sets_of_stages pool 0 n 0 1 (lower beyond (lowest (ahead (hinted hint (exchange_plan pool 0 0 0)) path number)))) count
    ∙ sym (ap (λ n. sets_of_stages pool 0 n 0 1 (Some 0)) count)

pub ended-hits : (pool hint path : List ℕ) (number : ℕ) → pool ≡ [] → hint ≡ [] → path ≡ [] → number ≡ 1 → hits (ahead (hinted hint (exchange_plan pool 0 0 0)) path number) ≡ []
unfolding ahead below after
ended-hits pool hint path number no_pool no_hint no_path is_number =
    let none : hits (ahead (exchange_plan [] 0 0 0) [] 1) ≡ [] = refl in
    ap (λ pool. hits (ahead (hinted hint (exchange_plan pool 0 0 0)) path number)) no_pool
    ∙ ap (λ hint. hits (ahead (hinted hint (exchange_plan [] 0 0 0)) path number)) no_hint
    ∙ ap (λ path. hits (ahead (exchange_plan [] 0 0 0) path number)) no_path
    ∙ ap (λ number. hits (ahead (exchange_plan [] 0 0 0) [] number)) is_number
    ∙ none

-- where what begins so is left, and nothing is known of what lies beyond it, the sets that are passed over are of the class of the
-- beginning, and the same sets follow
module _ (pool : List ℕ) (k : ℕ) (rises : IsStrictlyIncreasing pool) (enough : k ≤ length pool) (state : SearchState) (descent : Descent LIMIT) (stands : IsSearchState pool k state) (unknown : descent.beyond ≡ Some 0) where
  abbrev size : ℕ
  size = state.size

  abbrev plan : Plan
  plan = hinted state.hint.items (exchange_plan pool k size state.difference)

  abbrev following_sets : Option ℕ → List (List ℕ)
  following_sets next = sets_of_stages pool k (greatest_difference pool k size - state.difference) size (suc state.difference) next

  pub left-known : following_sets (beyond_all plan descent) ≡ following_sets (Some 0)
  left-known =
      let lying = lowest (ahead plan descent.path descent.number) in
      ap following_sets (ap (λ o. lower o lying) unknown ∙ lower-zero lying)

  abbrev before_them : Option ℕ → List (List ℕ) → List (List ℕ)
  before_them next ys = map (set_of pool k size) ys ++ (following_sets next ++ sets_of_sizes pool k (most_exchanged pool k - size) (suc size))

  left-list : 0 < size → (ys : List (List ℕ)) → Passes (GoesOn state.descent.path) (hits (ahead plan state.descent.path state.descent.number)) ys → Passes (IsExchange (class_from pool k state)) (before_them (beyond_all plan state.descent) (hits (ahead plan state.descent.path state.descent.number))) (before_them (beyond_all plan descent) ys)
  left-list some ys passes =
      let xs = hits (ahead plan state.descent.path state.descent.number) in
      let sets = set_of pool k size in
      let Left = IsExchange (class_from pool k state) in
      let later = following_sets (beyond_all plan state.descent) ++ sets_of_sizes pool k (most_exchanged pool k - size) (suc size) in
      let there : Passes (λ p. Left (sets p)) xs ys = passes-weaker (GoesOn state.descent.path) (λ p. Left (sets p)) (IsOfStage pool k size state.difference) xs ys (λ p of on. path-of_class pool k rises enough size state.difference state.descent.path p some of on) stands.4 passes in
      passes-same Left (before_them (beyond_all plan state.descent) xs) (before_them (beyond_all plan state.descent) ys) (before_them (beyond_all plan descent) ys)
      (passes-before Left (map sets xs) (map sets ys) later (passes-map (λ p. Left (sets p)) Left sets xs ys (λ p left. left) there))
      (ap (λ later. map sets ys ++ (later ++ sets_of_sizes pool k (most_exchanged pool k - size) (suc size))) (stands.3 ∙ sym left-known))

  pub sets-left : 0 < size → Passes (GoesOn state.descent.path) (hits (ahead plan state.descent.path state.descent.number)) (hits (ahead plan descent.path descent.number)) → Passes (IsExchange (class_from pool k state)) (sets_from pool k state) (sets_ahead pool k state.hint.items size state.difference descent.path descent.number descent.beyond)
  unfolding stage_left sets_ahead
  sets-left some passes = left-list some (hits (ahead plan descent.path descent.number)) passes
