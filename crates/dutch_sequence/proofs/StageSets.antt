-- The stages of exchanges find all sets, by their keys.
use Rattle.std.proofs.Common.{◌≡◌, ℕ, zero, suc, ◌+◌, ◌-◌, ◌<◌, ◌≤◌, Bool, true, false, min, List, [], ◌∷◌, ◌++◌, map, length, drop, refl, sym, ◌∙◌, ap, append_assoc, arith, subst, ◌⊎◌, inl, inr, zero-add, Option, Some, None, cond, nat_lt, nat_le, ◌&&◌, if◌then◌else◌}
use Rattle.std.specs.List.Sorted.{IsStrictlyIncreasing}
use Rattle.std.proofs.lemmas.List.{append-nil, length-map}
use Rattle.std.proofs.lemmas.Simd.{map-map}
use Rattle.std.proofs.lemmas.Bool.{true≢false, cases_eq, cases_Bool, and_parts, and_cases, leb-true, leb-false, lt-ltb, ltb-true}
use Rattle.dutch_sequence.specs.declared.exchange.Side.TheVariants.{Out, In}
use Rattle.dutch_sequence.specs.Prelude.{Plan, Event, entry, below, ahead, hits, lower, lowest, subsets, numbers_from, IsIn, exchanges, exchange_cmp, sum_of, half_start, total, value_of, within_reach, beyond_reach, exchange_plan, kept_of, set_of, stage_sets, stage_left, sets_of_stages, sets_of_sizes, stages_of, least_difference, greatest_difference, most_exchanged, sets_ahead, is_next, least_at, greatest_at}
use Rattle.dutch_sequence.specs.Trials.{Tried, Hit}
use Rattle.std.specs.List.{flat_map}
use Rattle.dutch_sequence.proofs.HalfWalks.{Climbs, AllFit, Admitted, halves-split, halves-join, Climbs-room}
use Rattle.dutch_sequence.proofs.Orders.{is_before-lower, is_before-equal, is_before-cases, is_before-irreflexive, IsIn-map, map-IsIn, IsIn-append, IsIn-front, IsIn-back, Ascends-append, Ascends-unique, member_has}
use Rattle.dutch_sequence.proofs.Found.{found, ahead-new}
use Rattle.dutch_sequence.proofs.FoundPaths.{in-numbers, found-admitted, admitted-found, found-ascends, is_before-beginning}
use Rattle.dutch_sequence.proofs.LimboSets.{is_before-split, is_before-join, drop_front}
use Rattle.dutch_sequence.proofs.Sets.{subsets-climb, subsets-map, subsets-ascend, ascending-sorted, Ascends-map}
use Rattle.dutch_sequence.proofs.ExchangeSets.{v, v-raises, pool-is, set-is, set-in_pool, exchange_key-is, exchange-of}
use Rattle.dutch_sequence.proofs.Moves.{lower-assoc}
use Rattle.dutch_sequence.proofs.StageMoves.{sets-first}
use Rattle.dutch_sequence.proofs.DifferenceRanges.{out-falls, inn-raises, difference-least, difference-greatest, outs-fit, ins-fit, ins-exact, take_front_of}
use Rattle.dutch_sequence.proofs.ByKeys.{is_before, Ascends, turned_in, exchange_key}
use Rattle.dutch_sequence.proofs.Comparing.{exchange_cmp-is, under_sum}

-- a map that raises the numbers below a bound keeps the order of lists of them
pub is_before-map_below : (f : ℕ → ℕ) (bound low : ℕ) → ((x y : ℕ) → x < y → y < bound → f x < f y) → (xs ys : List ℕ) → Climbs low bound ys → is_before xs ys ≡ true → is_before (map f xs) (map f ys) ≡ true
is_before-map_below f bound low raises [] [] climbs h = h
is_before-map_below f bound low raises [] (y ∷ ys) climbs h = refl
is_before-map_below f bound low raises (x ∷ xs) [] climbs h = h
is_before-map_below f bound low raises (x ∷ xs) (y ∷ ys) climbs h =
    elim (is_before-cases x y xs ys h) [
      | inl lower ↦ is_before-lower (f x) (f y) (map f xs) (map f ys) (raises x y lower climbs.1)
      | inr rest ↦ subst (λ z. is_before (f x ∷ map f xs) (f z ∷ map f ys) ≡ true) rest.0 (is_before-equal (f x) (map f xs) (map f ys) ∙ is_before-map_below f bound (suc y) raises xs ys climbs.2 rest.1)
    ]

pub Climbs-length : (low bound : ℕ) (xs : List ℕ) → low ≤ bound → Climbs low bound xs → low + length xs ≤ bound
Climbs-length low bound [] h climbs = omega arith
Climbs-length low bound (x ∷ xs) h climbs = omega (arith, climbs.0, Climbs-room low bound xs x climbs)

-- in an ascending list no two members have one key
pub Ascends-apart : (key : List ℕ → List ℕ) (xs : List (List ℕ)) → Ascends key xs → (x y : List ℕ) → IsIn x xs → IsIn y xs → key x ≡ key y → x ≡ y
Ascends-apart key [] p x y m n same = absurd m
Ascends-apart key (z ∷ xs) p x y (inl e) (inl e') same = e ∙ sym e'
Ascends-apart key (z ∷ xs) p x y (inl e) (inr n) same =
    let first : is_before (key z) (key y) ≡ true = member_has (λ w. is_before (key z) (key w) ≡ true) xs p.0 y n in
    absurd (true≢false (sym first ∙ ap (λ k. is_before k (key y)) (ap key (sym e) ∙ same) ∙ is_before-irreflexive (key y)))
Ascends-apart key (z ∷ xs) p x y (inr m) (inl e') same =
    let first : is_before (key z) (key x) ≡ true = member_has (λ w. is_before (key z) (key w) ≡ true) xs p.0 x m in
    absurd (true≢false (sym first ∙ ap (λ k. is_before k (key x)) (ap key (sym e') ∙ sym same) ∙ is_before-irreflexive (key x)))
Ascends-apart key (z ∷ xs) p x y (inr m) (inr n) same = Ascends-apart key xs p.1 x y m n same

barred_over : (least greatest first : ℕ) → (nat_le least first && nat_le first greatest) ≡ false → first ≤ greatest → first < least
barred_over least greatest first barred high =
    elim (and_cases (nat_le least first) (nat_le first greatest) barred) [
      | inl over ↦ leb-false least first over
      | inr under ↦ absurd (omega (arith, leb-false first greatest under, high))
    ]

stages-cases : (c : Bool) (here later other : List (List ℕ)) (set : List ℕ) → IsIn set (if c then here ++ later else other) → ((c ≡ true) × IsIn set here) ⊎ (((c ≡ true) × IsIn set later) ⊎ ((c ≡ false) × IsIn set other))
stages-cases true here later other set m = elim (IsIn-append set here later m) [ inl front ↦ inl (refl, front) | inr back ↦ inr (inl (refl, back)) ]
stages-cases false here later other set m = inr (inr (refl, m))

-- an exchange of so many with a difference
pub record Exchange (pool : List ℕ) (k size difference : ℕ) (set outs ins : List ℕ) : Type 0 where
  pub outs_climb : Climbs 0 k outs
  pub ins_climb : Climbs 0 (length pool - k) ins
  pub outs_size : length outs ≡ size
  pub ins_size : length ins ≡ size
  pub differs : total (value_of pool k In) ins - total (value_of pool k Out) outs ≡ difference
  pub is_set : set ≡ kept_of pool k outs ++ map (value_of pool k In) ins

module _ (pool : List ℕ) (k : ℕ) (rises : IsStrictlyIncreasing pool) (enough : k ≤ length pool) where
  abbrev pub key : List ℕ → List ℕ
  key = exchange_key pool k

  abbrev pub inn : ℕ → ℕ
  inn = value_of pool k In

  abbrev pub out : ℕ → ℕ
  out = value_of pool k Out

  starts_at_none : (size difference open_places : ℕ) → entry (exchange_plan pool k size difference) open_places [] ≡ 0
  unfolding half_start
  starts_at_none size difference zero = refl
  starts_at_none size difference (suc open_places) = refl

  stage-is : (size difference : ℕ) → stage_sets pool k size difference [] 0 ≡ map (set_of pool k size) (found (exchange_plan pool k size difference) (size + size) [])
  unfolding stage_sets
  stage-is size difference =
      ap (λ place. map (set_of pool k size) (hits (ahead (exchange_plan pool k size difference) [] place))) (sym (starts_at_none size difference (size + size)))
      ∙ ap (λ events. map (set_of pool k size) (hits events)) (ahead-new (exchange_plan pool k size difference))

  pub stage-hits : (size difference : ℕ) → hits (ahead (exchange_plan pool k size difference) [] 0) ≡ found (exchange_plan pool k size difference) (size + size) []
  stage-hits size difference =
      ap (λ place. hits (ahead (exchange_plan pool k size difference) [] place)) (sym (starts_at_none size difference (size + size)))
      ∙ ap hits (ahead-new (exchange_plan pool k size difference))

  pub path-set : (size : ℕ) (outs ins : List ℕ) → length outs ≡ size → set_of pool k size (outs ++ ins) ≡ kept_of pool k outs ++ map inn ins
  path-set size outs ins whole =
      ap (λ xs. kept_of pool k xs ++ map inn (drop size (outs ++ ins))) (take_front_of outs ins size whole)
      ∙ ap (λ xs. kept_of pool k outs ++ map inn xs) (drop_front outs ins size whole)

  pub no_difference : (outs ins : List ℕ) → length outs ≡ 0 → length ins ≡ 0 → total inn ins - total out outs ≡ 0
  no_difference [] [] p q = refl
  no_difference [] (x ∷ ins) p q = absurd (omega arith)
  no_difference (x ∷ outs) ins p q = absurd (omega arith)

  -- a path that is found is an exchange
  pub path-exchange : (size difference : ℕ) → (size ≡ 0 → difference ≡ 0) → (path : List ℕ) → IsIn path (found (exchange_plan pool k size difference) (size + size) []) → (outs : List ℕ) × (ins : List ℕ) × (path ≡ outs ++ ins) × Exchange pool k size difference (set_of pool k size path) outs ins
  path-exchange size difference none path m =
      let found' = found-admitted (exchange_plan pool k size difference) (size + size) [] path m in
      let halves = halves-split size k (length pool - k) (within_reach pool k size difference) (beyond_reach pool k size difference) found'.0 found'.2 in
      let outs : List ℕ = halves.0 in
      let ins : List ℕ = halves.1 in
      let is : path ≡ outs ++ ins = found'.1 ∙ halves.2 in
      let exact : total inn ins - total out outs ≡ difference =
      elim (cases_eq size 0) [
        | inl empty ↦ no_difference outs ins (halves.3.front_length ∙ empty) (halves.3.back_length ∙ empty) ∙ sym (none empty)
        | inr some ↦
            ins-exact pool k rises enough size difference outs halves.3.front_length [] ins (zero-add (length ins) ∙ halves.3.back_length) (omega (arith, some, halves.3.back_length))
            (subst (λ path. AllFit (within_reach pool k size difference) path ins) (sym (append-nil outs)) halves.3.back_fits)
      ] in (
        outs,
        ins,
        is,
        record {
          outs_climb = halves.3.front_climbs;
          ins_climb = halves.3.back_climbs;
          outs_size = halves.3.front_length;
          ins_size = halves.3.back_length;
          differs = exact;
          is_set = ap (set_of pool k size) is ∙ path-set size outs ins halves.3.front_length;
        },
      )

  pub stage-exchange : (size difference : ℕ) → (size ≡ 0 → difference ≡ 0) → (set : List ℕ) → IsIn set (stage_sets pool k size difference [] 0) → (outs : List ℕ) × (ins : List ℕ) × Exchange pool k size difference set outs ins
  stage-exchange size difference none set m =
      let from = IsIn-map (set_of pool k size) set (found (exchange_plan pool k size difference) (size + size) []) (subst (IsIn set) (stage-is size difference) m) in
      let path = path-exchange size difference none from.0 from.2 in
      (path.0, path.1, subst (λ s. Exchange pool k size difference s path.0 path.1) (sym from.1) path.3)

  pub exchange-admitted : (size difference : ℕ) (set outs ins : List ℕ) → Exchange pool k size difference set outs ins → Admitted (exchange_plan pool k size difference) (size + size) [] (outs ++ ins)
  exchange-admitted size difference set outs ins e =
      halves-join size k (length pool - k) (within_reach pool k size difference) (beyond_reach pool k size difference) outs ins (record {
        front_climbs = e.outs_climb;
        back_climbs = e.ins_climb;
        front_fits = outs-fit pool k rises enough size difference [] outs ins 0 (zero-add (length outs) ∙ e.outs_size) e.ins_size e.outs_climb e.ins_climb (sym e.differs);
        back_fits = subst (λ path. AllFit (within_reach pool k size difference) path ins) (append-nil outs)
            (ins-fit pool k rises enough size difference outs e.outs_size [] ins 0 (zero-add (length ins) ∙ e.ins_size) e.ins_climb (sym e.differs));
        front_length = e.outs_size;
        back_length = e.ins_size;
      })

  exchange-stage : (size difference : ℕ) (set outs ins : List ℕ) → Exchange pool k size difference set outs ins → IsIn set (stage_sets pool k size difference [] 0)
  exchange-stage size difference set outs ins e =
      subst (IsIn set) (sym (stage-is size difference))
      (subst (λ s. IsIn s (map (set_of pool k size) (found (exchange_plan pool k size difference) (size + size) []))) (path-set size outs ins e.outs_size ∙ sym e.is_set)
      (map-IsIn (set_of pool k size) (outs ++ ins) (found (exchange_plan pool k size difference) (size + size) [])
      (admitted-found (exchange_plan pool k size difference) (size + size) [] (outs ++ ins) (exchange-admitted size difference set outs ins e))))

  pub key-at : (size difference : ℕ) (set outs ins : List ℕ) → Exchange pool k size difference set outs ins → key set ≡ size ∷ difference ∷ (map (λ i. turned_in (sum_of pool) (out i)) outs ++ map inn ins)
  key-at size difference set outs ins e =
      ap key (e.is_set ∙ set-is pool k rises enough outs ins)
      ∙ exchange_key-is pool k rises enough outs ins e.outs_climb e.ins_climb
      ∙ ap (λ n. n ∷ (total inn ins - total out outs) ∷ (map (turned_in (sum_of pool)) (map out outs) ++ map inn ins)) e.outs_size
      ∙ ap (λ n. size ∷ n ∷ (map (turned_in (sum_of pool)) (map out outs) ++ map inn ins)) e.differs
      ∙ ap (λ xs. size ∷ difference ∷ (xs ++ map inn ins)) (map-map (turned_in (sum_of pool)) out outs)

  -- within a stage, earlier paths have earlier keys
  pub stage-order : (size difference : ℕ) → (size ≡ 0 → difference ≡ 0) → (p q : List ℕ) → IsIn p (found (exchange_plan pool k size difference) (size + size) []) → IsIn q (found (exchange_plan pool k size difference) (size + size) []) → is_before p q ≡ true → is_before (key (set_of pool k size p)) (key (set_of pool k size q)) ≡ true
  stage-order size difference none p q m n h =
      let one = path-exchange size difference none p m in
      let two = path-exchange size difference none q n in
      let C : List ℕ = one.0 in let A : List ℕ = one.1 in let D : List ℕ = two.0 in let B : List ℕ = two.1 in
      let key_p = key-at size difference (set_of pool k size p) C A one.3 in
      let key_q = key-at size difference (set_of pool k size q) D B two.3 in
      let same : length C ≡ length D = one.3.outs_size ∙ sym two.3.outs_size in
      let weight : ℕ → ℕ = λ i. turned_in (sum_of pool) (out i) in
      let cases = is_before-split C D A B same (subst (λ z. is_before (C ++ A) z ≡ true) two.2 (subst (λ z. is_before z q ≡ true) one.2 h)) in
      let tails : is_before (map weight C ++ map inn A) (map weight D ++ map inn B) ≡ true =
      elim cases [
        | inl equal ↦
            subst (λ z. is_before (map weight C ++ map inn A) (map weight z ++ map inn B) ≡ true) equal.0
            (is_before-beginning (map weight C) (map inn A) (map inn B) ∙ is_before-map_below inn (length pool - k) 0 (inn-raises pool k rises enough) A B two.3.ins_climb equal.1)
        | inr first ↦
            is_before-join (map weight C) (map weight D) (map inn A) (map inn B) (length-map C weight ∙ same ∙ sym (length-map D weight))
            (is_before-map_below weight k 0 (λ x y below within. omega (arith, out-falls pool k rises enough x y below within, under_sum pool (k - 1 - x), under_sum pool (k - 1 - y))) C D two.3.outs_climb first)
      ] in
      subst (λ z. is_before z (key (set_of pool k size q)) ≡ true) (sym key_p)
      (subst (λ z. is_before (size ∷ difference ∷ (map weight C ++ map inn A)) z ≡ true) (sym key_q)
      (is_before-equal size (difference ∷ (map weight C ++ map inn A)) (difference ∷ (map weight D ++ map inn B))
      ∙ is_before-equal difference (map weight C ++ map inn A) (map weight D ++ map inn B) ∙ tails))

  stage-ascends : (size difference : ℕ) → (size ≡ 0 → difference ≡ 0) → Ascends key (stage_sets pool k size difference [] 0)
  stage-ascends size difference none =
      subst (Ascends key) (sym (stage-is size difference))
      (Ascends-map key (set_of pool k size) (found (exchange_plan pool k size difference) (size + size) []) (found-ascends (exchange_plan pool k size difference) (size + size) []) (stage-order size difference none))

  ascends-if : (c : Bool) (xs ys : List (List ℕ)) → Ascends key xs → Ascends key ys → Ascends key (if c then xs else ys)
  ascends-if true xs ys p q = p
  ascends-if false xs ys p q = q

  -- a known number that is at most a difference
  AtMost : ℕ → Option ℕ → Type 0
  AtMost difference o = (n : ℕ) × (o ≡ Some n) × (n ≤ difference)

  at_most : (difference n : ℕ) (o : Option ℕ) → o ≡ Some n → n ≤ difference → AtMost difference o
  unfolding AtMost
  at_most difference n o is low = (n, is, low)

  lower-left : (difference : ℕ) (a b : Option ℕ) → AtMost difference a → AtMost difference (lower a b)
  unfolding AtMost
  lower-left difference None b most = cc
  lower-left difference (Some x) None most = most
  lower-left difference (Some x) (Some y) most = let e : x ≡ most.0 = (let h = most.1 in cc) in (min x y, refl, omega (arith, most.2))

  lower-right : (difference : ℕ) (a b : Option ℕ) → AtMost difference b → AtMost difference (lower a b)
  unfolding AtMost
  lower-right difference None b most = most
  lower-right difference (Some x) None most = cc
  lower-right difference (Some x) (Some y) most = let e : y ≡ most.0 = (let h = most.1 in cc) in (min x y, refl, omega (arith, most.2))

  lowest-append : (xs ys : List Event) → lowest (xs ++ ys) ≡ lower (lowest xs) (lowest ys)
  lowest-append [] ys = refl
  lowest-append (Tried o ∷ xs) ys = ap (lower o) (lowest-append xs ys) ∙ sym (lower-assoc o (lowest xs) (lowest ys))
  lowest-append (Hit path ∷ xs) ys = lowest-append xs ys

  lowest-flat_map : (difference : ℕ) (f : ℕ → List Event) (x : ℕ) (xs : List ℕ) → IsIn x xs → AtMost difference (lowest (f x)) → AtMost difference (lowest (flat_map f xs))
  lowest-flat_map difference f x [] m most = absurd m
  lowest-flat_map difference f x (y ∷ xs) (inl same) most =
      subst (AtMost difference) (sym (lowest-append (f y) (flat_map f xs))) (lower-left difference (lowest (f y)) (lowest (flat_map f xs)) (subst (λ z. AtMost difference (lowest (f z))) same most))
  lowest-flat_map difference f x (y ∷ xs) (inr m) most =
      subst (AtMost difference) (sym (lowest-append (f y) (flat_map f xs))) (lower-right difference (lowest (f y)) (lowest (flat_map f xs)) (lowest-flat_map difference f x xs m most))

  -- what the trial of a number brings, at the plan of a stage
  abbrev brought : ℕ → ℕ → ℕ → List ℕ → ℕ → List Event
  brought size first open_places path tried =
      Tried (beyond_reach pool k size first path tried)
      ∷ cond (within_reach pool k size first path tried) (below (exchange_plan pool k size first) open_places (path ++ tried ∷ []) (entry (exchange_plan pool k size first) open_places (path ++ tried ∷ []))) []

  module _ (size first difference : ℕ) (less : first < difference) where
    abbrev now : Plan
    now = exchange_plan pool k size first

    -- a path of a later stage is one of this stage too, or something lies beyond it here that is no more than the later difference
    noted : (open_places : ℕ) (beginning path : List ℕ) → Admitted (exchange_plan pool k size difference) open_places beginning path → Admitted now open_places beginning path ⊎ AtMost difference (lowest (below now open_places beginning (entry now open_places beginning)))
    unfolding below within_reach beyond_reach
    noted zero beginning path admitted = inl admitted
    noted (suc open_places) beginning [] admitted = absurd admitted
    noted (suc open_places) beginning (i ∷ path) admitted =
        let tests = and_parts (nat_le (least_at pool k size beginning i) difference) (nat_le difference (greatest_at pool k size beginning i)) admitted.2 in
        let low : least_at pool k size beginning i ≤ difference = leb-true (least_at pool k size beginning i) difference tests.0 in
        let high : difference ≤ greatest_at pool k size beginning i = leb-true difference (greatest_at pool k size beginning i) tests.1 in
        let among : IsIn i (numbers_from (now.start beginning) (now.stop beginning - now.start beginning)) = in-numbers i (now.start beginning) (now.stop beginning - now.start beginning) admitted.0 (omega (arith, admitted.0, admitted.1)) in
        elim (cases_Bool (now.fits beginning i)) [
          | inl fit ↦ elim (noted open_places (beginning ++ i ∷ []) path admitted.3) [
            | inl here ↦ inl (admitted.0, admitted.1, fit, here)
            | inr deeper ↦
                inr (lowest-flat_map difference (brought size first open_places beginning) i (numbers_from (now.start beginning) (now.stop beginning - now.start beginning)) among
                (lower-right difference (now.beyond beginning i) (lowest (cond (now.fits beginning i) (below now open_places (beginning ++ i ∷ []) (entry now open_places (beginning ++ i ∷ []))) []))
                (subst (λ b. AtMost difference (lowest (cond b (below now open_places (beginning ++ i ∷ []) (entry now open_places (beginning ++ i ∷ []))) []))) (sym fit) deeper)))
          ]
          | inr barred ↦
              let over : first < least_at pool k size beginning i = barred_over (least_at pool k size beginning i) (greatest_at pool k size beginning i) first barred (omega arith) in
              let told : now.beyond beginning i ≡ Some (least_at pool k size beginning i) = ap (λ b. if b then Some (least_at pool k size beginning i) else None) (lt-ltb first (least_at pool k size beginning i) over) in
              inr (lowest-flat_map difference (brought size first open_places beginning) i (numbers_from (now.start beginning) (now.stop beginning - now.start beginning)) among
              (lower-left difference (now.beyond beginning i) (lowest (cond (now.fits beginning i) (below now open_places (beginning ++ i ∷ []) (entry now open_places (beginning ++ i ∷ []))) [])) (at_most difference (least_at pool k size beginning i) (now.beyond beginning i) told low)))
        ]

  -- whatever lies beyond the trials of a stage is more than its difference
  above_lower : (first n : ℕ) (a b : Option ℕ) → ((m : ℕ) → a ≡ Some m → first < m) → ((m : ℕ) → b ≡ Some m → first < m) → lower a b ≡ Some n → first < n
  above_lower first n None b p q is = q n is
  above_lower first n (Some x) None p q is = p n is
  above_lower first n (Some x) (Some y) p q is =
      let e : min x y ≡ n = cc in omega (arith, p x refl, q y refl)

  above_append : (first : ℕ) (xs ys : List Event) → ((m : ℕ) → lowest xs ≡ Some m → first < m) → ((m : ℕ) → lowest ys ≡ Some m → first < m) → (n : ℕ) → lowest (xs ++ ys) ≡ Some n → first < n
  above_append first xs ys p q n is = above_lower first n (lowest xs) (lowest ys) p q (sym (lowest-append xs ys) ∙ is)

  pub beyond_above : (size first : ℕ) (path : List ℕ) (place n : ℕ) → beyond_reach pool k size first path place ≡ Some n → first < n
  unfolding beyond_reach
  beyond_above size first path place n is =
      elim (cases_Bool (nat_lt first (least_at pool k size path place))) [
        | inl over ↦
            let same : Some (least_at pool k size path place) ≡ Some n = sym (ap (λ b. if b then Some (least_at pool k size path place) else None) over) ∙ is in
            let equal : least_at pool k size path place ≡ n = cc in
            omega (arith, ltb-true first (least_at pool k size path place) over)
        | inr under ↦ (let none : None ≡ Some n = sym (ap (λ b. if b then Some (least_at pool k size path place) else None) under) ∙ is in cc)
      ]

  cond_above : (first : ℕ) (c : Bool) (events : List Event) → ((m : ℕ) → lowest events ≡ Some m → first < m) → (n : ℕ) → lowest (cond c events []) ≡ Some n → first < n
  cond_above first true events each n is = each n is
  cond_above first false events each n is = cc

  -- what the trial of a number brings, at a plan
  abbrev brought_at : Plan → ℕ → List ℕ → ℕ → List Event
  brought_at plan open_places path tried =
      Tried (plan.beyond path tried) ∷ cond (plan.fits path tried) (below plan open_places (path ++ tried ∷ []) (entry plan open_places (path ++ tried ∷ []))) []

  module _ (plan : Plan) (first : ℕ) (above : (path : List ℕ) (place n : ℕ) → plan.beyond path place ≡ Some n → first < n) where
    tried_above : (open_places : ℕ) (path : List ℕ) → ((tried m : ℕ) → lowest (below plan open_places (path ++ tried ∷ []) (entry plan open_places (path ++ tried ∷ []))) ≡ Some m → first < m) → (numbers : List ℕ) (n : ℕ) → lowest (flat_map (brought_at plan open_places path) numbers) ≡ Some n → first < n
    tried_above open_places path each [] n is = cc
    tried_above open_places path each (x ∷ numbers) n is =
        above_append first (brought_at plan open_places path x) (flat_map (brought_at plan open_places path) numbers)
        (λ m told. above_lower first m (plan.beyond path x) (lowest (cond (plan.fits path x) (below plan open_places (path ++ x ∷ []) (entry plan open_places (path ++ x ∷ []))) []))
        (above path x)
        (cond_above first (plan.fits path x) (below plan open_places (path ++ x ∷ []) (entry plan open_places (path ++ x ∷ []))) (each x)) told)
        (tried_above open_places path each numbers) n is

    pub below_above : (open_places : ℕ) (path : List ℕ) (number n : ℕ) → lowest (below plan open_places path number) ≡ Some n → first < n
    unfolding below
    below_above zero path zero n is = cc
    below_above zero path (suc number) n is = cc
    below_above (suc open_places) path number n is =
        tried_above open_places path (λ tried m told. below_above open_places (path ++ tried ∷ []) (entry plan open_places (path ++ tried ∷ [])) m told)
        (numbers_from number (plan.stop path - number)) n is

  ahead-is : (size first : ℕ) → ahead (exchange_plan pool k size first) [] 0 ≡ below (exchange_plan pool k size first) (size + size) [] (entry (exchange_plan pool k size first) (size + size) [])
  ahead-is size first =
      ap (ahead (exchange_plan pool k size first) []) (sym (starts_at_none size first (size + size))) ∙ ahead-new (exchange_plan pool k size first)

  -- a stage notes a difference that is no more than that of any later exchange
  next_reaches : (size first difference : ℕ) (set outs ins : List ℕ) → Exchange pool k size difference set outs ins → first < difference → AtMost difference (lowest (ahead (exchange_plan pool k size first) [] 0))
  next_reaches size first difference set outs ins e less =
      let none : size ≡ 0 → first ≡ 0 = λ empty. absurd (omega (arith, less, e.differs, no_difference outs ins (e.outs_size ∙ empty) (e.ins_size ∙ empty))) in
      elim (noted size first difference less (size + size) [] (outs ++ ins) (exchange-admitted size difference set outs ins e)) [
        | inl here ↦
            let there : IsIn set (stage_sets pool k size first [] 0) =
            subst (IsIn set) (sym (stage-is size first))
            (subst (λ s. IsIn s (map (set_of pool k size) (found (exchange_plan pool k size first) (size + size) []))) (path-set size outs ins e.outs_size ∙ sym e.is_set)
            (map-IsIn (set_of pool k size) (outs ++ ins) (found (exchange_plan pool k size first) (size + size) []) (admitted-found (exchange_plan pool k size first) (size + size) [] (outs ++ ins) here))) in
            let other = stage-exchange size first none set there in
            let keys : size ∷ first ∷ (map (λ i. turned_in (sum_of pool) (out i)) other.0 ++ map inn other.1) ≡ size ∷ difference ∷ (map (λ i. turned_in (sum_of pool) (out i)) outs ++ map inn ins) =
            sym (key-at size first set other.0 other.1 other.2) ∙ key-at size difference set outs ins e in
            let same : first ≡ difference = cc in
            absurd (omega (arith, less, same))
        | inr most ↦ subst (λ events. AtMost difference (lowest events)) (sym (ahead-is size first)) most
      ]

  pub stages-in : (count size first : ℕ) (next : Option ℕ) (set : List ℕ) → IsIn set (sets_of_stages pool k count size first next) → (difference : ℕ) × (first ≤ difference) × (difference < first + count) × IsIn set (stage_sets pool k size difference [] 0)
  unfolding sets_of_stages
  stages-in zero size first next set m = absurd m
  stages-in (suc count) size first next set m =
      elim (stages-cases (is_next first next) (stage_sets pool k size first [] 0) (sets_of_stages pool k count size (suc first) (lowest (ahead (exchange_plan pool k size first) [] 0))) (sets_of_stages pool k count size (suc first) next) set m) [
        | inl here ↦ (first, omega arith, omega arith, here.1)
        | inr (inl later) ↦ let rest = stages-in count size (suc first) (lowest (ahead (exchange_plan pool k size first) [] 0)) set later.1 in (rest.0, omega (arith, rest.1), omega (arith, rest.2), rest.3)
        | inr (inr later) ↦ let rest = stages-in count size (suc first) next set later.1 in (rest.0, omega (arith, rest.1), omega (arith, rest.2), rest.3)
      ]

  pub in-stages : (count size first difference n : ℕ) (next : Option ℕ) (set outs ins : List ℕ) → Exchange pool k size difference set outs ins → next ≡ Some n → first ≤ difference → n ≤ difference → difference < first + count → IsIn set (sets_of_stages pool k count size first next)
  unfolding sets_of_stages AtMost
  in-stages zero size first difference n next set outs ins e is from to below' = absurd (omega arith)
  in-stages (suc count) size first difference n next set outs ins e is from to below' =
      let here : List (List ℕ) = stage_sets pool k size first [] 0 in
      let found_next : Option ℕ = lowest (ahead (exchange_plan pool k size first) [] 0) in
      elim (cases_Bool (nat_le n first)) [
        | inl same ↦
            let yes' : is_next first next ≡ true = ap (is_next first) is ∙ same in
            subst (λ c. IsIn set (if c then (here ++ sets_of_stages pool k count size (suc first) found_next) else sets_of_stages pool k count size (suc first) next)) (sym yes')
            (elim (cases_eq difference first) [
              | inl now' ↦ IsIn-front set here (sets_of_stages pool k count size (suc first) found_next) (subst (λ d. IsIn set (stage_sets pool k size d [] 0)) now' (exchange-stage size difference set outs ins e))
              | inr later ↦
                  let less : first < difference = omega (arith, from, later) in
                  let most = next_reaches size first difference set outs ins e less in
                  IsIn-back set here (sets_of_stages pool k count size (suc first) found_next)
                  (in-stages count size (suc first) difference most.0 found_next set outs ins e most.1 (omega (arith, less)) most.2 (omega arith))
            ])
        | inr other ↦
            let no' : is_next first next ≡ false = ap (is_next first) is ∙ other in
            subst (λ c. IsIn set (if c then (here ++ sets_of_stages pool k count size (suc first) found_next) else sets_of_stages pool k count size (suc first) next)) (sym no')
            (in-stages count size (suc first) difference n next set outs ins e is (omega (arith, leb-false n first other, to)) to (omega arith))
      ]

  pub stages-ascend : (count size first : ℕ) (next : Option ℕ) → ((difference : ℕ) → first ≤ difference → difference < first + count → size ≡ 0 → difference ≡ 0) → Ascends key (sets_of_stages pool k count size first next)
  unfolding sets_of_stages
  stages-ascend zero size first next none = tt
  stages-ascend (suc count) size first next none =
      let found_next : Option ℕ = lowest (ahead (exchange_plan pool k size first) [] 0) in
      let more : (difference : ℕ) → suc first ≤ difference → difference < suc first + count → size ≡ 0 → difference ≡ 0 = λ difference from below'. none difference (omega arith) (omega arith) in
      ascends-if (is_next first next) (stage_sets pool k size first [] 0 ++ sets_of_stages pool k count size (suc first) found_next) (sets_of_stages pool k count size (suc first) next)
      (Ascends-append key (stage_sets pool k size first [] 0) (sets_of_stages pool k count size (suc first) found_next)
      (stage-ascends size first (none first (omega arith) (omega arith)))
      (stages-ascend count size (suc first) found_next more)
      (λ x y m n.
      let here = stage-exchange size first (none first (omega arith) (omega arith)) x m in
      let later = stages-in count size (suc first) found_next y n in
      let there = stage-exchange size later.0 (none later.0 (omega (arith, later.1)) (omega (arith, later.2))) y later.3 in
      let one : List ℕ = map (λ i. turned_in (sum_of pool) (out i)) here.0 ++ map inn here.1 in
      let two : List ℕ = map (λ i. turned_in (sum_of pool) (out i)) there.0 ++ map inn there.1 in
      subst (λ z. is_before z (key y) ≡ true) (sym (key-at size first x here.0 here.1 here.2))
      (subst (λ z. is_before (size ∷ first ∷ one) z ≡ true) (sym (key-at size later.0 y there.0 there.1 there.2))
      (is_before-equal size (first ∷ one) (later.0 ∷ two) ∙ is_before-lower first later.0 one two (omega (arith, later.1))))))
      (stages-ascend count size (suc first) next more)

  -- whatever is known of what lies beyond a stage, the same sets follow
  pub stages-known : (count size first : ℕ) → (size ≡ 0 → count ≡ 0) → sets_of_stages pool k count size (suc first) (lowest (ahead (exchange_plan pool k size first) [] 0)) ≡ sets_of_stages pool k count size (suc first) (Some 0)
  unfolding AtMost
  stages-known count size first none =
      let found_next : Option ℕ = lowest (ahead (exchange_plan pool k size first) [] 0) in
      let none' : (difference : ℕ) → suc first ≤ difference → difference < suc first + count → size ≡ 0 → difference ≡ 0 = λ difference from below' empty. absurd (omega (arith, none empty)) in
      Ascends-unique key (sets_of_stages pool k count size (suc first) found_next) (sets_of_stages pool k count size (suc first) (Some 0))
      (stages-ascend count size (suc first) found_next none') (stages-ascend count size (suc first) (Some 0) none')
      (λ x m.
      let there = stages-in count size (suc first) found_next x m in
      let e = stage-exchange size there.0 (none' there.0 there.1 there.2) x there.3 in
      in-stages count size (suc first) there.0 0 (Some 0) x e.0 e.1 e.2 refl there.1 (omega arith) there.2)
      (λ x m.
      let there = stages-in count size (suc first) (Some 0) x m in
      let e = stage-exchange size there.0 (none' there.0 there.1 there.2) x there.3 in
      let most = next_reaches size first there.0 x e.0 e.1 e.2 (omega (arith, there.1)) in
      in-stages count size (suc first) there.0 most.0 found_next x e.0 e.1 e.2 most.1 there.1 most.2 there.2)

  -- where nothing is exchanged, nothing differs
  none_at : (size difference : ℕ) → least_difference pool k size ≤ difference → difference < least_difference pool k size + stages_of pool k size → size ≡ 0 → difference ≡ 0
  none_at zero difference from below none = omega arith
  none_at (suc size) difference from below none = absurd (omega arith)

  sizes-in : (count first : ℕ) (set : List ℕ) → IsIn set (sets_of_sizes pool k count first) → (size : ℕ) × (first ≤ size) × (size < first + count) × IsIn set (sets_of_stages pool k (stages_of pool k size) size (least_difference pool k size) (Some (least_difference pool k size)))
  unfolding sets_of_sizes
  sizes-in zero first set m = absurd m
  sizes-in (suc count) first set m =
      elim (IsIn-append set (sets_of_stages pool k (stages_of pool k first) first (least_difference pool k first) (Some (least_difference pool k first))) (sets_of_sizes pool k count (suc first)) m) [
        | inl here ↦ (first, omega arith, omega arith, here)
        | inr later ↦ let rest = sizes-in count (suc first) set later in (rest.0, omega (arith, rest.1), omega (arith, rest.2), rest.3)
      ]

  pub in-sizes : (count first size : ℕ) (set : List ℕ) → first ≤ size → size < first + count → IsIn set (sets_of_stages pool k (stages_of pool k size) size (least_difference pool k size) (Some (least_difference pool k size))) → IsIn set (sets_of_sizes pool k count first)
  unfolding sets_of_sizes
  in-sizes zero first size set from below m = absurd (omega arith)
  in-sizes (suc count) first size set from below m =
      elim (cases_eq size first) [
        | inl same ↦ IsIn-front set (sets_of_stages pool k (stages_of pool k first) first (least_difference pool k first) (Some (least_difference pool k first))) (sets_of_sizes pool k count (suc first)) (subst (λ s. IsIn set (sets_of_stages pool k (stages_of pool k s) s (least_difference pool k s) (Some (least_difference pool k s)))) same m)
        | inr other ↦ IsIn-back set (sets_of_stages pool k (stages_of pool k first) first (least_difference pool k first) (Some (least_difference pool k first))) (sets_of_sizes pool k count (suc first)) (in-sizes count (suc first) size set (omega (arith, other)) (omega arith) m)
      ]

  pub size-exchange : (count first : ℕ) (set : List ℕ) → IsIn set (sets_of_sizes pool k count first) → (size : ℕ) × (difference : ℕ) × (outs : List ℕ) × (ins : List ℕ) × (first ≤ size) × Exchange pool k size difference set outs ins
  size-exchange count first set m =
      let size = sizes-in count first set m in
      let stage = stages-in (stages_of pool k size.0) size.0 (least_difference pool k size.0) (Some (least_difference pool k size.0)) set size.3 in
      let e = stage-exchange size.0 stage.0 (none_at size.0 stage.0 stage.1 stage.2) set stage.3 in
      (size.0, stage.0, e.0, e.1, size.1, e.2)

  pub sizes-ascend : (count first : ℕ) → Ascends key (sets_of_sizes pool k count first)
  unfolding sets_of_sizes
  sizes-ascend zero first = tt
  sizes-ascend (suc count) first =
      Ascends-append key (sets_of_stages pool k (stages_of pool k first) first (least_difference pool k first) (Some (least_difference pool k first))) (sets_of_sizes pool k count (suc first))
      (stages-ascend (stages_of pool k first) first (least_difference pool k first) (Some (least_difference pool k first)) (none_at first))
      (sizes-ascend count (suc first))
      (λ x y m n.
      let stage = stages-in (stages_of pool k first) first (least_difference pool k first) (Some (least_difference pool k first)) x m in
      let here = stage-exchange first stage.0 (none_at first stage.0 stage.1 stage.2) x stage.3 in
      let there = size-exchange count (suc first) y n in
      subst (λ z. is_before z (key y) ≡ true) (sym (key-at first stage.0 x here.0 here.1 here.2))
      (subst (λ z. is_before (first ∷ stage.0 ∷ (map (λ i. turned_in (sum_of pool) (out i)) here.0 ++ map inn here.1)) z ≡ true) (sym (key-at there.0 there.1 y there.2 there.3 there.5))
      (is_before-lower first there.0 (stage.0 ∷ (map (λ i. turned_in (sum_of pool) (out i)) here.0 ++ map inn here.1)) (there.1 ∷ (map (λ i. turned_in (sum_of pool) (out i)) there.2 ++ map inn there.3)) (omega (arith, there.4)))))

  found-set : (set : List ℕ) → IsIn set (sets_of_sizes pool k (suc (most_exchanged pool k)) 0) → IsIn set (subsets pool k)
  found-set set m =
      let e = size-exchange (suc (most_exchanged pool k)) 0 set m in
      subst (λ s. IsIn s (subsets pool k)) (sym e.5.is_set)
      (set-in_pool pool k rises enough e.2 e.3 e.5.outs_climb e.5.ins_climb (e.5.outs_size ∙ sym e.5.ins_size))

  set-found : (set : List ℕ) → IsIn set (subsets pool k) → IsIn set (sets_of_sizes pool k (suc (most_exchanged pool k)) 0)
  set-found set m =
      let e = exchange-of pool k rises enough set m in
      let outs : List ℕ = e.0 in
      let ins : List ℕ = e.1 in
      let size : ℕ = length outs in
      let difference : ℕ = total inn ins - total out outs in
      let least : least_difference pool k size ≤ difference = difference-least pool k rises enough outs ins size refl (sym e.4) e.2 e.3 in
      let greatest : difference ≤ greatest_difference pool k size = difference-greatest pool k rises enough outs ins size refl (sym e.4) e.2 e.3 in
      let out_room : 0 + length outs ≤ k = Climbs-length 0 k outs (omega arith) e.2 in
      let in_room : 0 + length ins ≤ length pool - k = Climbs-length 0 (length pool - k) ins (omega arith) e.3 in
      in-sizes (suc (most_exchanged pool k)) 0 size set (omega arith) (omega (arith, e.4))
      (in-stages (stages_of pool k size) size (least_difference pool k size) difference (least_difference pool k size) (Some (least_difference pool k size)) set outs ins (record {
        outs_climb = e.2;
        ins_climb = e.3;
        outs_size = refl;
        ins_size = sym e.4;
        differs = refl;
        is_set = e.5;
      }) refl least least (omega arith))

  pub pool-ascend : Ascends (λ set. set) (subsets pool k)
  pool-ascend =
      subst (Ascends (λ set. set)) (sym (subsets-map (v pool k rises enough) (numbers_from 0 (length pool)) k) ∙ ap (λ numbers. subsets numbers k) (sym (pool-is pool k rises enough)))
      (Ascends-map (λ set. set) (map (v pool k rises enough)) (subsets (numbers_from 0 (length pool)) k) (subsets-ascend 0 (length pool) k)
      (λ x y m n h. is_before-map_below (v pool k rises enough) (0 + length pool) 0 (λ a b below within. v-raises pool k rises enough a b below (omega arith)) x y (subsets-climb 0 (length pool) k y n).0 h))

  -- different sets have different keys
  pub exchange_key-apart : (x y : List ℕ) → IsIn x (subsets pool k) → IsIn y (subsets pool k) → key x ≡ key y → x ≡ y
  exchange_key-apart x y m n = Ascends-apart key (sets_of_sizes pool k (suc (most_exchanged pool k)) 0) (sizes-ascend (suc (most_exchanged pool k)) 0) x y (set-found x m) (set-found y n)

  pub sizes-sorted : sets_of_sizes pool k (suc (most_exchanged pool k)) 0 ≡ exchanges pool k
  sizes-sorted =
      let ascend = sizes-ascend (suc (most_exchanged pool k)) 0 in
      ascending-sorted key (exchange_cmp pool k) (sets_of_sizes pool k (suc (most_exchanged pool k)) 0) (subsets pool k) (λ x y m n. exchange_cmp-is pool k x y) ascend pool-ascend
      exchange_key-apart
      found-set set-found

  -- what a new search finds are all sets, by their keys
  pub exchanges-found : sets_ahead pool k [] 0 0 [] 0 None ≡ exchanges pool k
  unfolding sets_of_sizes stage_left stage_sets sets_ahead
  exchanges-found =
      sym (append_assoc (stage_sets pool k 0 0 [] 0) (sets_of_stages pool k (greatest_difference pool k 0 - 0) 0 1 (lowest (ahead (exchange_plan pool k 0 0) [] 0))) (sets_of_sizes pool k (most_exchanged pool k - 0) 1))
      ∙ ap (λ count. (stage_sets pool k 0 0 [] 0 ++ sets_of_stages pool k (greatest_difference pool k 0 - 0) 0 1 (lowest (ahead (exchange_plan pool k 0 0) [] 0))) ++ sets_of_sizes pool k count 1) (let e : most_exchanged pool k - 0 ≡ most_exchanged pool k = omega arith in e)
      ∙ ap (λ sets. sets ++ sets_of_sizes pool k (most_exchanged pool k) 1) (sym (sets-first pool k 0 (greatest_difference pool k 0 - 0) 0))
      ∙ sizes-sorted
