-- The search of sets of moved-down players finds all sets, by their keys.
use Rattle.std.proofs.Common.{◌≡◌, ℕ, zero, suc, ◌+◌, ◌-◌, ◌<◌, ◌≤◌, Bool, true, not, ◌&&◌, ◌||◌, ◌==◌, nat_lt, List, [], ◌∷◌, ◌++◌, map, length, get_or, drop, take, refl, sym, ◌∙◌, ap, append_assoc, arith, length-append, subst, ◌⊎◌, inl, inr, slice_index, if◌then◌else◌, zero-add, None}
use Rattle.std.specs.List.{slice_range, AllByRecursion}
use Rattle.std.proofs.lemmas.List.{append-nil, length-map, get_or_past}
use Rattle.std.proofs.lemmas.Simd.{map-map}
use Rattle.std.proofs.lemmas.Bool.{true≢false, cases_Bool, eqb-true, eq-eqb, ne_eqb, and_parts, and_from, or_cases, or_left, or_right, lt-ltb, le-ltb, eqb-false, cases_lt, not_from_false, not-true}
use Rattle.std.specs.List.{filter}
use Rattle.dutch_sequence.specs.Prelude.{Plan, entry, ahead, hits, trials, hinted, first_hint, subsets, from_on, numbers_from, IsIn, half_start, limbo_exchanges, score_of, IsNonAscending, limbo_cmp, limbo_plan, leads, mirrors, front_with, numbers_of, second_numbers, leader, leaders, places_of, limbo_path}
use Rattle.dutch_sequence.proofs.Lists.{map-same}
use Rattle.dutch_sequence.proofs.HalfWalks.{Climbs, AllFit, Admitted, Halved, halves-split, halves-join, start-on}
use Rattle.dutch_sequence.proofs.Orders.{is_before-lower, is_before-equal, is_before-cases, IsIn-map, map-IsIn}
use Rattle.dutch_sequence.proofs.Found.{found, ahead-new}
use Rattle.dutch_sequence.proofs.FoundPaths.{found-admitted, admitted-found, found-ascends, is_before-beginning}
use Rattle.dutch_sequence.proofs.Sets.{subsets-climb, climbs-subset, subsets-map, subsets-ascend, ascending-sorted, in-sorted, Ascends-map}
use Rattle.dutch_sequence.proofs.FromOn.{is_late, from_on-filter, map-late, order-same, admitted-length, admitted-reaches}
use Rattle.dutch_sequence.proofs.Hinted.{hinted-hits}
use Rattle.dutch_sequence.proofs.ByKeys.{is_before, Ascends, turned, limbo_key, turned_in, limbo_key_in}
use Rattle.dutch_sequence.proofs.Comparing.{limbo_cmp-is}

-- two lists of one length, with something behind each
pub is_before-split : (xs ys us vs : List ℕ) → length xs ≡ length ys → is_before (xs ++ us) (ys ++ vs) ≡ true → ((xs ≡ ys) × (is_before us vs ≡ true)) ⊎ (is_before xs ys ≡ true)
is_before-split [] [] us vs same h = inl (refl, h)
is_before-split [] (y ∷ ys) us vs same h = absurd (omega arith)
is_before-split (x ∷ xs) [] us vs same h = absurd (omega arith)
is_before-split (x ∷ xs) (y ∷ ys) us vs same h =
    elim (is_before-cases x y (xs ++ us) (ys ++ vs) h) [
      | inl lower ↦ inr (is_before-lower x y xs ys lower)
      | inr rest ↦ elim (is_before-split xs ys us vs (omega arith) rest.1) [
        | inl equal ↦ inl (ap (λ z. z ∷ xs) rest.0 ∙ ap (λ zs. y ∷ zs) equal.0, equal.1)
        | inr first ↦ inr (subst (λ z. is_before (x ∷ xs) (z ∷ ys) ≡ true) rest.0 (is_before-equal x xs ys ∙ first))
      ]
    ]

pub is_before-join : (xs ys us vs : List ℕ) → length xs ≡ length ys → is_before xs ys ≡ true → is_before (xs ++ us) (ys ++ vs) ≡ true
is_before-join [] [] us vs same h = absurd (true≢false (sym h))
is_before-join [] (y ∷ ys) us vs same h = absurd (omega arith)
is_before-join (x ∷ xs) [] us vs same h = absurd (omega arith)
is_before-join (x ∷ xs) (y ∷ ys) us vs same h =
    elim (is_before-cases x y xs ys h) [
      | inl lower ↦ is_before-lower x y (xs ++ us) (ys ++ vs) lower
      | inr rest ↦ subst (λ z. is_before (x ∷ (xs ++ us)) (z ∷ (ys ++ vs)) ≡ true) rest.0 (is_before-equal x (xs ++ us) (ys ++ vs) ∙ is_before-join xs ys us vs (omega arith) rest.1)
    ]

-- a map that raises numbers keeps their order
pub is_before-map : (f : ℕ → ℕ) → ((x y : ℕ) → x < y → f x < f y) → (xs ys : List ℕ) → is_before xs ys ≡ true → is_before (map f xs) (map f ys) ≡ true
is_before-map f raises [] [] h = h
is_before-map f raises [] (y ∷ ys) h = refl
is_before-map f raises (x ∷ xs) [] h = h
is_before-map f raises (x ∷ xs) (y ∷ ys) h =
    elim (is_before-cases x y xs ys h) [
      | inl lower ↦ is_before-lower (f x) (f y) (map f xs) (map f ys) (raises x y lower)
      | inr rest ↦ subst (λ z. is_before (f x ∷ map f xs) (f z ∷ map f ys) ≡ true) rest.0 (is_before-equal (f x) (map f xs) (map f ys) ∙ is_before-map f raises xs ys rest.1)
    ]

get_at : (xs ys zs : List ℕ) (c n : ℕ) → n ≡ length xs → get_or ((xs ++ c ∷ ys) ++ zs) n 0 ≡ c
get_at [] ys zs c n e = ap (λ n. get_or (c ∷ (ys ++ zs)) n 0) e
get_at (x ∷ xs) ys zs c n e = ap (λ n. get_or (x ∷ ((xs ++ c ∷ ys) ++ zs)) n 0) e ∙ get_at xs ys zs c (length xs) refl

drop_at : (xs ys zs : List ℕ) (c : ℕ) → drop (suc (length xs)) ((xs ++ c ∷ ys) ++ zs) ≡ ys ++ zs
drop_at [] ys zs c = refl
drop_at (x ∷ xs) ys zs c = drop_at xs ys zs c

take_front : (ys zs : List ℕ) → take (length ys) (ys ++ zs) ≡ ys
take_front [] zs = refl
take_front (y ∷ ys) zs = ap (λ rest. y ∷ rest) (take_front ys zs)

pub drop_front : (xs ys : List ℕ) (n : ℕ) → length xs ≡ n → drop n (xs ++ ys) ≡ ys
drop_front [] ys n e = ap (λ n. drop n ys) (sym e)
drop_front (x ∷ xs) ys n e = ap (λ n. drop n (x ∷ (xs ++ ys))) (sym e) ∙ drop_front xs ys (length xs) refl

-- sets of one size with one key are one set
pub limbo_key-apart : (bound : ℕ) (scores : List ℕ) (x y : List ℕ) → length x ≡ length y → limbo_key_in bound scores x ≡ limbo_key_in bound scores y → x ≡ y
limbo_key-apart bound scores x y same equal =
    let front : List ℕ → List ℕ = λ set. map (λ number. turned_in bound (score_of scores number)) set in
    sym (drop_front (front x) x (length x) (length-map x (λ number. turned_in bound (score_of scores number))))
    ∙ ap (drop (length x)) equal
    ∙ drop_front (front y) y (length x) (length-map y (λ number. turned_in bound (score_of scores number)) ∙ sym same)

module _ (scores : List ℕ) (k : ℕ) (falls : IsNonAscending scores) where
  abbrev pub sc : ℕ → ℕ
  sc place = slice_index scores place

  abbrev pub fits : List ℕ → ℕ → Bool
  fits path place = if nat_lt (length path) k then leads scores k path place else mirrors scores k path place

  -- later scores are no higher, also past the end
  step : (i : ℕ) → sc (i + 1) ≤ sc i
  step i =
      elim (cases_lt (i + 1) (length scores)) [
        | inl inside ↦ falls i inside
        | inr past ↦ omega (arith, get_or_past scores (i + 1) 0 past)
      ]

  no_higher : (d i j : ℕ) → j ≡ i + d → sc j ≤ sc i
  no_higher zero i j e = let same : sc j ≡ sc i = ap (slice_index scores) (omega arith) in omega arith
  no_higher (suc d) i j e =
      let here : sc j ≡ sc ((i + d) + 1) = ap (slice_index scores) (omega arith) in
      omega (arith, here, step (i + d), no_higher d i (i + d) refl)

  no_higher_at : (i j : ℕ) → i ≤ j → sc j ≤ sc i
  no_higher_at i j h = no_higher (j - i) i j (omega arith)

  -- as many of a score as follow a place are there
  tight : (count place : ℕ) (places : List ℕ) → Climbs (suc place) count places → sc (place + front_with scores (sc place) places) ≡ sc place
  tight count place [] climbs = ap (slice_index scores) (omega arith)
  tight count place (x ∷ places) climbs =
      elim (cases_Bool (sc x == sc place)) [
        | inl same ↦
            let equal : sc x ≡ sc place = eqb-true (sc x) (sc place) same in
            let n : ℕ = front_with scores (sc place) places in
            let later : sc (x + n) ≡ sc place = subst (λ s. sc (x + front_with scores s places) ≡ s) equal (tight count x places climbs.2) in
            let above : suc place ≤ x = climbs.0 in
            let low : sc (place + (1 + n)) ≤ sc place = no_higher_at place (place + (1 + n)) (omega arith) in
            let high : sc (x + n) ≤ sc (place + (1 + n)) = no_higher_at (place + (1 + n)) (x + n) (omega arith) in
            ap (λ b. sc (place + (if b then 1 + n else 0))) same ∙ omega arith
        | inr other ↦ ap (λ b. sc (place + (if b then 1 + front_with scores (sc place) places else 0))) other ∙ ap (slice_index scores) (omega arith)
      ]

  front_with-same : (score : ℕ) (xs ys : List ℕ) → map sc xs ≡ map sc ys → front_with scores score xs ≡ front_with scores score ys
  front_with-same score [] [] same = refl
  front_with-same score [] (y ∷ ys) same = cc
  front_with-same score (x ∷ xs) [] same = cc
  front_with-same score (x ∷ xs) (y ∷ ys) same =
      let heads : sc x ≡ sc y = cc in
      let tails : map sc xs ≡ map sc ys = cc in
      ap (λ s. if s == score then 1 + front_with scores score xs else 0) heads
      ∙ ap (λ n. if sc y == score then 1 + n else 0) (front_with-same score xs ys tails)

  -- which test asks
  fits-first : (path : List ℕ) (place : ℕ) → length path < k → fits path place ≡ leads scores k path place
  fits-first path place h = ap (λ b. if b then leads scores k path place else mirrors scores k path place) (lt-ltb (length path) k h)

  fits-second : (path : List ℕ) (place : ℕ) → k ≤ length path → fits path place ≡ mirrors scores k path place
  fits-second path place h = ap (λ b. if b then leads scores k path place else mirrors scores k path place) (le-ltb (length path) k h)

  -- what is asked of a place of the second half
  mirrors-at : (before later set : List ℕ) (c place : ℕ) → length (before ++ c ∷ later) ≡ k → length set ≡ length before → mirrors scores k ((before ++ c ∷ later) ++ set) place ≡ ((sc place == sc c) && (sc (place + front_with scores (sc c) later) == sc c))
  unfolding mirrors
  mirrors-at before later set c place whole same =
      let path : List ℕ = (before ++ c ∷ later) ++ set in
      let j : length path - k ≡ length before = omega (arith, length-append (before ++ c ∷ later) set) in
      let here : get_or path (length path - k) 0 ≡ c = get_at before later set c (length path - k) j in
      let rest : slice_range path (length path - k + 1) k ≡ later =
      ap (λ n. take (k - n) (drop n path)) (let e : length path - k + 1 ≡ suc (length before) = omega (arith, j) in e)
      ∙ ap (take (k - suc (length before))) (drop_at before later set c)
      ∙ ap (λ n. take n (later ++ set)) (let e : k - suc (length before) ≡ length later = omega (arith, whole, length-append before (c ∷ later)) in e)
      ∙ take_front later set in
      ap (λ d. (sc place == sc d) && (sc (place + front_with scores (sc d) (slice_range path (length path - k + 1) k)) == sc d)) here
      ∙ ap (λ l. (sc place == sc c) && (sc (place + front_with scores (sc c) l) == sc c)) rest

  regroup : (before later set : List ℕ) (c place : ℕ) → ((before ++ c ∷ later) ++ set) ++ place ∷ [] ≡ ((before ++ c ∷ []) ++ later) ++ (set ++ place ∷ [])
  regroup before later set c place =
      append_assoc (before ++ c ∷ later) set (place ∷ [])
      ∙ ap (λ xs. xs ++ (set ++ place ∷ [])) (sym (append_assoc before (c ∷ []) later))

  -- the second half has the scores of the first
  second-scores : (before later set places : List ℕ) → length (before ++ later) ≡ k → length set ≡ length before → length places ≡ length later → AllFit fits ((before ++ later) ++ set) places → map sc places ≡ map sc later
  second-scores before [] set [] whole same long fit = refl
  second-scores before [] set (a ∷ places) whole same long fit = absurd (omega arith)
  second-scores before (c ∷ later) set [] whole same long fit = absurd (omega arith)
  second-scores before (c ∷ later) set (a ∷ places) whole same long fit =
      let path : List ℕ = (before ++ c ∷ later) ++ set in
      let asked : ((sc a == sc c) && (sc (a + front_with scores (sc c) later) == sc c)) ≡ true =
      sym (fits-second path a (omega (arith, whole, length-append (before ++ c ∷ later) set)) ∙ mirrors-at before later set c a whole same) ∙ fit.0 in
      let here : sc a ≡ sc c = eqb-true (sc a) (sc c) (and_parts (sc a == sc c) (sc (a + front_with scores (sc c) later) == sc c) asked).0 in
      let rest : map sc places ≡ map sc later =
      second-scores (before ++ c ∷ []) later (set ++ a ∷ []) places (ap length (append_assoc before (c ∷ []) later) ∙ whole)
      (omega (arith, same, length-append set (a ∷ []), length-append before (c ∷ []))) (omega arith)
      (subst (λ p. AllFit fits p places) (regroup before later set c a) fit.1) in
      ap (λ s. s ∷ map sc places) here ∙ ap (λ ss. sc c ∷ ss) rest

  second-fits : (before later set places : List ℕ) (low : ℕ) → length (before ++ later) ≡ k → length set ≡ length before → map sc places ≡ map sc later → Climbs low (length scores) places → AllFit fits ((before ++ later) ++ set) places
  second-fits before [] set [] low whole same scored climbs = tt
  second-fits before [] set (a ∷ places) low whole same scored climbs = cc
  second-fits before (c ∷ later) set [] low whole same scored climbs = tt
  second-fits before (c ∷ later) set (a ∷ places) low whole same scored climbs =
      let path : List ℕ = (before ++ c ∷ later) ++ set in
      let here : sc a ≡ sc c = cc in
      let rest : map sc places ≡ map sc later = cc in
      let room : sc (a + front_with scores (sc c) later) ≡ sc c =
      ap (λ n. sc (a + n)) (sym (front_with-same (sc c) places later rest)) ∙ subst (λ s. sc (a + front_with scores s places) ≡ s) here (tight (length scores) a places climbs.2) in (
        fits-second path a (omega (arith, whole, length-append (before ++ c ∷ later) set)) ∙ mirrors-at before later set c a whole same
            ∙ and_from (sc a == sc c) (sc (a + front_with scores (sc c) later) == sc c) (eq-eqb (sc a) (sc c) here) (eq-eqb (sc (a + front_with scores (sc c) later)) (sc c) room),
        subst (λ p. AllFit fits p places) (sym (regroup before later set c a))
            (second-fits (before ++ c ∷ []) later (set ++ a ∷ []) places (suc a) (ap length (append_assoc before (c ∷ []) later) ∙ whole)
            (omega (arith, same, length-append set (a ∷ []), length-append before (c ∷ []))) rest climbs.2),
      )

  -- the first place with the score of a place, from one on
  leader-is : (count i a : ℕ) → a ≡ i + count → (i ≤ leader scores a i count) × (leader scores a i count ≤ a) × (sc (leader scores a i count) ≡ sc a) × ((leader scores a i count ≡ i) ⊎ (sc (leader scores a i count - 1) ≡ sc (leader scores a i count) → ⊥))
  leader-is zero i a e = (omega arith, omega arith, refl, inl (omega arith))
  leader-is (suc count) i a e =
      let P : ℕ → Type 0 = λ c. (i ≤ c) × (c ≤ a) × (sc c ≡ sc a) × ((c ≡ i) ⊎ (sc (c - 1) ≡ sc c → ⊥)) in
      elim (cases_Bool (sc i == sc a)) [
        | inl equal ↦
            let is : leader scores a i (suc count) ≡ i = ap (λ b. if b then i else leader scores a (suc i) count) equal in
            let here : P i = (omega arith, omega arith, eqb-true (sc i) (sc a) equal, inl refl) in
            subst P (sym is) here
        | inr other ↦
            let is : leader scores a i (suc count) ≡ leader scores a (suc i) count = ap (λ b. if b then i else leader scores a (suc i) count) other in
            let rest = leader-is count (suc i) a (omega arith) in
            let c : ℕ = leader scores a (suc i) count in
            let apart : sc (c - 1) ≡ sc c → ⊥ =
            elim rest.3 [
              | inl next ↦ (λ same.
                  let before : sc (c - 1) ≡ sc i = ap (slice_index scores) (omega (arith, next)) in
                  eqb-false (sc i) (sc a) other (sym before ∙ same ∙ rest.2))
              | inr differ ↦ differ
            ] in
            let there : P c = (omega (arith, rest.0), rest.1, rest.2, inr apart) in
            subst P (sym is) there
      ]

  leads-from : (beginning : List ℕ) (s a : ℕ) → half_start k beginning ≡ s → s ≤ a → (s ≤ leader scores a s (a - s)) × (leader scores a s (a - s) ≤ a) × (sc (leader scores a s (a - s)) ≡ sc a) × (leads scores k beginning (leader scores a s (a - s)) ≡ true)
  unfolding leads
  leads-from beginning s a start h =
      let c : ℕ = leader scores a s (a - s) in
      let is = leader-is (a - s) s a (omega arith) in (
        is.0,
        is.1,
        is.2,
        elim is.3 [
          | inl first ↦
              or_left ((c == half_start k beginning) || (c == 0)) (not (sc (c - 1) == sc c))
              (or_left (c == half_start k beginning) (c == 0) (eq-eqb c (half_start k beginning) (first ∙ sym start)))
          | inr apart ↦
              or_right ((c == half_start k beginning) || (c == 0)) (not (sc (c - 1) == sc c))
              (not_from_false (sc (c - 1) == sc c) (ne_eqb (sc (c - 1)) (sc c) apart))
        ],
      )

  -- each set has a first set with the same scores
  first_set : (beginning places : List ℕ) (s low : ℕ) → length beginning + length places ≡ k → (0 < length places → half_start k beginning ≡ s) → s ≤ low → Climbs low (length scores) places → Climbs s (length scores) (leaders scores s places) × AllFit fits beginning (leaders scores s places) × (map sc (leaders scores s places) ≡ map sc places) × (length (leaders scores s places) ≡ length places)
  first_set beginning [] s low whole start h climbs = (tt, tt, refl, refl)
  first_set beginning (a ∷ places) s low whole start h climbs =
      let c : ℕ = leader scores a s (a - s) in
      let is = leads-from beginning s a (start (omega arith)) (omega (arith, climbs.0)) in
      let rest = first_set (beginning ++ c ∷ []) places (suc c) (suc a) (omega (arith, whole, length-append beginning (c ∷ [])))
      (λ more. start-on k beginning c (λ e. omega arith)) (omega (arith, is.1)) climbs.2 in (
        (is.0, omega (arith, is.1, climbs.1), rest.0),
        (fits-first beginning c (omega arith) ∙ is.3, rest.1),
        ap (λ x. x ∷ map sc (leaders scores (suc c) places)) is.2 ∙ ap (λ xs. sc a ∷ xs) rest.2,
        ap suc rest.3,
      )

  module _ (small : (i : ℕ) → sc i ≤ 65535) where
    abbrev weight : ℕ → ℕ
    weight place = turned (sc place)

    -- a place that leads later has a lower score
    leads-lower : (beginning : List ℕ) (s x y : ℕ) → half_start k beginning ≡ s → s ≤ x → x < y → leads scores k beginning y ≡ true → weight x < weight y
    unfolding leads
    leads-lower beginning s x y start low below leading =
        elim (or_cases ((y == half_start k beginning) || (y == 0)) (not (sc (y - 1) == sc y)) leading) [
          | inl early ↦ elim (or_cases (y == half_start k beginning) (y == 0) early) [
            | inl first ↦ absurd (omega (arith, eqb-true y (half_start k beginning) first, start))
            | inr none ↦ absurd (omega (arith, eqb-true y 0 none))
          ]
          | inr apart ↦
              let differ : sc (y - 1) ≡ sc y → ⊥ = eqb-false (sc (y - 1)) (sc y) (not-true (sc (y - 1) == sc y) apart) in
              let up : sc y ≤ sc (y - 1) = no_higher_at (y - 1) y (omega arith) in
              let over : sc (y - 1) ≤ sc x = no_higher_at x (y - 1) (omega arith) in
              omega (arith, differ, up, over, small x, small y)
        ]

    leads-order : (beginning xs ys : List ℕ) (s : ℕ) → (0 < length xs → half_start k beginning ≡ s) → length beginning + length xs ≡ k → length xs ≡ length ys → Climbs s (length scores) xs → AllFit fits beginning xs → AllFit fits beginning ys → is_before xs ys ≡ true → is_before (map weight xs) (map weight ys) ≡ true
    leads-order beginning [] [] s start whole same climbs p q h = h
    leads-order beginning [] (y ∷ ys) s start whole same climbs p q h = refl
    leads-order beginning (x ∷ xs) [] s start whole same climbs p q h = h
    leads-order beginning (x ∷ xs) (y ∷ ys) s start whole same climbs p q h =
        elim (is_before-cases x y xs ys h) [
          | inl lower ↦
              is_before-lower (weight x) (weight y) (map weight xs) (map weight ys)
              (leads-lower beginning s x y (start (omega arith)) climbs.0 lower (sym (fits-first beginning y (omega arith)) ∙ q.0))
          | inr rest ↦
              let later : AllFit fits (beginning ++ x ∷ []) ys = subst (λ z. AllFit fits (beginning ++ z ∷ []) ys) (sym rest.0) q.1 in
              subst (λ z. is_before (weight x ∷ map weight xs) (weight z ∷ map weight ys) ≡ true) rest.0
              (is_before-equal (weight x) (map weight xs) (map weight ys)
              ∙ leads-order (beginning ++ x ∷ []) xs ys (suc x) (λ more. start-on k beginning x (λ e. omega arith)) (omega (arith, whole, length-append beginning (x ∷ []))) (omega arith) climbs.2 p.1 later rest.1)
        ]

    -- the front of the key of a set
    front_of : (places : List ℕ) → map (λ number. turned (score_of scores number)) (numbers_of places) ≡ map weight places
    front_of places =
        map-map (λ number. turned (score_of scores number)) (λ place. place + 1) places
        ∙ map-same (λ place. turned (score_of scores (place + 1))) weight places (λ place. ap (λ n. turned (slice_index scores n)) (let e : place + 1 - 1 ≡ place = omega arith in e))

    abbrev plan : Plan
    plan = limbo_plan scores k

    limbo-order : (p q : List ℕ) → IsIn p (found plan (k + k) []) → IsIn q (found plan (k + k) []) → is_before p q ≡ true → is_before (limbo_key scores (second_numbers k p)) (limbo_key scores (second_numbers k q)) ≡ true
    unfolding half_start
    limbo-order p q m n h =
        let found_p = found-admitted plan (k + k) [] p m in
        let found_q = found-admitted plan (k + k) [] q n in
        let halves_p = halves-split k (length scores) (length scores) fits (λ path place. None) found_p.0 found_p.2 in
        let halves_q = halves-split k (length scores) (length scores) fits (λ path place. None) found_q.0 found_q.2 in
        let C : List ℕ = halves_p.0 in let A : List ℕ = halves_p.1 in
        let D : List ℕ = halves_q.0 in let B : List ℕ = halves_q.1 in
        let p_is : p ≡ C ++ A = found_p.1 ∙ halves_p.2 in
        let q_is : q ≡ D ++ B = found_q.1 ∙ halves_q.2 in
        let set_p : second_numbers k p ≡ numbers_of A = ap (second_numbers k) p_is ∙ ap numbers_of (drop_front C A k halves_p.3.front_length) in
        let set_q : second_numbers k q ≡ numbers_of B = ap (second_numbers k) q_is ∙ ap numbers_of (drop_front D B k halves_q.3.front_length) in
        let scored_p : map sc A ≡ map sc C = second-scores [] C [] A halves_p.3.front_length refl (omega (arith, halves_p.3.front_length, halves_p.3.back_length)) (subst (λ c. AllFit fits c A) (sym (append-nil C)) halves_p.3.back_fits) in
        let scored_q : map sc B ≡ map sc D = second-scores [] D [] B halves_q.3.front_length refl (omega (arith, halves_q.3.front_length, halves_q.3.back_length)) (subst (λ c. AllFit fits c B) (sym (append-nil D)) halves_q.3.back_fits) in
        let weigh_p : map weight A ≡ map weight C = sym (map-map turned sc A) ∙ ap (map turned) scored_p ∙ map-map turned sc C in
        let weigh_q : map weight B ≡ map weight D = sym (map-map turned sc B) ∙ ap (map turned) scored_q ∙ map-map turned sc D in
        let key_p : limbo_key scores (second_numbers k p) ≡ map weight C ++ numbers_of A = ap (limbo_key scores) set_p ∙ ap (λ front. front ++ numbers_of A) (front_of A ∙ weigh_p) in
        let key_q : limbo_key scores (second_numbers k q) ≡ map weight D ++ numbers_of B = ap (limbo_key scores) set_q ∙ ap (λ front. front ++ numbers_of B) (front_of B ∙ weigh_q) in
        let same : length C ≡ length D = halves_p.3.front_length ∙ sym halves_q.3.front_length in
        let cases = is_before-split C D A B same (subst (λ z. is_before (C ++ A) z ≡ true) q_is (subst (λ z. is_before z q ≡ true) p_is h)) in
        subst (λ z. is_before z (limbo_key scores (second_numbers k q)) ≡ true) (sym key_p)
        (subst (λ z. is_before (map weight C ++ numbers_of A) z ≡ true) (sym key_q)
        (elim cases [
          | inl equal ↦
              subst (λ z. is_before (map weight C ++ numbers_of A) (map weight z ++ numbers_of B) ≡ true) equal.0
              (is_before-beginning (map weight C) (numbers_of A) (numbers_of B) ∙ is_before-map (λ place. place + 1) (λ x y below. omega arith) A B equal.1)
          | inr first ↦
              is_before-join (map weight C) (map weight D) (numbers_of A) (numbers_of B) (length-map C weight ∙ same ∙ sym (length-map D weight))
              (leads-order [] C D 0 (λ more. refl) (zero-add (length C) ∙ halves_p.3.front_length) same halves_p.3.front_climbs halves_p.3.front_fits halves_q.3.front_fits first)
        ]))

    places_up : (first count : ℕ) → map (λ place. place + 1) (numbers_from first count) ≡ numbers_from (suc first) count
    places_up first zero = refl
    places_up first (suc count) = ap (λ x. x ∷ map (λ place. place + 1) (numbers_from (suc first) count)) (let e : first + 1 ≡ suc first = omega arith in e) ∙ ap (λ xs. suc first ∷ xs) (places_up (suc first) count)

    all_sets : subsets (numbers_from 1 (length scores)) k ≡ map numbers_of (subsets (numbers_from 0 (length scores)) k)
    all_sets =
        ap (λ numbers. subsets numbers k) (sym (places_up 0 (length scores))) ∙ subsets-map (λ place. place + 1) (numbers_from 0 (length scores)) k

    found-set : (set : List ℕ) → IsIn set (map (second_numbers k) (found plan (k + k) [])) → IsIn set (subsets (numbers_from 1 (length scores)) k)
    found-set set m =
        let from = IsIn-map (second_numbers k) set (found plan (k + k) []) m in
        let path = found-admitted plan (k + k) [] from.0 from.2 in
        let halves = halves-split k (length scores) (length scores) fits (λ path place. None) path.0 path.2 in
        let is : set ≡ numbers_of halves.1 = from.1 ∙ ap (second_numbers k) (path.1 ∙ halves.2) ∙ ap numbers_of (drop_front halves.0 halves.1 k halves.3.front_length) in
        subst (IsIn set) (sym all_sets)
        (subst (λ z. IsIn z (map numbers_of (subsets (numbers_from 0 (length scores)) k))) (sym is)
        (map-IsIn numbers_of halves.1 (subsets (numbers_from 0 (length scores)) k)
        (climbs-subset 0 (length scores) k halves.1 (subst (λ b. Climbs 0 b halves.1) (let e : length scores ≡ 0 + length scores = omega arith in e) halves.3.back_climbs) halves.3.back_length)))

    places-again : (places : List ℕ) → places_of (numbers_of places) ≡ places
    places-again [] = refl
    places-again (x ∷ places) = ap (λ y. y ∷ places_of (numbers_of places)) (let e : x + 1 - 1 ≡ x = omega arith in e) ∙ ap (λ ys. x ∷ ys) (places-again places)

    -- each set has its places, which climb
    pub set-places : (set : List ℕ) → IsIn set (subsets (numbers_from 1 (length scores)) k) → Climbs 0 (length scores) (places_of set) × (length (places_of set) ≡ k) × (set ≡ numbers_of (places_of set))
    set-places set m =
        let from = IsIn-map numbers_of set (subsets (numbers_from 0 (length scores)) k) (subst (IsIn set) all_sets m) in
        let climbs = subsets-climb 0 (length scores) k from.0 from.2 in
        let same : places_of set ≡ from.0 = ap places_of from.1 ∙ places-again from.0 in (
          subst (Climbs 0 (length scores)) (sym same) (subst (λ b. Climbs 0 b from.0) (let e : 0 + length scores ≡ length scores = omega arith in e) climbs.0),
          ap length same ∙ climbs.1,
          from.1 ∙ ap numbers_of (sym same),
        )

    -- and a path that finds it
    path-found : (set : List ℕ) → IsIn set (subsets (numbers_from 1 (length scores)) k) → Admitted plan (k + k) [] (limbo_path scores set) × (second_numbers k (limbo_path scores set) ≡ set)
    unfolding half_start
    path-found set m =
        let A : List ℕ = places_of set in
        let C : List ℕ = leaders scores 0 A in
        let is = set-places set m in
        let front = first_set [] A 0 0 (omega (arith, is.1)) (λ more. refl) (omega arith) is.0 in
        let long : length C ≡ k = front.3 ∙ is.1 in
        let halved : Halved fits k (length scores) (length scores) C A = record {
          front_climbs = front.0;
          back_climbs = is.0;
          front_fits = front.1;
          back_fits = subst (λ c. AllFit fits c A) (append-nil C) (second-fits [] C [] A 0 long refl (sym front.2) is.0);
          front_length = long;
          back_length = is.1;
        } in
        (halves-join k (length scores) (length scores) fits (λ path place. None) C A halved, ap numbers_of (drop_front C A k long) ∙ sym is.2)

    set-found : (set : List ℕ) → IsIn set (subsets (numbers_from 1 (length scores)) k) → IsIn set (map (second_numbers k) (found plan (k + k) []))
    set-found set m =
        let path = path-found set m in
        subst (λ z. IsIn z (map (second_numbers k) (found plan (k + k) []))) path.1
        (map-IsIn (second_numbers k) (limbo_path scores set) (found plan (k + k) []) (admitted-found plan (k + k) [] (limbo_path scores set) path.0))

    sets_ascend : Ascends (λ set. set) (subsets (numbers_from 1 (length scores)) k)
    sets_ascend = subsets-ascend 1 (length scores) k

    starts_at_none : (open_places : ℕ) → entry plan open_places [] ≡ 0
    unfolding half_start
    starts_at_none zero = refl
    starts_at_none (suc open_places) = refl

    found-ascend : Ascends (limbo_key scores) (map (second_numbers k) (found plan (k + k) []))
    found-ascend = Ascends-map (limbo_key scores) (second_numbers k) (found plan (k + k) []) (found-ascends plan (k + k) []) limbo-order

    found-all : map (second_numbers k) (found plan (k + k) []) ≡ limbo_exchanges scores k
    found-all =
        ascending-sorted (limbo_key scores) (limbo_cmp scores) (map (second_numbers k) (found plan (k + k) [])) (subsets (numbers_from 1 (length scores)) k)
        (λ x y m n. limbo_cmp-is 65535 scores small x y ((subsets-climb 1 (length scores) k x m).1 ∙ sym (subsets-climb 1 (length scores) k y n).1))
        found-ascend
        sets_ascend
        (λ x y m n. limbo_key-apart 65535 scores x y ((subsets-climb 1 (length scores) k x m).1 ∙ sym (subsets-climb 1 (length scores) k y n).1))
        found-set set-found

    -- what a new search finds are all sets, by their keys
    pub limbo-found : map (second_numbers k) (hits (ahead plan [] 0)) ≡ limbo_exchanges scores k
    limbo-found =
        ap (λ number. map (second_numbers k) (hits (ahead plan [] number))) (sym (starts_at_none (k + k)))
        ∙ ap (λ events. map (second_numbers k) (hits events)) (ahead-new plan)
        ∙ found-all

    -- and one that begins at a set finds those from it on
    pub limbo-from : (set : List ℕ) → IsIn set (subsets (numbers_from 1 (length scores)) k) → map (second_numbers k) (hits (ahead (hinted (limbo_path scores set) plan) [] (first_hint (limbo_path scores set)))) ≡ from_on set (limbo_exchanges scores k)
    limbo-from set m =
        let hint : List ℕ = limbo_path scores set in
        let path = path-found set m in
        let here : IsIn hint (found plan (k + k) []) = admitted-found plan (k + k) [] hint path.0 in
        ap (map (second_numbers k)) (hinted-hits plan hint (sym (admitted-length plan (k + k) [] hint path.0)) (admitted-reaches plan (k + k) [] hint path.0))
        ∙ map-late (limbo_key scores) (second_numbers k) hint (found plan (k + k) []) (λ p n. order-same (limbo_key scores) (second_numbers k) (found plan (k + k) []) limbo-order p hint n here)
        ∙ ap (λ t. filter (is_late (limbo_key scores) t) (map (second_numbers k) (found plan (k + k) []))) path.1
        ∙ ap (filter (is_late (limbo_key scores) set)) found-all
        ∙ sym
        (from_on-filter (limbo_key scores) set (limbo_exchanges scores k) (subst (Ascends (limbo_key scores)) found-all found-ascend)
        (in-sorted (limbo_cmp scores) set (subsets (numbers_from 1 (length scores)) k) m))

-- what is to come, at the lists and numbers that the code has
pub limbo-at : (scores scores' : List ℕ) (k : ℕ) (hint hint' path : List ℕ) (number number' : ℕ) → scores ≡ scores' → hint ≡ hint' → path ≡ [] → number ≡ number' → map (second_numbers k) (hits (ahead (hinted hint (limbo_plan scores k)) path number)) ≡ map (second_numbers k) (hits (ahead (hinted hint' (limbo_plan scores' k)) [] number'))
limbo-at scores scores' k hint hint' path number number' same_scores same_hint none same_number =
    ap (λ scores. map (second_numbers k) (hits (ahead (hinted hint (limbo_plan scores k)) path number))) same_scores
    ∙ ap (λ hint. map (second_numbers k) (hits (ahead (hinted hint (limbo_plan scores' k)) path number))) same_hint
    ∙ ap (λ path. map (second_numbers k) (hits (ahead (hinted hint' (limbo_plan scores' k)) path number))) none
    ∙ ap (λ number. map (second_numbers k) (hits (ahead (hinted hint' (limbo_plan scores' k)) [] number))) same_number

pub limbo-trials-at : (scores scores' : List ℕ) (k : ℕ) (hint hint' path : List ℕ) (number number' : ℕ) → scores ≡ scores' → hint ≡ hint' → path ≡ [] → number ≡ number' → trials (ahead (hinted hint (limbo_plan scores k)) path number) ≡ trials (ahead (hinted hint' (limbo_plan scores' k)) [] number')
limbo-trials-at scores scores' k hint hint' path number number' same_scores same_hint none same_number =
    ap (λ scores. trials (ahead (hinted hint (limbo_plan scores k)) path number)) same_scores
    ∙ ap (λ hint. trials (ahead (hinted hint (limbo_plan scores' k)) path number)) same_hint
    ∙ ap (λ path. trials (ahead (hinted hint' (limbo_plan scores' k)) path number)) none
    ∙ ap (λ number. trials (ahead (hinted hint' (limbo_plan scores' k)) [] number)) same_number

pub leaders-length : (scores : List ℕ) (first : ℕ) (places : List ℕ) → length (leaders scores first places) ≡ length places
leaders-length scores first [] = refl
leaders-length scores first (place ∷ places) = ap suc (leaders-length scores (suc (leader scores place first (place - first))) places)

pub climbs-within : (low bound : ℕ) (xs : List ℕ) → Climbs low bound xs → AllByRecursion (λ x. x < bound) xs
climbs-within low bound [] climbs = tt
climbs-within low bound (x ∷ xs) climbs = (climbs.1, climbs-within (suc x) bound xs climbs.2)
