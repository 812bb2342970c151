-- The search of transpositions finds the tuples that may meet, in the order of their numbers.
use Rattle.std.proofs.Common.{◌≡◌, ℕ, zero, suc, ◌+◌, ◌-◌, ◌*◌, ◌<◌, ◌≤◌, Bool, true, false, not, ◌&&◌, ◌||◌, ◌==◌, eqb, ltb, if◌then◌else◌, cond, List, [], ◌∷◌, ◌++◌, map, length, take, drop, refl, sym, ◌∙◌, ap, arith, length-append, append_assoc, inl, inr, slice_index, subst}
use Rattle.std.proofs.lemmas.List.{length-map}
use Rattle.std.specs.List.{filter, flat_map, list_any, AllByRecursion}
use Rattle.std.specs.List.Sorted.{IsStrictlyIncreasing}
use Rattle.std.proofs.Math.Seq.{drop-cons, take-length}
use Rattle.std.proofs.lemmas.Simd.{map-map}
use Rattle.std.proofs.lemmas.List.{append-nil, map-append, append_cancel_left}
use Rattle.std.proofs.lemmas.List.Folds.{flat_map-map, list_any-append}
use Rattle.std.proofs.lemmas.List.Kept.{AllPairs-from_increasing}
use Rattle.std.proofs.lemmas.Bool.{ne_eqb, eq-eqb, eqb-true, lt-ltb, le-ltb, cases_order, cases_Bool, true≢false}
use Rattle.dutch_sequence.specs.Prelude.{Plan, entry, ahead, hits, trials, tuples, without, all_meet, from_on, numbers_from, transpositions, short_beginnings, beginnings_below, transposition_plan, numbers_at, place_in, places_in, hinted, first_hint, Stands, IsOpen, Walked, HasEachOnce, sorted, IsIn, lower_first, GoesOn, IsPast}
use Rattle.dutch_sequence.proofs.MarkLemmas.{once-push}
use Rattle.dutch_sequence.proofs.Moves.{Walked-below}
use Rattle.dutch_sequence.proofs.Lists.{map-flat_map, filter-flat_map, flat_map-filter, flat_map-below, map-numbers_from, map-same, filter-same, filter-filter, filter-all}
use Rattle.dutch_sequence.proofs.HalfWalks.{Admitted}
use Rattle.dutch_sequence.proofs.FoundPaths.{found-admitted}
use Rattle.dutch_sequence.proofs.FromOn.{is_late, from_on-filter, map-late}
use Rattle.dutch_sequence.proofs.Hinted.{Reaches, hinted-hits}
use Rattle.dutch_sequence.proofs.Found.{found, found-zero, found-suc, ahead-new, short_paths, trials-short}
use Rattle.dutch_sequence.proofs.Orders.{Rises, Rises-from, Rises-filter, Ascends-append, Ascends-head, IsIn-map, IsIn-flat_map, member_has, is_before-lower, sorted-ascending}
use Rattle.dutch_sequence.proofs.ByKeys.{is_before, Ascends}
use Rattle.dutch_sequence.proofs.Comparing.{lower_first-is}

-- a test of a tuple with one more number at its head
filter-head : (meets : ℕ → ℕ → Bool) (first : ℕ) (firsts : List ℕ) (x : ℕ) (tuples' : List (List ℕ)) → filter (all_meet meets (first ∷ firsts)) (map (λ tuple. x ∷ tuple) tuples') ≡ cond (meets first x) (map (λ tuple. x ∷ tuple) (filter (all_meet meets firsts) tuples')) []
filter-head meets first firsts x [] = elim (meets first x) as (λ b. ◌≡◌ {A = List (List ℕ)} [] (cond b [] [])) [ true ↦ refl | false ↦ refl ]
filter-head meets first firsts x (tuple ∷ tuples') =
    ap (λ rest. cond (meets first x && all_meet meets firsts tuple) ((x ∷ tuple) ∷ rest) rest) (filter-head meets first firsts x tuples')
    ∙ elim (meets first x) as (λ b. cond (b && all_meet meets firsts tuple) ((x ∷ tuple) ∷ cond b (map (λ tuple. x ∷ tuple) (filter (all_meet meets firsts) tuples')) []) (cond b (map (λ tuple. x ∷ tuple) (filter (all_meet meets firsts) tuples')) []) ≡ cond b (map (λ tuple. x ∷ tuple) (filter (all_meet meets firsts) (tuple ∷ tuples'))) []) [
      | true ↦ elim (all_meet meets firsts tuple) as (λ b. cond b ((x ∷ tuple) ∷ map (λ tuple. x ∷ tuple) (filter (all_meet meets firsts) tuples')) (map (λ tuple. x ∷ tuple) (filter (all_meet meets firsts) tuples')) ≡ map (λ tuple. x ∷ tuple) (cond b (tuple ∷ filter (all_meet meets firsts) tuples') (filter (all_meet meets firsts) tuples'))) [ true ↦ refl | false ↦ refl ]
      | false ↦ refl
    ]

-- where a number fits, what is found below it comes out under both tests
both_tests : (free may : Bool) (f : List ℕ → List ℕ) (paths numbers : List (List ℕ)) (g : List ℕ → List ℕ) → map f paths ≡ map g numbers → map f (cond (free && may) paths []) ≡ cond free (map g (cond may numbers [])) []
both_tests true true f paths numbers g same = same
both_tests true false f paths numbers g same = refl
both_tests false may f paths numbers g same = refl

-- tuples with a first member from a rising list ascend, if those after each one do
tuples-ascend_from : (k : ℕ) (all : List ℕ) → ((x : ℕ) → Ascends (λ tuple. tuple) (tuples (without x all) k)) → (xs : List ℕ) → Rises xs → Ascends (λ tuple. tuple) (flat_map (λ x. map (λ tuple. x ∷ tuple) (tuples (without x all) k)) xs)
tuples-ascend_from k all each [] rises = tt
tuples-ascend_from k all each (x ∷ xs) rises =
    Ascends-append (λ tuple. tuple) (map (λ tuple. x ∷ tuple) (tuples (without x all) k)) (flat_map (λ x. map (λ tuple. x ∷ tuple) (tuples (without x all) k)) xs)
    (Ascends-head x (tuples (without x all) k) (each x))
    (tuples-ascend_from k all each xs rises.1)
    (λ a b m n.
    let here = IsIn-map (λ tuple. x ∷ tuple) a (tuples (without x all) k) m in
    let later = IsIn-flat_map (λ y. map (λ tuple. y ∷ tuple) (tuples (without y all) k)) b xs n in
    let there = IsIn-map (λ tuple. later.0 ∷ tuple) b (tuples (without later.0 all) k) later.2 in
    subst (λ z. is_before z b ≡ true) (sym here.1)
    (subst (λ z. is_before (x ∷ here.0) z ≡ true) (sym there.1)
    (is_before-lower x later.0 here.0 there.0 (member_has (λ y. x < y) xs rises.0 later.0 later.1))))

-- the tuples of a rising list ascend
pub tuples-ascend : (k : ℕ) (numbers : List ℕ) → Rises numbers → Ascends (λ tuple. tuple) (tuples numbers k)
tuples-ascend zero numbers rises = (tt, tt)
tuples-ascend (suc k) numbers rises =
    tuples-ascend_from k numbers (λ x. tuples-ascend k (without x numbers) (Rises-filter (λ y. not (eqb y x)) numbers rises)) numbers rises

map-self : (xs : List (List ℕ)) → map (λ x. x) xs ≡ xs
map-self [] = refl
map-self (x ∷ xs) = ap (λ rest. x ∷ rest) (map-self xs)

module _ (meets : ℕ → ℕ → Bool) (first pool : List ℕ) (rises : IsStrictlyIncreasing pool) where
  abbrev pub plan : Plan
  plan = transposition_plan meets first pool

  -- whether a number is at no place of a path
  abbrev pub free : List ℕ → ℕ → Bool
  free path x = not (list_any (eqb x) (numbers_at pool path))

  reads_apart : (i j : ℕ) → i < length pool → j < length pool → eqb i j ≡ eqb (slice_index pool i) (slice_index pool j)
  reads_apart i j low high =
      elim (cases_order i j) [
        | inl same ↦ eq-eqb i j same ∙ sym (eq-eqb (slice_index pool i) (slice_index pool j) (ap (slice_index pool) same))
        | inr (inl below) ↦
            let lower : slice_index pool i < slice_index pool j = AllPairs-from_increasing pool rises i j 0 below high in
            ne_eqb i j (λ e. omega arith) ∙ sym (ne_eqb (slice_index pool i) (slice_index pool j) (λ e. omega arith))
        | inr (inr above) ↦
            let lower : slice_index pool j < slice_index pool i = AllPairs-from_increasing pool rises j i 0 above low in
            ne_eqb i j (λ e. omega arith) ∙ sym (ne_eqb (slice_index pool i) (slice_index pool j) (λ e. omega arith))
      ]

  -- a place is taken if its number is
  taken : (i : ℕ) (path : List ℕ) → i < length pool → AllByRecursion (λ place. place < length pool) path → list_any (eqb i) path ≡ list_any (eqb (slice_index pool i)) (numbers_at pool path)
  taken i [] low within = refl
  taken i (j ∷ path) low within =
      ap (λ b. b || list_any (eqb i) path) (reads_apart i j low within.0)
      ∙ ap (λ b. eqb (slice_index pool i) (slice_index pool j) || b) (taken i path low within.1)

  within-push : (i : ℕ) (path : List ℕ) → i < length pool → AllByRecursion (λ place. place < length pool) path → AllByRecursion (λ place. place < length pool) (path ++ i ∷ [])
  within-push i [] low within = (low, tt)
  within-push i (j ∷ path) low within = (within.0, within-push i path low within.1)

  or_not : (a b : Bool) → not (a || (b || false)) ≡ (not a && not b)
  or_not true b = refl
  or_not false true = refl
  or_not false false = refl

  free-push : (i : ℕ) (path : List ℕ) → filter (free (path ++ i ∷ [])) pool ≡ without (slice_index pool i) (filter (free path) pool)
  free-push i path =
      filter-same (free (path ++ i ∷ [])) (λ x. free path x && not (eqb x (slice_index pool i))) pool
      (λ x.
      ap (λ numbers. not (list_any (eqb x) numbers)) (map-append (λ place. slice_index pool place) path (i ∷ []))
      ∙ ap not (list_any-append (eqb x) (numbers_at pool path) (slice_index pool i ∷ []))
      ∙ or_not (list_any (eqb x) (numbers_at pool path)) (eqb x (slice_index pool i)))
      ∙ sym (filter-filter (λ x. not (eqb x (slice_index pool i))) (free path) pool)

  -- what the search finds below a path, as numbers
  pub tuples-found : (open_places : ℕ) (path : List ℕ) → AllByRecursion (λ place. place < length pool) path → length path + open_places ≤ length first → map (numbers_at pool) (found plan open_places path) ≡ map (λ tuple. numbers_at pool path ++ tuple) (filter (all_meet meets (take open_places (drop (length path) first))) (tuples (filter (free path) pool) open_places))
  tuples-found zero path within room =
      ap (map (numbers_at pool)) (found-zero plan path)
      ∙ ap (λ numbers. numbers ∷ []) (sym (append-nil (numbers_at pool path)))
  tuples-found (suc open_places) path within room =
      let n : ℕ = length path in
      let value : ℕ → ℕ = slice_index pool in
      let p : List ℕ → Bool = all_meet meets (take (suc open_places) (drop n first)) in
      let rest : List ℕ = take open_places (drop (suc n) first) in
      let heads : take (suc open_places) (drop n first) ≡ slice_index first n ∷ rest = ap (take (suc open_places)) (drop-cons first n 0 (omega arith)) in
      let grown : ℕ → List (List ℕ) = λ x. map (λ tuple. x ∷ tuple) (tuples (without x (filter (free path) pool)) open_places) in
      let passing : ℕ → List (List ℕ) = λ x. map (λ tuple. x ∷ tuple) (filter (all_meet meets rest) (tuples (without x (filter (free path) pool)) open_places)) in
      let put_on : List ℕ → List ℕ = λ tuple. numbers_at pool path ++ tuple in
      let G : ℕ → List (List ℕ) = λ x. map put_on (filter p (grown x)) in
      let B : ℕ → List (List ℕ) = λ x. cond (free path x) (G x) [] in
      let A : ℕ → List (List ℕ) = λ i. cond (plan.fits path i) (found plan open_places (path ++ i ∷ [])) [] in
      let deeper : (i : ℕ) → i < length pool → map (numbers_at pool) (found plan open_places (path ++ i ∷ [])) ≡ map put_on (passing (value i)) =
      λ i low.
      tuples-found open_places (path ++ i ∷ []) (within-push i path low within) (omega (arith, length-append path (i ∷ [])))
      ∙ ap (λ l. map (λ tuple. numbers_at pool (path ++ i ∷ []) ++ tuple) (filter (all_meet meets (take open_places (drop l first))) (tuples (filter (free (path ++ i ∷ [])) pool) open_places))) (let e : length (path ++ i ∷ []) ≡ suc n = omega (arith, length-append path (i ∷ [])) in e)
      ∙ ap (λ l. map (λ tuple. numbers_at pool (path ++ i ∷ []) ++ tuple) (filter (all_meet meets rest) (tuples l open_places))) (free-push i path)
      ∙ map-same (λ tuple. numbers_at pool (path ++ i ∷ []) ++ tuple) (λ tuple. numbers_at pool path ++ value i ∷ tuple) (filter (all_meet meets rest) (tuples (without (value i) (filter (free path) pool)) open_places))
      (λ tuple. ap (λ front. front ++ tuple) (map-append value path (i ∷ [])) ∙ append_assoc (numbers_at pool path) (value i ∷ []) tuple)
      ∙ sym (map-map put_on (λ tuple. value i ∷ tuple) (filter (all_meet meets rest) (tuples (without (value i) (filter (free path) pool)) open_places))) in
      let each : (i : ℕ) → i < length pool → map (numbers_at pool) (A i) ≡ B (value i) =
      λ i low.
      ap (λ b. map (numbers_at pool) (cond (not b && meets (slice_index first n) (value i)) (found plan open_places (path ++ i ∷ [])) [])) (taken i path low within)
      ∙ both_tests (free path (value i)) (meets (slice_index first n) (value i)) (numbers_at pool) (found plan open_places (path ++ i ∷ [])) (passing (value i)) put_on (deeper i low)
      ∙ ap (λ numbers. cond (free path (value i)) (map put_on numbers) [])
      (sym (ap (λ firsts. filter (all_meet meets firsts) (grown (value i))) heads ∙ filter-head meets (slice_index first n) rest (value i) (tuples (without (value i) (filter (free path) pool)) open_places))) in
      ap (map (numbers_at pool)) (found-suc plan open_places path)
      ∙ ap (λ count. map (numbers_at pool) (flat_map A (numbers_from 0 count))) (let e : length pool - 0 ≡ length pool = omega arith in e)
      ∙ map-flat_map (numbers_at pool) A (numbers_from 0 (length pool))
      ∙ flat_map-below (λ i. map (numbers_at pool) (A i)) (λ i. B (value i)) (length pool) 0 (length pool) (omega arith) each
      ∙ sym (flat_map-map B value (numbers_from 0 (length pool)))
      ∙ ap (flat_map B) (map-numbers_from value pool 0 (λ j lt. ap value (let e : 0 + j ≡ j = omega arith in e)))
      ∙ sym (flat_map-filter G (free path) pool)
      ∙ sym (map-flat_map put_on (λ x. filter p (grown x)) (filter (free path) pool))
      ∙ ap (map put_on) (sym (filter-flat_map p grown (filter (free path) pool)))

  starts_at_none : (open_places : ℕ) → entry plan open_places [] ≡ 0
  starts_at_none zero = refl
  starts_at_none (suc open_places) = refl

  -- of a new search, the whole paths with so many places
  pub found-new : (open_places : ℕ) → open_places ≤ length first → map (numbers_at pool) (found plan open_places []) ≡ filter (all_meet meets (take open_places first)) (tuples pool open_places)
  found-new open_places room =
      tuples-found open_places [] tt (omega arith)
      ∙ ap (λ l. map (λ tuple. tuple) (filter (all_meet meets (take open_places first)) (tuples l open_places))) (filter-all pool)
      ∙ map-self (filter (all_meet meets (take open_places first)) (tuples pool open_places))

  sorted-tuples : sorted lower_first (tuples pool (length first)) ≡ tuples pool (length first)
  sorted-tuples = sorted-ascending (λ tuple. tuple) lower_first (tuples pool (length first)) (λ x y m n. lower_first-is x y) (tuples-ascend (length first) pool (Rises-from pool rises))

  found-all : map (numbers_at pool) (found plan (length first) []) ≡ transpositions meets first pool
  found-all =
      found-new (length first) (omega arith)
      ∙ ap (λ firsts. filter (all_meet meets firsts) (tuples pool (length first))) (take-length first)
      ∙ ap (filter (all_meet meets first)) (sym sorted-tuples)

  pub transpositions-found : map (numbers_at pool) (hits (ahead plan [] 0)) ≡ transpositions meets first pool
  transpositions-found =
      ap (λ number. map (numbers_at pool) (hits (ahead plan [] number))) (sym (starts_at_none (length first)))
      ∙ ap (λ events. map (numbers_at pool) (hits events)) (ahead-new plan)
      ∙ found-all

  -- a number of the pool is at its place
  value-at : (pool' : List ℕ) (x : ℕ) → IsIn x pool' → (place_in pool' x < length pool') × (slice_index pool' (place_in pool' x) ≡ x)
  value-at [] x m = absurd m
  value-at (y ∷ pool') x m =
      elim (cases_Bool (y == x)) [
        | inl same ↦ (
          subst (λ b. (if b then 0 else 1 + place_in pool' x) < suc (length pool')) (sym same) (omega arith),
          ap (λ b. slice_index (y ∷ pool') (if b then 0 else 1 + place_in pool' x)) same ∙ eqb-true y x same,
        )
        | inr apart ↦
            let later : IsIn x pool' = elim m [ inl same ↦ absurd (true≢false (sym (eq-eqb y x (sym same)) ∙ apart)) | inr m ↦ m ] in
            let rest = value-at pool' x later in (
              subst (λ b. (if b then 0 else 1 + place_in pool' x) < suc (length pool')) (sym apart) (omega (arith, rest.0)),
              ap (λ b. slice_index (y ∷ pool') (if b then 0 else 1 + place_in pool' x)) apart
                  ∙ ap (slice_index (y ∷ pool')) (let e : 1 + place_in pool' x ≡ suc (place_in pool' x) = omega arith in e) ∙ rest.1,
            )
      ]

  members-without : (y : ℕ) (numbers tuple : List ℕ) → AllByRecursion (λ x. IsIn x (without y numbers)) tuple → AllByRecursion (λ x. IsIn x numbers) tuple
  members-without y numbers [] all = tt
  members-without y numbers (x ∷ tuple) all = (in-filter (λ z. not (eqb z y)) x numbers all.0, members-without y numbers tuple all.1)
    where
      in-filter : (p : ℕ → Bool) (x : ℕ) (xs : List ℕ) → IsIn x (filter p xs) → IsIn x xs
      in-filter p x [] m = m
      in-filter p x (z ∷ xs) m =
          elim (p z) as (λ b. IsIn x (cond b (z ∷ filter p xs) (filter p xs)) → IsIn x (z ∷ xs)) [
            | true ↦ (λ m. elim m [ inl same ↦ inl same | inr later ↦ inr (in-filter p x xs later) ])
            | false ↦ (λ m. inr (in-filter p x xs m))
          ] m

  -- a tuple has so many members of its list
  pub tuple-members : (k : ℕ) (numbers tuple : List ℕ) → IsIn tuple (tuples numbers k) → (length tuple ≡ k) × AllByRecursion (λ x. IsIn x numbers) tuple
  tuple-members zero numbers tuple (inl same) = (ap length same, subst (AllByRecursion (λ x. IsIn x numbers)) (sym same) tt)
  tuple-members zero numbers tuple (inr none) = absurd none
  tuple-members (suc k) numbers tuple m =
      let head = IsIn-flat_map (λ x. map (λ tuple. x ∷ tuple) (tuples (without x numbers) k)) tuple numbers m in
      let tail = IsIn-map (λ tuple. head.0 ∷ tuple) tuple (tuples (without head.0 numbers) k) head.2 in
      let rest = tuple-members k (without head.0 numbers) tail.0 tail.2 in (
        ap length tail.1 ∙ ap suc rest.0,
        subst (AllByRecursion (λ x. IsIn x numbers)) (sym tail.1) (head.1, members-without head.0 numbers tail.0 rest.1),
      )

  places-back : (tuple : List ℕ) → AllByRecursion (λ x. IsIn x pool) tuple → AllByRecursion (λ place. place < length pool) (places_in pool tuple) × (numbers_at pool (places_in pool tuple) ≡ tuple)
  places-back [] all = (tt, refl)
  places-back (x ∷ tuple) all =
      let here = value-at pool x all.0 in
      let rest = places-back tuple all.1 in
      ((here.0, rest.0), ap (λ y. y ∷ numbers_at pool (places_in pool tuple)) here.1 ∙ ap (λ ys. x ∷ ys) rest.1)

  reads_before : (i j : ℕ) → i < length pool → j < length pool → ltb i j ≡ ltb (slice_index pool i) (slice_index pool j)
  reads_before i j low high =
      elim (cases_order i j) [
        | inl same ↦ le-ltb i j (omega arith) ∙ sym (le-ltb (slice_index pool i) (slice_index pool j) (let e = ap (slice_index pool) same in omega arith))
        | inr (inl below) ↦
            let lower : slice_index pool i < slice_index pool j = AllPairs-from_increasing pool rises i j 0 below high in
            lt-ltb i j below ∙ sym (lt-ltb (slice_index pool i) (slice_index pool j) lower)
        | inr (inr above) ↦
            let lower : slice_index pool j < slice_index pool i = AllPairs-from_increasing pool rises j i 0 above low in
            le-ltb i j (omega arith) ∙ sym (le-ltb (slice_index pool i) (slice_index pool j) (omega arith))
      ]

  -- paths and their numbers have one order
  before-numbers : (p q : List ℕ) → AllByRecursion (λ place. place < length pool) p → AllByRecursion (λ place. place < length pool) q → is_before p q ≡ is_before (numbers_at pool p) (numbers_at pool q)
  before-numbers [] [] p-in q-in = refl
  before-numbers [] (j ∷ q) p-in q-in = refl
  before-numbers (i ∷ p) [] p-in q-in = refl
  before-numbers (i ∷ p) (j ∷ q) p-in q-in =
      ap (λ b. b || (eqb i j && is_before p q)) (reads_before i j p-in.0 q-in.0)
      ∙ ap (λ b. ltb (slice_index pool i) (slice_index pool j) || (b && is_before p q)) (reads_apart i j p-in.0 q-in.0)
      ∙ ap (λ b. ltb (slice_index pool i) (slice_index pool j) || (eqb (slice_index pool i) (slice_index pool j) && b)) (before-numbers p q p-in.1 q-in.1)

  admitted-within : (open_places : ℕ) (beginning path : List ℕ) → Admitted plan open_places beginning path → AllByRecursion (λ place. place < length pool) path
  admitted-within zero beginning path admitted = subst (AllByRecursion (λ place. place < length pool)) (sym admitted) tt
  admitted-within (suc open_places) beginning [] admitted = absurd admitted
  admitted-within (suc open_places) beginning (i ∷ path) admitted = (admitted.1, admitted-within open_places (beginning ++ i ∷ []) path admitted.3)

  reaches-all : (beginning path : List ℕ) → Reaches plan beginning path
  reaches-all beginning [] = tt
  reaches-all beginning (i ∷ path) = (omega arith, reaches-all (beginning ++ i ∷ []) path)

  and_turned : (a b : Bool) → (a && b) ≡ (b && a)
  and_turned true true = refl
  and_turned true false = refl
  and_turned false true = refl
  and_turned false false = refl

  -- a search that begins at a tuple finds those from it on, of which the players may meet
  pub transpositions-from : (tuple : List ℕ) → IsIn tuple (tuples pool (length first)) → map (numbers_at pool) (hits (ahead (hinted (places_in pool tuple) plan) [] (first_hint (places_in pool tuple)))) ≡ filter (all_meet meets first) (from_on tuple (sorted lower_first (tuples pool (length first))))
  transpositions-from tuple m =
      let hint : List ℕ = places_in pool tuple in
      let known = tuple-members (length first) pool tuple m in
      let back = places-back tuple known.1 in
      let whole : length first ≡ length hint = sym (length-map tuple (place_in pool) ∙ known.0) in
      let all : List (List ℕ) = sorted lower_first (tuples pool (length first)) in
      let late : List ℕ → List ℕ → Bool = is_late (λ tuple. tuple) in
      ap (map (numbers_at pool)) (hinted-hits plan hint whole (reaches-all [] hint))
      ∙ map-late (λ tuple. tuple) (numbers_at pool) hint (found plan (length first) [])
      (λ p n.
      let one = found-admitted plan (length first) [] p n in
      before-numbers p hint (subst (AllByRecursion (λ place. place < length pool)) (sym one.1) (admitted-within (length first) [] one.0 one.2)) back.0)
      ∙ ap (λ t. filter (late t) (map (numbers_at pool) (found plan (length first) []))) back.1
      ∙ ap (filter (late tuple)) found-all
      ∙ filter-filter (late tuple) (all_meet meets first) all
      ∙ filter-same (λ t. all_meet meets first t && late tuple t) (λ t. late tuple t && all_meet meets first t) all (λ t. and_turned (all_meet meets first t) (late tuple t))
      ∙ sym (filter-filter (all_meet meets first) (late tuple) all)
      ∙ ap (filter (all_meet meets first))
      (sym
      (from_on-filter (λ tuple. tuple) tuple all
      (subst (Ascends (λ tuple. tuple)) (sym sorted-tuples) (tuples-ascend (length first) pool (Rises-from pool rises)))
      (subst (IsIn tuple) (sym sorted-tuples) m)))

  short-length : (k : ℕ) → k ≤ length first → length (short_paths plan (length pool) (λ path. refl) (λ path. refl) k []) ≡ length (beginnings_below meets first pool k)
  short-length zero room = refl
  short-length (suc k) room =
      length-append (short_paths plan (length pool) (λ path. refl) (λ path. refl) k []) (found plan k [])
      ∙ ap (λ n. n + length (found plan k [])) (short-length k (omega arith))
      ∙ ap (λ n. length (beginnings_below meets first pool k) + n) (sym (length-map (found plan k []) (numbers_at pool)) ∙ ap length (found-new k (omega arith)))
      ∙ sym (length-append (beginnings_below meets first pool k) (filter (all_meet meets (take k first)) (tuples pool k)))

  pub transpositions-trials : trials (ahead plan [] 0) ≡ length pool * length (short_beginnings meets first pool)
  transpositions-trials =
      ap (λ number. trials (ahead plan [] number)) (sym (starts_at_none (length first)))
      ∙ ap trials (ahead-new plan)
      ∙ trials-short plan (length pool) (λ path. refl) (λ path. refl) (length first) []
      ∙ ap (λ n. length pool * n) (short-length (length first) (omega arith))

-- what is to come, at the lists and numbers that the code has
pub tuples-at : (meets : ℕ → ℕ → Bool) (first first' pool pool' hint hint' path : List ℕ) (number number' : ℕ) → first ≡ first' → pool ≡ pool' → hint ≡ hint' → path ≡ [] → number ≡ number' → map (numbers_at pool) (hits (ahead (hinted hint (transposition_plan meets first pool)) path number)) ≡ map (numbers_at pool') (hits (ahead (hinted hint' (transposition_plan meets first' pool')) [] number'))
tuples-at meets first first' pool pool' hint hint' path number number' same_first same_pool same_hint none same_number =
    ap (λ first. map (numbers_at pool) (hits (ahead (hinted hint (transposition_plan meets first pool)) path number))) same_first
    ∙ ap (λ pool. map (numbers_at pool) (hits (ahead (hinted hint (transposition_plan meets first' pool)) path number))) same_pool
    ∙ ap (λ hint. map (numbers_at pool') (hits (ahead (hinted hint (transposition_plan meets first' pool')) path number))) same_hint
    ∙ ap (λ path. map (numbers_at pool') (hits (ahead (hinted hint' (transposition_plan meets first' pool')) path number))) none
    ∙ ap (λ number. map (numbers_at pool') (hits (ahead (hinted hint' (transposition_plan meets first' pool')) [] number))) same_number

pub tuple-trials-at : (meets : ℕ → ℕ → Bool) (first first' pool pool' hint hint' path : List ℕ) (number number' : ℕ) → first ≡ first' → pool ≡ pool' → hint ≡ hint' → path ≡ [] → number ≡ number' → trials (ahead (hinted hint (transposition_plan meets first pool)) path number) ≡ trials (ahead (hinted hint' (transposition_plan meets first' pool')) [] number')
tuple-trials-at meets first first' pool pool' hint hint' path number number' same_first same_pool same_hint none same_number =
    ap (λ first. trials (ahead (hinted hint (transposition_plan meets first pool)) path number)) same_first
    ∙ ap (λ pool. trials (ahead (hinted hint (transposition_plan meets first' pool)) path number)) same_pool
    ∙ ap (λ hint. trials (ahead (hinted hint (transposition_plan meets first' pool')) path number)) same_hint
    ∙ ap (λ path. trials (ahead (hinted hint' (transposition_plan meets first' pool')) path number)) none
    ∙ ap (λ number. trials (ahead (hinted hint' (transposition_plan meets first' pool')) [] number)) same_number

-- the same search, at the lists that the code has
pub plan-at : (meets : ℕ → ℕ → Bool) (first first' pool pool' hint path : List ℕ) (number : ℕ) → first ≡ first' → pool ≡ pool' → hits (ahead (hinted hint (transposition_plan meets first pool)) path number) ≡ hits (ahead (hinted hint (transposition_plan meets first' pool')) path number)
plan-at meets first first' pool pool' hint path number same_first same_pool =
    ap (λ first. hits (ahead (hinted hint (transposition_plan meets first pool)) path number)) same_first
    ∙ ap (λ pool. hits (ahead (hinted hint (transposition_plan meets first' pool)) path number)) same_pool

-- a path of the search is one of places of the pool, no longer than the first list
pub stands-within : (meets : ℕ → ℕ → Bool) (first first' pool pool' pool'' hint path : List ℕ) → first' ≡ first → pool' ≡ pool → pool'' ≡ pool → Stands (hinted hint (transposition_plan meets first' pool')) path → AllByRecursion (λ place. place < length pool'') path × (length path ≤ length first)
stands-within meets first first' pool pool' pool'' hint path same_first same_pool same_pool' stands = (
  Walked-below (hinted hint (transposition_plan meets first' pool')) (length pool'') (λ path. omega (arith, ap length same_pool, ap length same_pool')) [] path stands.1,
  omega (arith, ap length same_first, stands.0),
)

-- and no place comes twice on it, since one that is taken does not fit
not_taken : (taken meets : Bool) → (not taken && meets) ≡ true → taken ≡ false
not_taken true meets fit = cc
not_taken false meets fit = refl

walked-once : (meets : ℕ → ℕ → Bool) (first pool beginning path : List ℕ) → HasEachOnce beginning → Walked (transposition_plan meets first pool) beginning path → HasEachOnce (beginning ++ path)
walked-once meets first pool beginning [] once walked = subst HasEachOnce (sym (append-nil beginning)) once
walked-once meets first pool beginning (x ∷ path) once walked =
    subst HasEachOnce (append_assoc beginning (x ∷ []) path)
    (walked-once meets first pool (beginning ++ x ∷ []) path (once-push beginning x once (not_taken (list_any (eqb x) beginning) (meets (slice_index first (length beginning)) (slice_index pool x)) walked.1)) walked.2)

pub open_once : (meets : ℕ → ℕ → Bool) (first pool path : List ℕ) → IsOpen (transposition_plan meets first pool) path → HasEachOnce path
open_once meets first pool path opened = walked-once meets first pool [] path tt opened.1

-- the numbers of a path that is past another do not go on from that one's, since a pool ascends
pub past-apart : (plan : Plan) (pool : List ℕ) → IsStrictlyIncreasing pool → ((path : List ℕ) → plan.stop path ≤ length pool) → (path later : List ℕ) → IsPast plan path later → GoesOn (numbers_at pool path) (numbers_at pool later) → ⊥
past-apart plan pool rises stops path later past on =
    let f : ℕ → ℕ = slice_index pool in
    let front : List ℕ = map f past.front in
    let first : map f path ≡ front ++ f past.number ∷ map f past.rest = ap (map f) past.here ∙ map-append f past.front (past.number ∷ past.rest) in
    let second : map f later ≡ front ++ f past.next ∷ map f past.others = ap (map f) past.there ∙ map-append f past.front (past.next ∷ past.others) in
    let same : front ++ f past.next ∷ map f past.others ≡ front ++ f past.number ∷ (map f past.rest ++ on.rest) =
    sym second ∙ on.is ∙ ap (λ xs. xs ++ on.rest) first ∙ append_assoc front (f past.number ∷ map f past.rest) on.rest in
    let heads : f past.next ∷ map f past.others ≡ f past.number ∷ (map f past.rest ++ on.rest) = append_cancel_left front _ _ same in
    let equal : f past.next ≡ f past.number = cc in
    let within : past.next < length pool = omega (arith, stops past.front, past.tried) in
    let below : f past.number < f past.next = AllPairs-from_increasing pool rises past.number past.next 0 past.above within in
    omega (arith, equal, below)
