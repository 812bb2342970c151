-- The order of keys, and lists that ascend by a key.
use Rattle.std.proofs.Common.{◌≡◌, ℕ, suc, ◌<◌, Bool, true, false, ◌&&◌, ◌||◌, eqb, ltb, cond, List, [], ◌∷◌, ◌++◌, map, refl, sym, ◌∙◌, ap, arith, ◌⊎◌, inl, inr, subst}
use Rattle.std.specs.List.{filter, flat_map, AllByRecursion, AllPairs}
use Rattle.std.specs.List.Sorted.{IsStrictlyIncreasing}
use Rattle.std.proofs.lemmas.List.Kept.{AllPairs-from_increasing}
use Rattle.std.proofs.lemmas.List.Elements.{recursion_from_All}
use Rattle.std.proofs.lemmas.Bool.{ltb-true, lt-ltb, le-ltb, eq-eqb, eqb-true, or_cases, and_parts, or_left, or_right, cases_order, true≢false, cases_Bool}
use Rattle.std.specs.declared.cmp.Ordering.{Ordering}
use Rattle.std.specs.Ordering.{is_lt}
use Rattle.dutch_sequence.specs.Prelude.{put, sorted, is_member, IsIn}
use Rattle.dutch_sequence.proofs.ByKeys.{is_before, Ascends}
use Rattle.dutch_sequence.proofs.Skipping.{all-filter}
pub use Rattle.dutch_sequence.proofs.Skipping.{all-members as all_members}

-- lower numbers go first
pub is_before-lower : (x y : ℕ) (xs ys : List ℕ) → x < y → is_before (x ∷ xs) (y ∷ ys) ≡ true
is_before-lower x y xs ys h = or_left (ltb x y) (eqb x y && is_before xs ys) (lt-ltb x y h)

-- and equal ones leave it to the rest
pub is_before-equal : (x : ℕ) (xs ys : List ℕ) → is_before (x ∷ xs) (x ∷ ys) ≡ is_before xs ys
is_before-equal x xs ys =
    ap (λ b. b || (eqb x x && is_before xs ys)) (le-ltb x x (omega arith)) ∙ ap (λ b. b && is_before xs ys) (eq-eqb x x refl)

pub is_before-cases : (x y : ℕ) (xs ys : List ℕ) → is_before (x ∷ xs) (y ∷ ys) ≡ true → (x < y) ⊎ ((x ≡ y) × (is_before xs ys ≡ true))
is_before-cases x y xs ys h =
    elim (or_cases (ltb x y) (eqb x y && is_before xs ys) h) [
      | inl lower ↦ inl (ltb-true x y lower)
      | inr rest ↦ inr (eqb-true x y (and_parts (eqb x y) (is_before xs ys) rest).0, (and_parts (eqb x y) (is_before xs ys) rest).1)
    ]

pub is_before-irreflexive : (xs : List ℕ) → is_before xs xs ≡ false
is_before-irreflexive [] = refl
is_before-irreflexive (x ∷ xs) = is_before-equal x xs xs ∙ is_before-irreflexive xs

pub is_before-transitive : (xs ys zs : List ℕ) → is_before xs ys ≡ true → is_before ys zs ≡ true → is_before xs zs ≡ true
is_before-transitive [] [] zs p q = q
is_before-transitive [] (y ∷ ys) [] p q = q
is_before-transitive [] (y ∷ ys) (z ∷ zs) p q = refl
is_before-transitive (x ∷ xs) [] zs p q = absurd (true≢false (sym p))
is_before-transitive (x ∷ xs) (y ∷ ys) [] p q = absurd (true≢false (sym q))
is_before-transitive (x ∷ xs) (y ∷ ys) (z ∷ zs) p q =
    elim (is_before-cases x y xs ys p) [
      | inl lower ↦ elim (is_before-cases y z ys zs q) [
        | inl lower' ↦ is_before-lower x z xs zs (omega arith)
        | inr same ↦ is_before-lower x z xs zs (let e : y ≡ z = same.0 in omega arith)
      ]
      | inr same ↦ elim (is_before-cases y z ys zs q) [
        | inl lower' ↦ is_before-lower x z xs zs (let e : x ≡ y = same.0 in omega arith)
        | inr same' ↦
            let P : ℕ → Type 0 = λ n. is_before (x ∷ xs) (n ∷ zs) ≡ true in
            subst P (same.0 ∙ same'.0) (is_before-equal x xs zs ∙ is_before-transitive xs ys zs same.1 same'.1)
      ]
    ]

pub is_before-asymmetric : (xs ys : List ℕ) → is_before xs ys ≡ true → is_before ys xs ≡ false
is_before-asymmetric xs ys p =
    elim (cases_Bool (is_before ys xs)) [
      | inl back ↦ absurd (true≢false (sym (is_before-transitive xs ys xs p back) ∙ is_before-irreflexive xs))
      | inr none ↦ none
    ]

pub is_before-total : (xs ys : List ℕ) → (xs ≡ ys) ⊎ ((is_before xs ys ≡ true) ⊎ (is_before ys xs ≡ true))
is_before-total [] [] = inl refl
is_before-total [] (y ∷ ys) = inr (inl refl)
is_before-total (x ∷ xs) [] = inr (inr refl)
is_before-total (x ∷ xs) (y ∷ ys) =
    elim (cases_order x y) [
      | inl same ↦
          let P : ℕ → Type 0 = λ n. ((x ∷ xs) ≡ (n ∷ ys)) ⊎ ((is_before (x ∷ xs) (n ∷ ys) ≡ true) ⊎ (is_before (n ∷ ys) (x ∷ xs) ≡ true)) in
          subst P same
          (elim (is_before-total xs ys) [
            | inl equal ↦ inl (ap (λ rest. x ∷ rest) equal)
            | inr (inl first) ↦ inr (inl (is_before-equal x xs ys ∙ first))
            | inr (inr second) ↦ inr (inr (is_before-equal x ys xs ∙ second))
          ])
      | inr (inl lower) ↦ inr (inl (is_before-lower x y xs ys lower))
      | inr (inr higher) ↦ inr (inr (is_before-lower y x ys xs higher))
    ]

pub member_has : {X : Type 0} (P : X → Type 0) (xs : List X) → AllByRecursion P xs → (x : X) → IsIn x xs → P x
member_has P [] all x m = absurd m
member_has P (y ∷ ys) all x (inl same) = subst P (sym same) all.0
member_has P (y ∷ ys) all x (inr m) = member_has P ys all.1 x m

-- membership, as a test and as a fact
pub member-in : (x : ℕ) (xs : List ℕ) → is_member x xs ≡ true → IsIn x xs
member-in x [] h = absurd (true≢false (sym h))
member-in x (y ∷ ys) h =
    elim (or_cases (eqb y x) (is_member x ys) h) [
      | inl here ↦ inl (sym (eqb-true y x here))
      | inr later ↦ inr (member-in x ys later)
    ]

pub in-member : (x : ℕ) (xs : List ℕ) → IsIn x xs → is_member x xs ≡ true
in-member x [] m = absurd m
in-member x (y ∷ ys) (inl same) = or_left (eqb y x) (is_member x ys) (eq-eqb y x (sym same))
in-member x (y ∷ ys) (inr m) = or_right (eqb y x) (is_member x ys) (in-member x ys m)

pub IsIn-append : {X : Type 0} (x : X) (xs ys : List X) → IsIn x (xs ++ ys) → IsIn x xs ⊎ IsIn x ys
IsIn-append x [] ys m = inr m
IsIn-append x (y ∷ xs) ys (inl same) = inl (inl same)
IsIn-append x (y ∷ xs) ys (inr m) = elim (IsIn-append x xs ys m) [ inl front ↦ inl (inr front) | inr back ↦ inr back ]

pub IsIn-front : {X : Type 0} (x : X) (xs ys : List X) → IsIn x xs → IsIn x (xs ++ ys)
IsIn-front x [] ys m = absurd m
IsIn-front x (y ∷ xs) ys (inl same) = inl same
IsIn-front x (y ∷ xs) ys (inr m) = inr (IsIn-front x xs ys m)

pub IsIn-back : {X : Type 0} (x : X) (xs ys : List X) → IsIn x ys → IsIn x (xs ++ ys)
IsIn-back x [] ys m = m
IsIn-back x (y ∷ xs) ys m = inr (IsIn-back x xs ys m)

pub IsIn-map : {X Y : Type 0} (f : X → Y) (y : Y) (xs : List X) → IsIn y (map f xs) → (x : X) × (y ≡ f x) × IsIn x xs
IsIn-map f y [] m = absurd m
IsIn-map f y (x ∷ xs) (inl same) = (x, same, inl refl)
IsIn-map f y (x ∷ xs) (inr m) = let found = IsIn-map f y xs m in (found.0, found.1, inr found.2)

pub map-IsIn : {X Y : Type 0} (f : X → Y) (x : X) (xs : List X) → IsIn x xs → IsIn (f x) (map f xs)
map-IsIn f x [] m = absurd m
map-IsIn f x (y ∷ xs) (inl same) = inl (ap f same)
map-IsIn f x (y ∷ xs) (inr m) = inr (map-IsIn f x xs m)

pub IsIn-flat_map : {X Y : Type 0} (f : X → List Y) (y : Y) (xs : List X) → IsIn y (flat_map f xs) → (x : X) × IsIn x xs × IsIn y (f x)
IsIn-flat_map f y [] m = absurd m
IsIn-flat_map f y (x ∷ xs) m =
    elim (IsIn-append y (f x) (flat_map f xs) m) [
      | inl here ↦ (x, inl refl, here)
      | inr later ↦ let found = IsIn-flat_map f y xs later in (found.0, inr found.1, found.2)
    ]

pub flat_map-IsIn : {X Y : Type 0} (f : X → List Y) (y : Y) (x : X) (xs : List X) → IsIn x xs → IsIn y (f x) → IsIn y (flat_map f xs)
flat_map-IsIn f y x [] m n = absurd m
flat_map-IsIn f y x (z ∷ xs) (inl same) n =
    let P = λ (w : _). IsIn y (f w) in IsIn-front y (f z) (flat_map f xs) (subst P same n)
flat_map-IsIn f y x (z ∷ xs) (inr m) n = IsIn-back y (f z) (flat_map f xs) (flat_map-IsIn f y x xs m n)

-- ascending lists
pub Ascends-append : (key : List ℕ → List ℕ) (xs ys : List (List ℕ)) → Ascends key xs → Ascends key ys → ((x y : List ℕ) → IsIn x xs → IsIn y ys → is_before (key x) (key y) ≡ true) → Ascends key (xs ++ ys)
Ascends-append key [] ys p q across = q
Ascends-append key (x ∷ xs) ys p q across = (
  all_members (λ other. is_before (key x) (key other) ≡ true) (xs ++ ys)
      (λ other m. elim (IsIn-append other xs ys m) [
        | inl front ↦ member_has (λ z. is_before (key x) (key z) ≡ true) xs p.0 other front
        | inr back ↦ across x other (inl refl) back
      ]),
  Ascends-append key xs ys p.1 q (λ y z m n. across y z (inr m) n),
)

-- an order is that of the keys on some choices
abbrev pub IsByKey : (List ℕ → List ℕ) → (List ℕ → List ℕ → Ordering) → List (List ℕ) → Type 0
IsByKey key order xs = (x y : List ℕ) → IsIn x xs → IsIn y xs → is_lt (order x y) ≡ is_before (key x) (key y)

-- a list that ascends is sorted
put-first : (key : List ℕ → List ℕ) (order : List ℕ → List ℕ → Ordering) (x : List ℕ) (xs : List (List ℕ)) → IsByKey key order (x ∷ xs)
    → AllByRecursion (λ other. is_before (key x) (key other) ≡ true) xs → put order x xs ≡ x ∷ xs
put-first key order x [] same p = refl
put-first key order x (y ∷ ys) same p =
    ap (λ b. cond b (y ∷ put order x ys) (x ∷ y ∷ ys)) (same y x (inr (inl refl)) (inl refl) ∙ is_before-asymmetric (key x) (key y) p.0)

pub sorted-ascending : (key : List ℕ → List ℕ) (order : List ℕ → List ℕ → Ordering) (xs : List (List ℕ)) → IsByKey key order xs → Ascends key xs → sorted order xs ≡ xs
sorted-ascending key order [] same p = refl
sorted-ascending key order (x ∷ xs) same p =
    ap (put order x) (sorted-ascending key order xs (λ y z m n. same y z (inr m) (inr n)) p.1) ∙ put-first key order x xs same p.0

first_same : (key : List ℕ → List ℕ) (x y : List ℕ) (xs ys : List (List ℕ)) → AllByRecursion (λ other. is_before (key x) (key other) ≡ true) xs → AllByRecursion (λ other. is_before (key y) (key other) ≡ true) ys → IsIn x (y ∷ ys) → IsIn y (x ∷ xs) → x ≡ y
first_same key x y xs ys p q (inl same) n = same
first_same key x y xs ys p q (inr m) (inl same) = sym same
first_same key x y xs ys p q (inr m) (inr n) =
    absurd
    (true≢false
    (sym (member_has (λ other. is_before (key x) (key other) ≡ true) xs p y n)
    ∙ is_before-asymmetric (key y) (key x) (member_has (λ other. is_before (key y) (key other) ≡ true) ys q x m)))

still_there : (key : List ℕ → List ℕ) (y z : List ℕ) (ys : List (List ℕ)) → is_before (key y) (key z) ≡ true → IsIn z (y ∷ ys) → IsIn z ys
still_there key y z ys first (inl same) =
    absurd (true≢false (sym (subst (λ w. is_before (key w) (key z) ≡ true) (sym same) first) ∙ is_before-irreflexive (key z)))
still_there key y z ys first (inr m) = m

-- two ascending lists with the same members are equal
pub Ascends-unique : (key : List ℕ → List ℕ) (xs ys : List (List ℕ)) → Ascends key xs → Ascends key ys → ((x : List ℕ) → IsIn x xs → IsIn x ys) → ((y : List ℕ) → IsIn y ys → IsIn y xs) → xs ≡ ys
Ascends-unique key [] [] p q there back = refl
Ascends-unique key [] (y ∷ ys) p q there back = absurd (back y (inl refl))
Ascends-unique key (x ∷ xs) [] p q there back = absurd (there x (inl refl))
Ascends-unique key (x ∷ xs) (y ∷ ys) p q there back =
    let heads : x ≡ y = first_same key x y xs ys p.0 q.0 (there x (inl refl)) (back y (inl refl)) in
    ap (λ z. z ∷ xs) heads
    ∙ ap
    (λ zs. y ∷ zs)
    (Ascends-unique key xs ys p.1 q.1
    (λ z m. still_there key y z ys (subst (λ w. is_before (key w) (key z) ≡ true) heads (member_has (λ other. is_before (key x) (key other) ≡ true) xs p.0 z m)) (there z (inr m)))
    (λ z m. still_there key x z xs (subst (λ w. is_before (key w) (key z) ≡ true) (sym heads) (member_has (λ other. is_before (key y) (key other) ≡ true) ys q.0 z m)) (back z (inr m))))

-- each number is below all later ones
abbrev pub Rises : List ℕ → Type 0
Rises [] = Unit {0}
Rises (x ∷ xs) = AllByRecursion (λ y. x < y) xs × Rises xs

pub Rises-from_pairs : (xs : List ℕ) → AllPairs (λ x y. x < y) xs → Rises xs
Rises-from_pairs [] pairs = tt
Rises-from_pairs (x ∷ xs) pairs = (
  recursion_from_All (λ y. x < y) xs (λ k d low. pairs 0 (suc k) d (omega arith) (omega arith)),
  Rises-from_pairs xs (λ i j d before within. pairs (suc i) (suc j) d (omega arith) (omega arith)),
)

pub Rises-from : (xs : List ℕ) → IsStrictlyIncreasing xs → Rises xs
Rises-from xs h = Rises-from_pairs xs (AllPairs-from_increasing xs h)

pub Rises-filter : (p : ℕ → Bool) (xs : List ℕ) → Rises xs → Rises (filter p xs)
Rises-filter p [] rises = tt
Rises-filter p (x ∷ xs) rises =
    elim (p x) as (λ b. Rises (cond b (x ∷ filter p xs) (filter p xs))) [
      | true ↦ (all-filter (λ y. x < y) p xs rises.0, Rises-filter p xs rises.1)
      | false ↦ Rises-filter p xs rises.1
    ]

-- one number before each of a list of tuples keeps their order
pub Ascends-head : (x : ℕ) (tuples' : List (List ℕ)) → Ascends (λ tuple. tuple) tuples' → Ascends (λ tuple. tuple) (map (λ tuple. x ∷ tuple) tuples')
Ascends-head x [] p = tt
Ascends-head x (first ∷ tuples') p = (
  all_members (λ other. is_before (x ∷ first) other ≡ true) (map (λ tuple. x ∷ tuple) tuples')
      (λ other m.
      let from = IsIn-map (λ tuple. x ∷ tuple) other tuples' m in
      subst (λ z. is_before (x ∷ first) z ≡ true) (sym from.1)
      (is_before-equal x first from.0 ∙ member_has (λ z. is_before first z ≡ true) tuples' p.0 from.0 from.2)),
  Ascends-head x tuples' p.1,
)

-- a filter of an ascending list ascends, and has the members that pass

pub Ascends-filter : (key : List ℕ → List ℕ) (p : List ℕ → Bool) (xs : List (List ℕ)) → Ascends key xs → Ascends key (filter p xs)
Ascends-filter key p [] ascends = tt
Ascends-filter key p (x ∷ xs) ascends =
    elim (p x) as (λ b. Ascends key (cond b (x ∷ filter p xs) (filter p xs))) [
      | true ↦ (all-filter (λ other. is_before (key x) (key other) ≡ true) p xs ascends.0, Ascends-filter key p xs ascends.1)
      | false ↦ Ascends-filter key p xs ascends.1
    ]

pub IsIn-filter : {X : Type 0} (p : X → Bool) (c : X) (xs : List X) → IsIn c (filter p xs) → IsIn c xs × (p c ≡ true)
IsIn-filter p c [] m = absurd m
IsIn-filter p c (x ∷ xs) m =
    elim (cases_Bool (p x)) [
      | inl passes ↦
          elim (subst (λ b. IsIn c (cond b (x ∷ filter p xs) (filter p xs))) passes m) [
            | inl same ↦ (inl same, ap p same ∙ passes)
            | inr later ↦ (inr (IsIn-filter p c xs later).0, (IsIn-filter p c xs later).1)
          ]
      | inr fails ↦
          let later = IsIn-filter p c xs (subst (λ b. IsIn c (cond b (x ∷ filter p xs) (filter p xs))) fails m) in
          (inr later.0, later.1)
    ]

pub filter-IsIn : {X : Type 0} (p : X → Bool) (c : X) (xs : List X) → IsIn c xs → p c ≡ true → IsIn c (filter p xs)
filter-IsIn p c [] m passes = absurd m
filter-IsIn p c (x ∷ xs) (inl same) passes =
    subst (λ b. IsIn c (cond b (x ∷ filter p xs) (filter p xs))) (sym (sym (ap p same) ∙ passes)) (inl same)
filter-IsIn p c (x ∷ xs) (inr m) passes =
    elim (p x) as (λ b. IsIn c (cond b (x ∷ filter p xs) (filter p xs))) [
      | true ↦ inr (filter-IsIn p c xs m passes)
      | false ↦ filter-IsIn p c xs m passes
    ]
