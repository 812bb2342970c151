-- Sets as lists of places, and lists that are sorted by their keys.
use Rattle.std.proofs.Common.{◌≡◌, ℕ, zero, suc, ◌+◌, ◌<◌, ◌≤◌, true, false, cond, List, [], ◌∷◌, ◌++◌, map, length, refl, sym, ◌∙◌, ap, arith, subst, ◌⊎◌, inl, inr}
use Rattle.std.proofs.lemmas.List.{map-append}
use Rattle.std.proofs.lemmas.Simd.{map-map}
use Rattle.std.proofs.lemmas.Bool.{cases_eq, true≢false, cases_Bool}
use Rattle.dutch_sequence.specs.Prelude.{subsets, numbers_from, put, sorted, IsIn}
use Rattle.std.specs.declared.cmp.Ordering.{Ordering}
use Rattle.std.specs.Ordering.{is_lt}
use Rattle.dutch_sequence.proofs.ByKeys.{is_before, Ascends}
use Rattle.dutch_sequence.proofs.HalfWalks.{Climbs}
use Rattle.dutch_sequence.proofs.Orders.{IsByKey, all_members, member_has, IsIn-append, IsIn-front, IsIn-back, IsIn-map, map-IsIn, Ascends-append, Ascends-head, Ascends-unique, is_before-total, is_before-transitive, is_before-irreflexive, is_before-lower}

pub Climbs-lower : (low low' bound : ℕ) (xs : List ℕ) → low ≤ low' → Climbs low' bound xs → Climbs low bound xs
Climbs-lower low low' bound [] h climbs = tt
Climbs-lower low low' bound (x ∷ xs) h climbs = (omega (arith, climbs.0), climbs.1, climbs.2)

-- the sets of places are the lists that climb
pub subsets-climb : (first count k : ℕ) (set : List ℕ) → IsIn set (subsets (numbers_from first count) k) → Climbs first (first + count) set × (length set ≡ k)
subsets-climb first count zero set (inl same) = (subst (Climbs first (first + count)) (sym same) tt, ap length same)
subsets-climb first count zero set (inr none) = absurd none
subsets-climb first zero (suc k) set m = absurd m
subsets-climb first (suc count) (suc k) set m =
    let bound : suc first + count ≡ first + suc count = omega arith in
    elim (IsIn-append set (map (λ set. first ∷ set) (subsets (numbers_from (suc first) count) k)) (subsets (numbers_from (suc first) count) (suc k)) m) [
      | inl with ↦
          let from = IsIn-map (λ set. first ∷ set) set (subsets (numbers_from (suc first) count) k) with in
          let rest = subsets-climb (suc first) count k from.0 from.2 in (
            subst (Climbs first (first + suc count)) (sym from.1) (omega arith, omega arith, subst (λ b. Climbs (suc first) b from.0) bound rest.0),
            ap length from.1 ∙ ap suc rest.1,
          )
      | inr without ↦
          let rest = subsets-climb (suc first) count (suc k) set without in
          (Climbs-lower first (suc first) (first + suc count) set (omega arith) (subst (λ b. Climbs (suc first) b set) bound rest.0), rest.1)
    ]

pub climbs-subset : (first count k : ℕ) (set : List ℕ) → Climbs first (first + count) set → length set ≡ k → IsIn set (subsets (numbers_from first count) k)
climbs-subset first count zero [] climbs same = inl refl
climbs-subset first count zero (x ∷ set) climbs same = absurd (omega arith)
climbs-subset first zero (suc k) [] climbs same = absurd (omega arith)
climbs-subset first zero (suc k) (x ∷ set) climbs same = absurd (omega (arith, climbs.0, climbs.1))
climbs-subset first (suc count) (suc k) [] climbs same = absurd (omega arith)
climbs-subset first (suc count) (suc k) (x ∷ set) climbs same =
    let bound : first + suc count ≡ suc first + count = omega arith in
    elim (cases_eq x first) [
      | inl equal ↦
          IsIn-front (x ∷ set) (map (λ set. first ∷ set) (subsets (numbers_from (suc first) count) k)) (subsets (numbers_from (suc first) count) (suc k))
          (subst (λ y. IsIn (y ∷ set) (map (λ set. first ∷ set) (subsets (numbers_from (suc first) count) k))) (sym equal)
          (map-IsIn (λ set. first ∷ set) set (subsets (numbers_from (suc first) count) k)
          (climbs-subset (suc first) count k set
          (subst (λ y. Climbs (suc y) (suc first + count) set) equal (subst (λ b. Climbs (suc x) b set) bound climbs.2)) (omega arith))))
      | inr other ↦
          let above : suc first ≤ x = (let h : first ≤ x = climbs.0 in let h' : (x ≡ first → ⊥) = other in omega (arith, h, h')) in
          IsIn-back (x ∷ set) (map (λ set. first ∷ set) (subsets (numbers_from (suc first) count) k)) (subsets (numbers_from (suc first) count) (suc k))
          (climbs-subset (suc first) count (suc k) (x ∷ set) (above, omega (arith, climbs.1), subst (λ b. Climbs (suc x) b set) bound climbs.2) same)
    ]

-- sets of values are the values of sets of places
pub subsets-map : (value : ℕ → ℕ) (numbers : List ℕ) (k : ℕ) → subsets (map value numbers) k ≡ map (map value) (subsets numbers k)
subsets-map value numbers zero = refl
subsets-map value [] (suc k) = refl
subsets-map value (x ∷ numbers) (suc k) =
    ap (λ sets. map (λ set. value x ∷ set) sets ++ subsets (map value numbers) (suc k)) (subsets-map value numbers k)
    ∙ ap (λ sets. sets ++ subsets (map value numbers) (suc k)) (map-map (λ set. value x ∷ set) (map value) (subsets numbers k) ∙ sym (map-map (map value) (λ set. x ∷ set) (subsets numbers k)))
    ∙ ap (λ sets. map (map value) (map (λ set. x ∷ set) (subsets numbers k)) ++ sets) (subsets-map value numbers (suc k))
    ∙ sym (map-append (map value) (map (λ set. x ∷ set) (subsets numbers k)) (subsets numbers (suc k)))

subsets-across : (first count k : ℕ) (a b : List ℕ) → IsIn a (map (λ set. first ∷ set) (subsets (numbers_from (suc first) count) k)) → IsIn b (subsets (numbers_from (suc first) count) (suc k)) → is_before a b ≡ true
subsets-across first count k a [] m n = absurd (omega (arith, (subsets-climb (suc first) count (suc k) [] n).1))
subsets-across first count k a (y ∷ b) m n =
    let from = IsIn-map (λ set. first ∷ set) a (subsets (numbers_from (suc first) count) k) m in
    let above : first < y = omega (arith, (subsets-climb (suc first) count (suc k) (y ∷ b) n).0.0) in
    subst (λ z. is_before z (y ∷ b) ≡ true) (sym from.1) (is_before-lower first y from.0 b above)

-- sets of places ascend
pub subsets-ascend : (first count k : ℕ) → Ascends (λ set. set) (subsets (numbers_from first count) k)
subsets-ascend first count zero = (tt, tt)
subsets-ascend first zero (suc k) = tt
subsets-ascend first (suc count) (suc k) =
    Ascends-append (λ set. set) (map (λ set. first ∷ set) (subsets (numbers_from (suc first) count) k)) (subsets (numbers_from (suc first) count) (suc k))
    (Ascends-head first (subsets (numbers_from (suc first) count) k) (subsets-ascend (suc first) count k))
    (subsets-ascend (suc first) count (suc k))
    (λ a b m n. subsets-across first count k a b m n)

-- a sorted list
put-in-later : (c x y : List ℕ) (others ys : List (List ℕ)) → (IsIn c others → (c ≡ x) ⊎ IsIn c ys) → IsIn c (y ∷ others) → (c ≡ x) ⊎ IsIn c (y ∷ ys)
put-in-later c x y others ys later (inl same) = inr (inl same)
put-in-later c x y others ys later (inr m) = elim (later m) [ inl same ↦ inl same | inr n ↦ inr (inr n) ]

pub put-in : (order : List ℕ → List ℕ → Ordering) (c x : List ℕ) (xs : List (List ℕ)) → IsIn c (put order x xs) → (c ≡ x) ⊎ IsIn c xs
put-in order c x [] = λ m. m
put-in order c x (y ∷ ys) =
    elim (is_lt (order y x)) as (λ b. IsIn c (cond b (y ∷ put order x ys) (x ∷ y ∷ ys)) → (c ≡ x) ⊎ IsIn c (y ∷ ys)) [
      | true ↦ put-in-later c x y (put order x ys) ys (put-in order c x ys)
      | false ↦ (λ m. m)
    ]

in-put : (order : List ℕ → List ℕ → Ordering) (c x : List ℕ) (xs : List (List ℕ)) → (c ≡ x) ⊎ IsIn c xs → IsIn c (put order x xs)
in-put order c x [] m = m
in-put order c x (y ∷ ys) m =
    elim (is_lt (order y x)) as (λ b. IsIn c (cond b (y ∷ put order x ys) (x ∷ y ∷ ys))) [
      | true ↦ elim m [ inl same ↦ inr (in-put order c x ys (inl same)) | inr n ↦ elim n [ inl same ↦ inl same | inr later ↦ inr (in-put order c x ys (inr later)) ] ]
      | false ↦ m
    ]

pub sorted-in : (order : List ℕ → List ℕ → Ordering) (c : List ℕ) (xs : List (List ℕ)) → IsIn c (sorted order xs) → IsIn c xs
sorted-in order c [] m = m
sorted-in order c (x ∷ xs) m =
    elim (put-in order c x (sorted order xs) m) [ inl same ↦ inl same | inr n ↦ inr (sorted-in order c xs n) ]

pub in-sorted : (order : List ℕ → List ℕ → Ordering) (c : List ℕ) (xs : List (List ℕ)) → IsIn c xs → IsIn c (sorted order xs)
in-sorted order c [] m = m
in-sorted order c (x ∷ xs) (inl same) = in-put order c x (sorted order xs) (inl same)
in-sorted order c (x ∷ xs) (inr m) = in-put order c x (sorted order xs) (inr (in-sorted order c xs m))

module _ (key : List ℕ → List ℕ) (order : List ℕ → List ℕ → Ordering) where
  before_or : (x y : List ℕ) → (key x ≡ key y → ⊥) → is_before (key y) (key x) ≡ false → is_before (key x) (key y) ≡ true
  before_or x y apart after =
      elim (is_before-total (key x) (key y)) [
        | inl same ↦ absurd (apart same)
        | inr (inl first) ↦ first
        | inr (inr second) ↦ absurd (true≢false (sym second ∙ after))
      ]

  put-ascends : (x : List ℕ) (xs : List (List ℕ)) → ((y : List ℕ) → IsIn y xs → is_lt (order y x) ≡ is_before (key y) (key x))
      → Ascends key xs → ((y : List ℕ) → IsIn y xs → key x ≡ key y → ⊥) → Ascends key (put order x xs)
  put-ascends x [] same p apart = (tt, tt)
  put-ascends x (y ∷ ys) same p apart =
      elim (cases_Bool (is_before (key y) (key x))) [
        | inl before ↦
            subst (λ b. Ascends key (cond b (y ∷ put order x ys) (x ∷ y ∷ ys))) (sym (same y (inl refl) ∙ before)) (
              all_members (λ z. is_before (key y) (key z) ≡ true) (put order x ys)
                  (λ z m. elim (put-in order z x ys m) [
                    | inl equal ↦ subst (λ w. is_before (key y) (key w) ≡ true) (sym equal) before
                    | inr n ↦ member_has (λ z. is_before (key y) (key z) ≡ true) ys p.0 z n
                  ]),
              put-ascends x ys (λ z m. same z (inr m)) p.1 (λ z m. apart z (inr m)),
            )
        | inr after ↦
            let first : is_before (key x) (key y) ≡ true = before_or x y (apart y (inl refl)) after in
            subst (λ b. Ascends key (cond b (y ∷ put order x ys) (x ∷ y ∷ ys))) (sym (same y (inl refl) ∙ after)) (
              all_members (λ z. is_before (key x) (key z) ≡ true) (y ∷ ys)
                  (λ z m. elim m [
                    | inl equal ↦ subst (λ w. is_before (key x) (key w) ≡ true) (sym equal) first
                    | inr n ↦ is_before-transitive (key x) (key y) (key z) first (member_has (λ z. is_before (key y) (key z) ≡ true) ys p.0 z n)
                  ]),
              p,
            )
      ]

  -- sorting a list of different choices with different keys makes it ascend
  pub sorted-ascends : (xs : List (List ℕ)) → IsByKey key order xs → Ascends (λ x. x) xs → ((x y : List ℕ) → IsIn x xs → IsIn y xs → key x ≡ key y → x ≡ y) → Ascends key (sorted order xs)
  sorted-ascends [] same p apart = tt
  sorted-ascends (x ∷ xs) same p apart =
      put-ascends x (sorted order xs) (λ y m. same y x (inr (sorted-in order y xs m)) (inl refl))
      (sorted-ascends xs (λ y z m n. same y z (inr m) (inr n)) p.1 (λ y z m n. apart y z (inr m) (inr n)))
      (λ y m alike.
      let in_xs : IsIn y xs = sorted-in order y xs m in
      let equal : x ≡ y = apart x y (inl refl) (inr in_xs) alike in
      true≢false (sym (member_has (λ z. is_before x z ≡ true) xs p.0 y in_xs) ∙ sym (ap (λ z. is_before x z) equal) ∙ is_before-irreflexive x))

  -- a list that ascends by a key and has the members of another, whose keys differ, is that other one, sorted
  pub ascending-sorted : (ys xs : List (List ℕ)) → IsByKey key order xs → Ascends key ys → Ascends (λ x. x) xs → ((x y : List ℕ) → IsIn x xs → IsIn y xs → key x ≡ key y → x ≡ y) → ((c : List ℕ) → IsIn c ys → IsIn c xs) → ((c : List ℕ) → IsIn c xs → IsIn c ys) → ys ≡ sorted order xs
  ascending-sorted ys xs same p q apart there back =
      Ascends-unique key ys (sorted order xs) p (sorted-ascends xs same q apart)
      (λ c m. in-sorted order c xs (there c m)) (λ c m. back c (sorted-in order c xs m))

-- a map that keeps the order of its members
pub Ascends-map : (key : List ℕ → List ℕ) (f : List ℕ → List ℕ) (xs : List (List ℕ)) → Ascends (λ x. x) xs → ((x y : List ℕ) → IsIn x xs → IsIn y xs → is_before x y ≡ true → is_before (key (f x)) (key (f y)) ≡ true) → Ascends key (map f xs)
Ascends-map key f [] p keeps = tt
Ascends-map key f (x ∷ xs) p keeps = (
  all_members (λ z. is_before (key (f x)) (key z) ≡ true) (map f xs)
      (λ z m.
      let from = IsIn-map f z xs m in
      subst (λ w. is_before (key (f x)) (key w) ≡ true) (sym from.1)
      (keeps x from.0 (inl refl) (inr from.2) (member_has (λ z. is_before x z ≡ true) xs p.0 from.0 from.2))),
  Ascends-map key f xs p.1 (λ y z m n. keeps y z (inr m) (inr n)),
)
