-- How many numbers a choice has, and how many it leaves over.
use Rattle.std.proofs.Common.{◌≡◌, ℕ, zero, suc, ◌+◌, ◌<◌, ◌≤◌, Bool, true, false, not, ◌&&◌, ◌||◌, eqb, cond, List, [], ◌∷◌, ◌++◌, map, length, refl, sym, ◌∙◌, ap, arith, inl, inr, slice_index, if◌then◌else◌}
use Rattle.std.specs.List.{filter, AllByRecursion}
use Rattle.std.specs.List.Sorted.{IsStrictlyIncreasing}
use Rattle.std.proofs.lemmas.Bool.{eqb-true, ne_eqb, cases_Bool}
use Rattle.dutch_sequence.specs.Prelude.{subsets, tuples, is_member, is_same, without, all_meet, from_on, numbers_from, IsIn, sorted, lower_first, transpositions, limbo_exchanges, limbo_cmp, left_of}
use Rattle.dutch_sequence.proofs.Orders.{all_members, IsIn-append, IsIn-map, IsIn-flat_map, Rises, Rises-from}
use Rattle.dutch_sequence.proofs.Sets.{sorted-in}
use Rattle.dutch_sequence.proofs.Members.{filter-length, length-numbers}
use Rattle.dutch_sequence.proofs.Lists.{filter-filter, filter-same}
use Rattle.dutch_sequence.proofs.Skipping.{all-filter}

-- a set of k members has k of them
pub subsets-length : (xs : List ℕ) (k : ℕ) (set : List ℕ) → IsIn set (subsets xs k) → length set ≡ k
subsets-length xs zero set (inl same) = ap length same
subsets-length xs zero set (inr m) = absurd m
subsets-length [] (suc k) set m = absurd m
subsets-length (x ∷ xs) (suc k) set m =
    elim (IsIn-append set (map (λ rest. x ∷ rest) (subsets xs k)) (subsets xs (suc k)) m) [
      | inl with ↦
          let from = IsIn-map (λ rest. x ∷ rest) set (subsets xs k) with in
          ap length from.1 ∙ ap suc (subsets-length xs k from.0 from.2)
      | inr out ↦ subsets-length xs (suc k) set out
    ]

-- and so has a tuple
pub tuples-length : (xs : List ℕ) (k : ℕ) (tuple : List ℕ) → IsIn tuple (tuples xs k) → length tuple ≡ k
tuples-length xs zero tuple (inl same) = ap length same
tuples-length xs zero tuple (inr m) = absurd m
tuples-length xs (suc k) tuple m =
    let first = IsIn-flat_map (λ x. map (λ rest. x ∷ rest) (tuples (without x xs) k)) tuple xs m in
    let from = IsIn-map (λ rest. first.0 ∷ rest) tuple (tuples (without first.0 xs) k) first.2 in
    ap length from.1 ∙ ap suc (tuples-length (without first.0 xs) k from.0 from.2)

-- a filter by one of two tests finds no more than both
either-length : (p q : ℕ → Bool) (ys : List ℕ) → length (filter (λ y. p y || q y) ys) ≤ length (filter p ys) + length (filter q ys)
either-length p q [] = omega arith
either-length p q (y ∷ ys) =
    elim (p y) as (λ b. length (cond (b || q y) (y ∷ filter (λ z. p z || q z) ys) (filter (λ z. p z || q z) ys)) ≤ length (cond b (y ∷ filter p ys) (filter p ys)) + length (cond (q y) (y ∷ filter q ys) (filter q ys))) [
      | true ↦ elim (q y) as (λ b. suc (length (filter (λ z. p z || q z) ys)) ≤ suc (length (filter p ys)) + length (cond b (y ∷ filter q ys) (filter q ys))) [
        | true ↦ omega (arith, either-length p q ys)
        | false ↦ omega (arith, either-length p q ys)
      ]
      | false ↦ elim (q y) as (λ b. length (cond b (y ∷ filter (λ z. p z || q z) ys) (filter (λ z. p z || q z) ys)) ≤ length (filter p ys) + length (cond b (y ∷ filter q ys) (filter q ys))) [
        | true ↦ omega (arith, either-length p q ys)
        | false ↦ omega (arith, either-length p q ys)
      ]
    ]

-- no number is above itself
none-above : (x : ℕ) (ys : List ℕ) → AllByRecursion (λ y. x < y) ys → length (filter (λ y. eqb x y) ys) ≡ 0
none-above x [] above = refl
none-above x (y ∷ ys) above =
    ap (λ b. length (cond b (y ∷ filter (λ z. eqb x z) ys) (filter (λ z. eqb x z) ys))) (ne_eqb x y (λ e. let h : x < y = above.0 in omega (arith, h, e)))
    ∙ none-above x ys above.1

-- a number stands at most once among rising ones
once : (x : ℕ) (ys : List ℕ) → Rises ys → length (filter (λ y. eqb x y) ys) ≤ 1
once x [] rises = omega arith
once x (y ∷ ys) rises =
    elim (cases_Bool (eqb x y)) [
      | inl here ↦
          let same : x ≡ y = eqb-true x y here in
          let none : length (filter (λ z. eqb x z) ys) ≡ 0 = ap (λ n. length (filter (λ z. eqb n z) ys)) same ∙ none-above y ys rises.0 in
          omega (arith, none, ap (λ b. length (cond b (y ∷ filter (λ z. eqb x z) ys) (filter (λ z. eqb x z) ys))) here)
      | inr other ↦
          omega (arith, once x ys rises.1, ap (λ b. length (cond b (y ∷ filter (λ z. eqb x z) ys) (filter (λ z. eqb x z) ys))) other)
    ]

none-found : (ys : List ℕ) → length (filter (λ y. false) ys) ≡ 0
none-found [] = refl
none-found (y ∷ ys) = none-found ys

taken-length : (xs ys : List ℕ) → Rises ys → length (filter (λ y. is_member y xs) ys) ≤ length xs
taken-length [] ys rises = omega (arith, none-found ys)
taken-length (x ∷ xs) ys rises =
    omega (arith, either-length (λ y. eqb x y) (λ y. is_member y xs) ys, once x ys rises, taken-length xs ys rises)

-- rising numbers lose at most as many as are taken
pub left-length : (ys xs : List ℕ) → IsStrictlyIncreasing ys → length ys ≤ length (left_of ys xs) + length xs
left-length ys xs rises = omega (arith, taken-length xs ys (Rises-from ys rises), filter-length (λ y. is_member y xs) ys)

-- what holds of all members holds of those that pass a test, and of those from one on

pub from_on-all : (P : List ℕ → Type 0) (c : List ℕ) (xs : List (List ℕ)) → AllByRecursion P xs → AllByRecursion P (from_on c xs)
from_on-all P c [] all = tt
from_on-all P c (x ∷ xs) all =
    elim (is_same x c) as (λ b. AllByRecursion P (if b then x ∷ xs else from_on c xs)) [
      | true ↦ all
      | false ↦ from_on-all P c xs all.1
    ]

-- opponents of S1 leave residents enough for the remainder
tuples-leave : (s1 residents : List ℕ) (k : ℕ) → IsStrictlyIncreasing residents → length s1 + k ≤ length residents → AllByRecursion (λ s2. k ≤ length (left_of residents s2)) (sorted lower_first (tuples residents (length s1)))
tuples-leave s1 residents k rises enough =
    all_members (λ s2. k ≤ length (left_of residents s2)) (sorted lower_first (tuples residents (length s1)))
    (λ s2 m.
    omega (arith, enough, tuples-length residents (length s1) s2 (sorted-in lower_first s2 (tuples residents (length s1)) m), left-length residents s2 rises))

pub opponents-leave : (meets : ℕ → ℕ → Bool) (s1 residents : List ℕ) (k : ℕ) → IsStrictlyIncreasing residents → length s1 + k ≤ length residents → AllByRecursion (λ s2. k ≤ length (left_of residents s2)) (transpositions meets s1 residents)
opponents-leave meets s1 residents k rises enough =
    all-filter (λ s2. k ≤ length (left_of residents s2)) (all_meet meets s1) (sorted lower_first (tuples residents (length s1)))
    (tuples-leave s1 residents k rises enough)

pub opponents-leave-from : (meets : ℕ → ℕ → Bool) (s1 residents s2 : List ℕ) (k : ℕ) → IsStrictlyIncreasing residents → length s1 + k ≤ length residents → AllByRecursion (λ s2. k ≤ length (left_of residents s2)) (filter (all_meet meets s1) (from_on s2 (sorted lower_first (tuples residents (length s1)))))
opponents-leave-from meets s1 residents s2 k rises enough =
    all-filter (λ s2. k ≤ length (left_of residents s2)) (all_meet meets s1) (from_on s2 (sorted lower_first (tuples residents (length s1))))
    (from_on-all (λ s2. k ≤ length (left_of residents s2)) s2 (sorted lower_first (tuples residents (length s1)))
    (tuples-leave s1 residents k rises enough))

-- a set of moved-down players has as many as are wanted
pub sets-fit : (scores : List ℕ) (mdps k room : ℕ) → mdps + k ≤ room → AllByRecursion (λ s1. length s1 + k ≤ room) (limbo_exchanges scores mdps)
sets-fit scores mdps k room enough =
    all_members (λ s1. length s1 + k ≤ room) (limbo_exchanges scores mdps)
    (λ s1 m.
    omega (arith, enough, subsets-length (numbers_from 1 (length scores)) mdps s1 (sorted-in (limbo_cmp scores) s1 (subsets (numbers_from 1 (length scores)) mdps) m)))

-- numbers one after another rise
numbers-read : (first count i : ℕ) → i < count → slice_index (numbers_from first count) i ≡ first + i
numbers-read first zero i below = absurd (omega arith)
numbers-read first (suc count) zero below = omega arith
numbers-read first (suc count) (suc i) below = numbers-read (suc first) count i (omega arith) ∙ (let e : suc first + i ≡ first + suc i = omega arith in e)

pub numbers-rise : (first count : ℕ) → IsStrictlyIncreasing (numbers_from first count)
numbers-rise first count = λ i below.
    omega (arith, below, length-numbers first count, numbers-read first count i (omega (arith, below, length-numbers first count)), numbers-read first count (i + 1) (omega (arith, below, length-numbers first count)))

or-assoc : (a b c : Bool) → (a || (b || c)) ≡ ((a || b) || c)
or-assoc true b c = refl
or-assoc false b c = refl

neither : (a b : Bool) → not (a || b) ≡ (not a && not b)
neither true b = refl
neither false b = refl

-- what is left of what is left
pub member-append : (x : ℕ) (xs ys : List ℕ) → is_member x (xs ++ ys) ≡ (is_member x xs || is_member x ys)
member-append x [] ys = refl
member-append x (y ∷ xs) ys = ap (λ b. eqb y x || b) (member-append x xs ys) ∙ or-assoc (eqb y x) (is_member x xs) (is_member x ys)

pub left-append : (numbers xs ys : List ℕ) → left_of (left_of numbers xs) ys ≡ left_of numbers (xs ++ ys)
left-append numbers xs ys =
    filter-filter (λ x. not (is_member x ys)) (λ x. not (is_member x xs)) numbers
    ∙ filter-same (λ x. not (is_member x xs) && not (is_member x ys)) (λ x. not (is_member x (xs ++ ys))) numbers
    (λ x. sym (ap not (member-append x xs ys) ∙ neither (is_member x xs) (is_member x ys)))

pub member-four : (x : ℕ) (s1 s2 s1r s2r : List ℕ) → is_member x (s1 ++ (s2 ++ (s1r ++ s2r))) ≡ (is_member x s1 || (is_member x s2 || (is_member x s1r || is_member x s2r)))
member-four x s1 s2 s1r s2r =
    member-append x s1 (s2 ++ (s1r ++ s2r))
    ∙ ap (λ b. is_member x s1 || b) (member-append x s2 (s1r ++ s2r) ∙ ap (λ b. is_member x s2 || b) (member-append x s1r s2r))
