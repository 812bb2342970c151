-- Who is in each S1R of a class of exchanges, and who is in none, since the sum of its numbers would be too great (C.04.3 D.2).
use Rattle.std.proofs.Common.{◌≡◌, ℕ, zero, suc, ◌+◌, ◌-◌, ◌<◌, ◌≤◌, Bool, true, false, List, [], ◌∷◌, ◌++◌, length, map, take, inl, inr, sym, ap, ◌∙◌, subst, arith, refl, length-append, true≢false}
use Rattle.std.proofs.Math.Seq.{take-append_seam}
use Rattle.dutch_sequence.specs.Prelude.{subsets, sum_of, is_member, IsIn, IsExchange, ExchangeClass}
use Rattle.dutch_sequence.proofs.ExchangeSets.{sum_of-append}
use Rattle.dutch_sequence.proofs.Orders.{IsIn-append, IsIn-map, Rises, Rises-from, in-member, member-in}

-- the first numbers of a rising list are less than those behind the first one
shift : (x : ℕ) (pool : List ℕ) (k : ℕ) → Rises (x ∷ pool) → k ≤ length pool → sum_of (take k (x ∷ pool)) ≤ sum_of (take k pool)
shift x pool zero rises few = omega arith
shift x [] (suc k) rises few = absurd (omega (arith, few))
shift x (y ∷ pool) (suc k) rises few = omega (arith, rises.0.0, shift y pool k rises.1 (omega (arith, few)))

-- no set of so many has a lesser sum than the first ones
smallest : (pool : List ℕ) (k : ℕ) (set : List ℕ) → Rises pool → IsIn set (subsets pool k) → (k ≤ length pool) × (sum_of (take k pool) ≤ sum_of set)
smallest pool zero set rises m = (omega arith, omega arith)
smallest [] (suc k) set rises m = absurd m
smallest (x ∷ pool) (suc k) set rises m =
    elim (IsIn-append set (map (λ s. x ∷ s) (subsets pool k)) (subsets pool (suc k)) m) [
      | inl first ↦
          let from = IsIn-map (λ s. x ∷ s) set (subsets pool k) first in
          let less = smallest pool k from.0 rises.1 from.2 in
          (omega (arith, less.0), omega (arith, less.1, ap sum_of from.1))
      | inr later ↦
          let less = smallest pool (suc k) set rises.1 later in
          (omega (arith, less.0), omega (arith, less.1, shift x pool (suc k) rises less.0))
    ]

-- nor has one with a given member, if one less are the first ones
with_first : (p : ℕ) (pool : List ℕ) (k : ℕ) (rest : List ℕ) (x : ℕ) → Rises (p ∷ pool)
    → ((j : ℕ) (set : List ℕ) → IsIn set (subsets pool (suc j)) → IsIn x set → sum_of (take j pool) + x ≤ sum_of set)
    → IsIn rest (subsets pool k) → IsIn x (p ∷ rest) → sum_of (take k (p ∷ pool)) + x ≤ p + sum_of rest
with_first p pool k rest x rises later m (inl same) =
    let less = smallest pool k rest rises.1 m in omega (arith, same, less.1, shift p pool k rises less.0)
with_first p pool zero rest x rises later (inl none) (inr is) = absurd (subst (IsIn x) none is)
with_first p pool zero rest x rises later (inr none) (inr is) = absurd none
with_first p pool (suc k) rest x rises later m (inr is) = omega (arith, later k rest m is)

with_member : (pool : List ℕ) (k : ℕ) (set : List ℕ) (x : ℕ) → Rises pool → IsIn set (subsets pool (suc k)) → IsIn x set → sum_of (take k pool) + x ≤ sum_of set
with_member [] k set x rises m is = absurd m
with_member (p ∷ pool) k set x rises m is =
    elim (IsIn-append set (map (λ s. p ∷ s) (subsets pool k)) (subsets pool (suc k)) m) [
      | inl first ↦
          let from = IsIn-map (λ s. p ∷ s) set (subsets pool k) first in
          omega (
            arith,
            with_first p pool k from.0 x rises (λ j s n within. with_member pool j s x rises.1 n within) from.2 (subst (IsIn x) from.1 is),
            ap sum_of from.1,
          )
      | inr later ↦
          let less = smallest pool (suc k) set rises.1 later in
          omega (arith, with_member pool k set x rises.1 later is, shift p pool k rises (omega (arith, less.0)))
    ]

-- nor has one without a member of the first ones, if one more are
member_more : (y : ℕ) (pool : List ℕ) (k : ℕ) → IsIn y (take k pool) → IsIn y (take (suc k) pool)
member_more y pool zero m = absurd m
member_more y [] (suc k) m = absurd m
member_more y (p ∷ pool) (suc k) (inl same) = inl same
member_more y (p ∷ pool) (suc k) (inr later) = inr (member_more y pool k later)

-- so many are the first ones and one more, and their sum is no more than that of a set with a number
abbrev IsMore : List ℕ → ℕ → List ℕ → ℕ → Type 0
IsMore pool k set y = (suc k ≤ length pool) × (sum_of (take (suc k) pool) ≤ sum_of set + y)

without_rest : (p : ℕ) (pool : List ℕ) (k : ℕ) (set : List ℕ) (y : ℕ) → Rises (p ∷ pool)
    → (IsIn y (take (suc k) pool) → IsMore pool (suc k) set y)
    → IsIn set (subsets pool (suc k)) → IsIn y (take (suc k) (p ∷ pool)) → IsMore (p ∷ pool) (suc k) set y
without_rest p pool k set y rises later m (inl same) =
    let less = smallest pool (suc k) set rises.1 m in (omega (arith, less.0), omega (arith, less.1, same))
without_rest p pool k set y rises later m (inr is) =
    let less = later (member_more y pool k is) in
    (omega (arith, less.0), omega (arith, less.1, shift p pool (suc (suc k)) rises less.0))

without_first : (p : ℕ) (pool : List ℕ) (k : ℕ) (rest : List ℕ) (y : ℕ) → (IsIn y (take k pool) → (IsIn y rest → ⊥) → IsMore pool k rest y)
    → IsIn y (take (suc k) (p ∷ pool)) → (IsIn y (p ∷ rest) → ⊥) → IsMore pool k rest y
without_first p pool k rest y later (inl same) none = absurd (none (inl same))
without_first p pool k rest y later (inr is) none = later is (λ n. none (inr n))

without_member : (pool : List ℕ) (k : ℕ) (set : List ℕ) (y : ℕ) → Rises pool → IsIn set (subsets pool k) → IsIn y (take k pool) → (IsIn y set → ⊥) → IsMore pool k set y
without_member pool zero set y rises m is none = absurd is
without_member [] (suc k) set y rises m is none = absurd m
without_member (p ∷ pool) (suc k) set y rises m is none =
    elim (IsIn-append set (map (λ s. p ∷ s) (subsets pool k)) (subsets pool (suc k)) m) [
      | inl first ↦
          let from = IsIn-map (λ s. p ∷ s) set (subsets pool k) first in
          let less = without_first p pool k from.0 y (λ n out. without_member pool k from.0 y rises.1 from.2 n out) is
          (λ n. none (subst (IsIn y) (sym from.1) n)) in
          (omega (arith, less.0), omega (arith, less.1, ap sum_of from.1))
      | inr later ↦ without_rest p pool k set y rises (λ n. without_member pool (suc k) set y rises.1 later n none) later is
    ]

-- ---- the first numbers of two lists

one_more : (firsts others : List ℕ) (first : ℕ) (rest : List ℕ) → others ≡ first ∷ rest → take (suc (length firsts)) (firsts ++ others) ≡ firsts ++ first ∷ []
one_more [] others first rest is = ap (take 1) is
one_more (x ∷ firsts) others first rest is = ap (λ xs. x ∷ xs) (one_more firsts others first rest is)

one_less : (front : List ℕ) (last : ℕ) (others : List ℕ) → take (length front) ((front ++ last ∷ []) ++ others) ≡ front
one_less [] last others = refl
one_less (x ∷ front) last others = ap (λ xs. x ∷ xs) (one_less front last others)

by_test : (x : ℕ) (xs : List ℕ) (t : Bool) → is_member x xs ≡ t → ((IsIn x xs → ⊥) → ⊥) → IsIn x xs
by_test x xs true is not-none = member-in x xs is
by_test x xs false is not-none = absurd (not-none (λ m. true≢false (sym (in-member x xs m) ∙ is)))

module _ (exchange : ExchangeClass) (s1r : List ℕ) (is : IsExchange exchange s1r) where
  abbrev pool : List ℕ
  pool = exchange.original ++ exchange.others

  rises : Rises pool
  rises = Rises-from pool is.ascends

  -- whoever is in the original one and not in S1R makes room for one of the others
  left_out : (first number : ℕ) (rest : List ℕ) → exchange.others ≡ first ∷ rest → IsIn number exchange.original → (IsIn number s1r → ⊥)
      → first ≤ number + exchange.difference
  left_out first number rest others in' none =
      let k : ℕ = length exchange.original in
      let front : take k pool ≡ exchange.original = take-append_seam exchange.original exchange.others in
      let less = without_member pool k s1r number rises is.set (subst (IsIn number) (sym front) in') none in
      let more : take (suc k) pool ≡ exchange.original ++ first ∷ [] = one_more exchange.original exchange.others first rest others in
      omega (arith, less.1, ap sum_of more, sum_of-append exchange.original (first ∷ []), is.sum)

  -- whoever is in S1R stands not far behind the last of the original one
  taken_in : (last number : ℕ) (front : List ℕ) → exchange.original ≡ front ++ last ∷ [] → IsIn number s1r → number ≤ last + exchange.difference
  taken_in last number front original in' =
      let count : length exchange.original ≡ suc (length front) = omega (arith, ap length original, length-append front (last ∷ [])) in
      let set : IsIn s1r (subsets pool (suc (length front))) = subst (λ k. IsIn s1r (subsets pool k)) count is.set in
      let first : take (length front) pool ≡ front = ap (λ xs. take (length front) (xs ++ exchange.others)) original ∙ one_less front last exchange.others in
      omega (
        arith,
        with_member pool (length front) s1r number rises set in',
        ap sum_of first,
        ap sum_of original,
        sum_of-append front (last ∷ []),
        is.sum,
      )

-- a number is in each S1R of a class
pub always_in : (exchange : ExchangeClass) (first number : ℕ) (rest : List ℕ) → exchange.others ≡ first ∷ rest → is_member number exchange.original ≡ true
    → exchange.difference < first - number → (s1r : List ℕ) → IsExchange exchange s1r → IsIn number s1r
always_in exchange first number rest others in' less s1r is =
    by_test number s1r (is_member number s1r) refl
    (λ none. let bound = left_out exchange s1r is first number rest others (member-in number exchange.original in') none in omega (arith, bound, less))

-- a number is in none
pub never_in : (exchange : ExchangeClass) (last number : ℕ) (front : List ℕ) → exchange.original ≡ front ++ last ∷ []
    → exchange.difference < number - last → (s1r : List ℕ) → IsExchange exchange s1r → IsIn number s1r → ⊥
never_in exchange last number front original less s1r is m =
    let bound = taken_in exchange s1r is last number front original m in let bad : ⊥ = omega (arith, bound, less) in bad
