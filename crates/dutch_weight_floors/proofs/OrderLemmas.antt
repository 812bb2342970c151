-- What is added to a weight where two meet, and the most that the members of an S1R add of which an exchange is known (C.04.3 D.2).
use Rattle.std.proofs.Common.{◌≡◌, ℕ, zero, suc, ◌+◌, ◌-◌, ◌*◌, ◌<◌, ◌≤◌, ◌^◌, Bool, true, false, not, cond, if◌then◌else◌, nat_lt, List, [], ◌∷◌, ◌++◌, map, length, Option, Some, None, sum_by, inl, inr, refl, sym, ap, subst, ◌∙◌, mul_comm, mul-zero, arith}
use Rattle.std.specs.List.{filter}
use Rattle.std.specs.Option.{IfSome}
use Rattle.std.proofs.Math.Nat.{mul-add}
use Rattle.std.proofs.lemmas.Bool.{false_from_ne_true, true≢false}
use Rattle.std.proofs.lemmas.List.Sums.{sum_by-cons}
use Rattle.dutch_arrangements.specs.Prelude.{is_member, subsets, sum_of, IsExchange, ExchangeClass, IsIn, total}
use Rattle.dutch_arrangements.proofs.CursorSets.{AreSet, subset-from, subset-to}
use Rattle.dutch_sequence.proofs.Orders.{in-member, member-in, IsIn-append, IsIn-back, IsIn-filter, IsIn-front, IsIn-map, Rises, all_members, filter-IsIn, Rises-filter, Rises-from, member_has}
use Rattle.dutch_weight_floors.specs.Prelude.{Order, added_for, kept, lesser, more_of, short_of, with_lesser}

-- ---- sums

sum_is : (f : ℕ → ℕ) (xs : List ℕ) → total f xs ≡ sum_by f xs
sum_is f [] = refl
sum_is f (x ∷ xs) = omega (arith, sum_by-cons f x xs, sum_is f xs)

-- so many units for each number, and something more
units_and_more : (unit : ℕ) (f : ℕ → ℕ) (xs : List ℕ) → total (λ x. unit * x + f x) xs ≡ unit * sum_of xs + total f xs
units_and_more unit f [] = omega (arith, mul-zero unit)
units_and_more unit f (x ∷ xs) = omega (arith, mul-add unit x (sum_of xs), units_and_more unit f xs)

-- those who pass a test, and those who do not
total_parts : (f : ℕ → ℕ) (q : ℕ → Bool) (xs : List ℕ) → total f (filter q xs) + total f (filter (λ x. not (q x)) xs) ≡ total f xs
total_parts f q [] = refl
total_parts f q (x ∷ xs) =
    let passed : List ℕ = filter q xs in
    let others : List ℕ = filter (λ x. not (q x)) xs in
    elim (q x) as (λ b. total f (cond b (x ∷ passed) passed) + total f (cond (not b) (x ∷ others) others) ≡ f x + total f xs) [
      | true ↦ omega (arith, total_parts f q xs)
      | false ↦ omega (arith, total_parts f q xs)
    ]

total_none : (f : ℕ → ℕ) (xs : List ℕ) → ((x : ℕ) → IsIn x xs → f x ≡ 0) → total f xs ≡ 0
total_none f [] none = refl
total_none f (x ∷ xs) none = omega (arith, none x (inl refl), total_none f xs (λ y m. none y (inr m)))

-- the members of a set come to no more than its pool, if none does
set_below : (f g : ℕ → ℕ) (pool : List ℕ) (k : ℕ) (set : List ℕ) → IsIn set (subsets pool k)
    → ((x : ℕ) → IsIn x set → f x ≤ g x) → total f set ≤ total g pool
set_below f g pool zero set (inl same) each = omega (arith, ap (total f) same)
set_below f g pool zero set (inr none) each = absurd none
set_below f g [] (suc k) set m each = absurd m
set_below f g (x ∷ pool) (suc k) set m each =
    elim (IsIn-append set (map (λ set. x ∷ set) (subsets pool k)) (subsets pool (suc k)) m) [
      | inl with' ↦
          let from = IsIn-map (λ set. x ∷ set) set (subsets pool k) with' in
          let first : f x ≤ g x = each x (subst (IsIn x) (sym from.1) (inl refl)) in
          let rest = set_below f g pool k from.0 from.2 (λ y n. each y (subst (IsIn y) (sym from.1) (inr n))) in
          omega (arith, ap (total f) from.1, first, rest)
      | inr out ↦ omega (arith, set_below f g pool (suc k) set out each)
    ]

-- each member of a set comes to no more than the most, with what is known of it; and nothing is known of the others of the pool
set_short : (f g : ℕ → ℕ) (top : ℕ) (pool : List ℕ) (k : ℕ) (set : List ℕ) → Rises pool → IsIn set (subsets pool k)
    → ((x : ℕ) → f x + g x ≤ top) → ((x : ℕ) → IsIn x pool → ¬ IsIn x set → g x ≡ 0) → total f set + total g pool ≤ k * top
set_short f g top pool zero set rises (inl same) each none =
    omega (arith, ap (total f) same, total_none g pool (λ x m. none x m (λ n. subst (IsIn x) same n)))
set_short f g top pool zero set rises (inr nobody) each none = absurd nobody
set_short f g top [] (suc k) set rises m each none = absurd m
set_short f g top (x ∷ pool) (suc k) set rises m each none =
    elim (IsIn-append set (map (λ set. x ∷ set) (subsets pool k)) (subsets pool (suc k)) m) [
      | inl with' ↦
          let from = IsIn-map (λ set. x ∷ set) set (subsets pool k) with' in
          let rest = set_short f g top pool k from.0 rises.1 from.2 each
          (λ y n out. none y (inr n) (λ in_set. elim (subst (IsIn y) from.1 in_set) [
            | inl same ↦ let above : x < y = member_has (λ y. x < y) pool rises.0 y n in omega (arith, above, same)
            | inr later ↦ out later
          ])) in
          omega (arith, ap (total f) from.1, each x, rest)
      | inr out ↦
          let are = subset-to pool (suc k) set rises.1 out in
          let apart : ¬ IsIn x set = λ in_set.
          let above : x < x = member_has (λ y. x < y) pool rises.0 x (are.within x in_set) in omega (arith, above) in
          omega (arith, none x (inl refl) apart, set_short f g top pool (suc k) set rises.1 out each (λ y n. none y (inr n)))
    ]

-- ---- rising lists

rises_front : (xs ys : List ℕ) → Rises (xs ++ ys) → Rises xs
rises_front [] ys rises = tt
rises_front (x ∷ xs) ys rises =
    (all_members (λ y. x < y) xs (λ y m. member_has (λ y. x < y) (xs ++ ys) rises.0 y (IsIn-front y xs ys m)), rises_front xs ys rises.1)

rises_behind : (xs ys : List ℕ) → Rises (xs ++ ys) → Rises ys
rises_behind [] ys rises = rises
rises_behind (x ∷ xs) ys rises = rises_behind xs ys rises.1

-- nobody is in both parts
in_one : (xs ys : List ℕ) (x : ℕ) → Rises (xs ++ ys) → IsIn x xs → IsIn x ys → ⊥
in_one [] ys x rises m n = m
in_one (z ∷ xs) ys x rises (inl same) n =
    let above : z < x = member_has (λ y. z < y) (xs ++ ys) rises.0 x (IsIn-back x xs ys n) in omega (arith, above, same)
in_one (z ∷ xs) ys x rises (inr m) n = in_one xs ys x rises.1 m n

-- ---- the most that the members of an S1R add

not_yes : (b : Bool) → not b ≡ true → b ≡ false
not_yes true e = absurd (true≢false (sym e))
not_yes false e = refl

yes_not : (b : Bool) → b ≡ false → not b ≡ true
yes_not true e = absurd (true≢false e)
yes_not false e = refl

at_most_top : (t : Bool) (m top : ℕ) → m ≤ top → m + (if t then top - m else 0) ≤ top
at_most_top true m top le = omega (arith, le)
at_most_top false m top le = omega (arith, le)

module _ (order : Order) (top : ℕ) (below : (x : ℕ) → more_of order x ≤ top) (e : ExchangeClass) (s1r : List ℕ) (is : IsExchange e s1r) where
  abbrev stay : ℕ → Bool
  stay x = is_member x e.original

  abbrev enter : ℕ → Bool
  enter x = not (is_member x e.original)

  rises : Rises (e.original ++ e.others)
  rises = Rises-from (e.original ++ e.others) is.ascends

  are : AreSet (e.original ++ e.others) (length e.original) s1r
  are = subset-to (e.original ++ e.others) (length e.original) s1r rises is.set

  -- those of the original S1R are a set of it
  stay_in : IsIn (filter stay s1r) (subsets e.original (length (filter stay s1r)))
  stay_in =
      subset-from e.original (length (filter stay s1r)) (filter stay s1r) (rises_front e.original e.others rises) (Rises-filter stay s1r are.rises)
      (λ x m. member-in x e.original (IsIn-filter stay x s1r m).1) refl

  -- and the others are a set of the others
  enter_in : IsIn (filter enter s1r) (subsets e.others e.size)
  enter_in =
      subset-from e.others e.size (filter enter s1r) (rises_behind e.original e.others rises) (Rises-filter enter s1r are.rises)
      (λ x m.
      let from = IsIn-filter enter x s1r m in
      elim (IsIn-append x e.original e.others (are.within x from.0)) [
        | inl n ↦ absurd (true≢false (sym (in-member x e.original n) ∙ not_yes (is_member x e.original) from.1))
        | inr n ↦ n
      ])
      is.size

  -- who is known not to be in S1R is none of those
  stay_below : (barred : List ℕ) → ((x : ℕ) → IsIn x barred → IsIn x e.barred)
      → total (more_of order) (filter stay s1r) ≤ total (λ x. if is_member x barred then 0 else more_of order x) e.original
  stay_below barred told =
      set_below (more_of order) (λ x. if is_member x barred then 0 else more_of order x) e.original (length (filter stay s1r)) (filter stay s1r)
      stay_in
      (λ x m.
      let none : is_member x barred ≡ false =
      false_from_ne_true (is_member x barred)
      (λ yes'. member_has (λ x. ¬ IsIn x s1r) e.barred is.barred x (told x (member-in x barred yes')) (IsIn-filter stay x s1r m).0) in
      subst (λ b. more_of order x ≤ (if b then 0 else more_of order x)) (sym none) (omega arith))

  -- and who is known to be in it is one of the others if no member of the original one
  enter_below : (held : List ℕ) → ((x : ℕ) → IsIn x held → IsIn x e.held)
      → total (more_of order) (filter enter s1r) + total (short_of order top held) e.others ≤ e.size * top
  enter_below held told =
      set_short (more_of order) (short_of order top held) top e.others e.size (filter enter s1r) (rises_behind e.original e.others rises) enter_in
      (λ x. at_most_top (is_member x held) (more_of order x) top (below x))
      (λ x m out.
      let none : is_member x held ≡ false =
      false_from_ne_true (is_member x held)
      (λ yes'.
      let in_set : IsIn x s1r = member_has (λ x. IsIn x s1r) e.held is.held x (told x (member-in x held yes')) in
      let new : is_member x e.original ≡ false =
      false_from_ne_true (is_member x e.original) (λ old. in_one e.original e.others x rises (member-in x e.original old) m) in
      out (filter-IsIn enter x s1r in_set (yes_not (is_member x e.original) new))) in
      ap (λ b. if b then top - more_of order x else 0) none)

  pub most_added : (barred held : List ℕ) → ((x : ℕ) → IsIn x barred → IsIn x e.barred) → ((x : ℕ) → IsIn x held → IsIn x e.held)
      → sum_by (added_for order) s1r + sum_by (short_of order top held) e.others
      ≤ (sum_by (kept order barred) e.original + order.unit * e.difference) + top * e.size
  most_added barred held told_barred told_held =
      omega (
        arith,
        sum_is (added_for order) s1r,
        sum_is (short_of order top held) e.others,
        sum_is (kept order barred) e.original,
        units_and_more order.unit (more_of order) s1r,
        units_and_more order.unit (λ x. if is_member x barred then 0 else more_of order x) e.original,
        ap (λ n. order.unit * n) is.sum ∙ mul-add order.unit (sum_of e.original) e.difference,
        total_parts (more_of order) stay s1r,
        stay_below barred told_barred,
        enter_below held told_held,
        mul_comm top e.size,
      )

-- what is left of a sum, where so much has to be left over
pub under_rest : (order : Order) (e : ExchangeClass) (r : Option ℕ) (all short : ℕ) → IfSome r (λ n. n + short ≡ all)
    → ((s1r : List ℕ) → IsExchange e s1r → sum_by (added_for order) s1r + short ≤ all)
    → IfSome r (λ n. (s1r : List ℕ) → IsExchange e s1r → sum_by (added_for order) s1r ≤ n)
under_rest order e None all short left each = tt
under_rest order e (Some n) all short left each = λ s1r is. omega (arith, left, each s1r is)

-- ---- weights with the lesser of what two add

-- a weight with the lesser is no more than with one of the two
chosen_most : (t : Bool) (w l m : ℕ) → l ≤ m → (if t then w + l else w) ≤ w + m
chosen_most true w l m le = omega (arith, le)
chosen_most false w l m le = omega arith

pub with_first : (order : Order) (w a b : ℕ) → with_lesser order w a b ≤ w + added_for order a
with_first order w a b = chosen_most (nat_lt (w + lesser order a b) (2 ^ 1024)) w (lesser order a b) (added_for order a) (omega arith)
