-- The orders of choices are those by keys, of lists of numbers that no number exceeds.
use Rattle.std.proofs.Common.{◌≡◌, ℕ, zero, suc, ◌-◌, ◌<◌, ◌≤◌, Bool, true, false, not, ◌&&◌, ◌||◌, eqb, ltb, cond, List, [], ◌∷◌, ◌++◌, map, length, take, reverse, refl, sym, ◌∙◌, ap, arith, subst, inl, inr, slice_index}
use Rattle.std.specs.List.{AllByRecursion}
use Rattle.std.specs.declared.cmp.Ordering.{Ordering}
use Rattle.std.specs.declared.cmp.Ordering.TheVariants.{Less, Equal, Greater}
use Rattle.std.specs.Ordering.{nat_cmp, flip_args, is_lt, ordering_then, ordering_reverse}
use Rattle.std.specs.Cmp.{IsTotalOrder}
use Rattle.std.specs.Cmp.Lexicographic.{slice_cmp}
use Rattle.std.proofs.lemmas.Bool.{cases_order, eqb-true, eq-eqb, ne_eqb, lt-ltb, le-ltb, true≢false}
use Rattle.std.proofs.lemmas.Cmp.{then_total, on_total, back_total, lists_total, nat_cmp_total, nat_list_cmp_total, ranked, by_ranked}
use Rattle.std.proofs.lemmas.List.{length-map, length-reverse, get_or_past}
use Rattle.std.proofs.lemmas.Simd.{map-map}
use Rattle.std.proofs.lemmas.Grind.{reverse_onto}
use Rattle.dutch_sequence.specs.Prelude.{is_member, exchange_cmp, highest_out, moved_count, moved_in, moved_out, sum_difference, sum_of, IsIn, lower_first, Ascends as AscendsIn, limbo_cmp, score_of, scores_of}
use Rattle.dutch_sequence.proofs.ByKeys.{is_before, Ascends, turned_in, exchange_key, limbo_key_in}
use Rattle.dutch_sequence.proofs.Orders.{IsIn-append, IsIn-filter, all_members, is_before-total, member_has}

-- a number first, and then something else
decided : (b c : Bool) (o : Ordering) (t : Bool) → (c ≡ true → is_lt o ≡ t) → is_lt (ordering_then (cond b Less (cond c Equal Greater)) o) ≡ (b || (c && t))
decided true c o t e = refl
decided false true o t e = e refl
decided false false o t e = refl

pub number_first : (x y : ℕ) (o : Ordering) (t : Bool) → (x ≡ y → is_lt o ≡ t) → is_lt (ordering_then (nat_cmp x y) o) ≡ (ltb x y || (eqb x y && t))
number_first x y o t e = decided (ltb x y) (eqb x y) o t (λ same. e (eqb-true x y same))

-- lists by their first difference, the lower number first
pub lower_first-is : (xs ys : List ℕ) → is_lt (lower_first xs ys) ≡ is_before xs ys
lower_first-is [] [] = refl
lower_first-is [] (y ∷ ys) = refl
lower_first-is (x ∷ xs) [] = refl
lower_first-is (x ∷ xs) (y ∷ ys) = number_first x y (lower_first xs ys) (is_before xs ys) (λ same. lower_first-is xs ys)

then_then : (o p q : Ordering) → ordering_then (ordering_then o p) q ≡ ordering_then o (ordering_then p q)
then_then Less p q = refl
then_then Equal p q = refl
then_then Greater p q = refl

turned-below : (bound x y : ℕ) → x ≤ bound → y ≤ bound → ltb (bound - x) (bound - y) ≡ ltb y x
turned-below bound x y p q =
    elim (cases_order x y) [
      | inl same ↦ le-ltb (bound - x) (bound - y) (omega (arith, p, q, same)) ∙ sym (le-ltb y x (omega (arith, same)))
      | inr (inl lower) ↦ le-ltb (bound - x) (bound - y) (omega (arith, p, q, lower)) ∙ sym (le-ltb y x (omega (arith, lower)))
      | inr (inr higher) ↦ lt-ltb (bound - x) (bound - y) (omega (arith, p, q, higher)) ∙ sym (lt-ltb y x higher)
    ]

turned-same : (bound x y : ℕ) → x ≤ bound → y ≤ bound → eqb (bound - x) (bound - y) ≡ eqb y x
turned-same bound x y p q =
    elim (cases_order x y) [
      | inl same ↦ eq-eqb (bound - x) (bound - y) (ap (λ n. bound - n) same) ∙ sym (eq-eqb y x (sym same))
      | inr (inl lower) ↦ ne_eqb (bound - x) (bound - y) (λ e. omega (arith, p, q, lower, e)) ∙ sym (ne_eqb y x (λ e. omega (arith, lower, e)))
      | inr (inr higher) ↦ ne_eqb (bound - x) (bound - y) (λ e. omega (arith, p, q, higher, e)) ∙ sym (ne_eqb y x (λ e. omega (arith, higher, e)))
    ]

-- lists of one length by their first difference, the higher number first, and then something else
pub higher_first-is : (bound : ℕ) (xs ys us vs : List ℕ) (o : Ordering) → length xs ≡ length ys
    → AllByRecursion (λ x. x ≤ bound) xs → AllByRecursion (λ y. y ≤ bound) ys → is_lt o ≡ is_before us vs
    → is_lt (ordering_then (slice_cmp (flip_args nat_cmp) xs ys) o) ≡ is_before (map (turned_in bound) xs ++ us) (map (turned_in bound) ys ++ vs)
higher_first-is bound [] [] us vs o long p q e = e
higher_first-is bound [] (y ∷ ys) us vs o long p q e = absurd (omega arith)
higher_first-is bound (x ∷ xs) [] us vs o long p q e = absurd (omega arith)
higher_first-is bound (x ∷ xs) (y ∷ ys) us vs o long p q e =
    let rest : Bool = is_before (map (turned_in bound) xs ++ us) (map (turned_in bound) ys ++ vs) in
    ap is_lt (then_then (nat_cmp y x) (slice_cmp (flip_args nat_cmp) xs ys) o)
    ∙ number_first y x (ordering_then (slice_cmp (flip_args nat_cmp) xs ys) o) rest
    (λ same. higher_first-is bound xs ys us vs o (omega arith) p.1 q.1 e)
    ∙ ap (λ t. t || (eqb y x && rest)) (sym (turned-below bound x y p.0 q.0))
    ∙ ap (λ t. ltb (bound - x) (bound - y) || (t && rest)) (sym (turned-same bound x y p.0 q.0))

-- ---- exchanges

all-reverse : (P : ℕ → Type 0) (xs : List ℕ) → AllByRecursion P xs → AllByRecursion P (reverse xs)
all-reverse P [] all = tt
all-reverse P (x ∷ xs) all =
    subst (AllByRecursion P) (sym (reverse_onto xs x []))
    (all_members P (reverse xs ++ x ∷ []) (λ y m. elim (IsIn-append y (reverse xs) (x ∷ []) m) [
      | inl front ↦ member_has P (reverse xs) (all-reverse P xs all.1) y front
      | inr back ↦ member_has P (x ∷ []) (all.0, tt) y back
    ]))

take-in : (k x : ℕ) (xs : List ℕ) → IsIn x (take k xs) → IsIn x xs
take-in k x [] m = absurd (none k m) where
  none : (k : ℕ) → IsIn x (take k []) → ⊥
  none zero m = m
  none (suc k) m = m
take-in zero x (y ∷ xs) m = absurd m
take-in (suc k) x (y ∷ xs) (inl same) = inl same
take-in (suc k) x (y ∷ xs) (inr m) = inr (take-in k x xs m)

member_under : (x : ℕ) (xs : List ℕ) → IsIn x xs → x ≤ sum_of xs
member_under x [] m = absurd m
member_under x (y ∷ xs) (inl same) = omega (arith, same)
member_under x (y ∷ xs) (inr m) = omega (arith, member_under x xs m)

out_small : (pool : List ℕ) (k : ℕ) (set : List ℕ) → AllByRecursion (λ x. x ≤ sum_of pool) (reverse (moved_out pool k set))
out_small pool k set =
    all-reverse (λ x. x ≤ sum_of pool) (moved_out pool k set)
    (all_members (λ x. x ≤ sum_of pool) (moved_out pool k set)
    (λ x m. member_under x pool (take-in k x pool (IsIn-filter (λ x. not (is_member x set)) x (take k pool) m).0)))

pub exchange_cmp-is : (pool : List ℕ) (k : ℕ) (a b : List ℕ) → is_lt (exchange_cmp pool k a b) ≡ is_before (exchange_key pool k a) (exchange_key pool k b)
unfolding exchange_cmp
exchange_cmp-is pool k a b =
    let out : List ℕ → List ℕ = moved_out pool k in
    let by : List ℕ → ℕ = λ set. sum_of (moved_in pool k set) - sum_of (moved_out pool k set) in
    let lists : List ℕ → List ℕ = λ set. map (turned_in (sum_of pool)) (reverse (moved_out pool k set)) ++ moved_in pool k set in
    let last : Ordering = ordering_then (slice_cmp (flip_args nat_cmp) (reverse (out a)) (reverse (out b))) (lower_first (moved_in pool k a) (moved_in pool k b)) in
    number_first (length (out a)) (length (out b)) (ordering_then (nat_cmp (by a) (by b)) last) (is_before (by a ∷ lists a) (by b ∷ lists b))
    (λ same. number_first (by a) (by b) last (is_before (lists a) (lists b))
    (λ _. higher_first-is (sum_of pool) (reverse (out a)) (reverse (out b)) (moved_in pool k a) (moved_in pool k b) (lower_first (moved_in pool k a) (moved_in pool k b))
    (length-reverse (out a) ∙ same ∙ sym (length-reverse (out b))) (out_small pool k a) (out_small pool k b)
    (lower_first-is (moved_in pool k a) (moved_in pool k b))))

-- ---- exchanges of moved-down players

scores_small : (bound : ℕ) (scores set : List ℕ) → ((i : ℕ) → slice_index scores i ≤ bound) → AllByRecursion (λ x. x ≤ bound) (map (score_of scores) set)
scores_small bound scores [] small = tt
scores_small bound scores (x ∷ set) small = (small (x - 1), scores_small bound scores set small)

pub limbo_cmp-is : (bound : ℕ) (scores : List ℕ) → ((i : ℕ) → slice_index scores i ≤ bound) → (a b : List ℕ) → length a ≡ length b
    → is_lt (limbo_cmp scores a b) ≡ is_before (limbo_key_in bound scores a) (limbo_key_in bound scores b)
unfolding limbo_cmp
limbo_cmp-is bound scores small a b long =
    let score : ℕ → ℕ = score_of scores in
    higher_first-is bound (map score a) (map score b) a b (lower_first a b) (length-map a score ∙ long ∙ sym (length-map b score))
    (scores_small bound scores a small) (scores_small bound scores b small) (lower_first-is a b)
    ∙ ap (λ front. is_before (front ++ a) (map (turned_in bound) (map score b) ++ b)) (map-map (turned_in bound) score a)
    ∙ ap (λ front. is_before (map (λ number. turned_in bound (score number)) a ++ a) (front ++ b)) (map-map (turned_in bound) score b)

-- ---- lists that ascend

less : (o : Ordering) → is_lt o ≡ true → o ≡ Less
less Less e = refl
less Equal e = absurd (true≢false (sym e))
less Greater e = absurd (true≢false (sym e))

-- a list that ascends by a key ascends in the order that is that of the keys
pub ascends-in : (key : List ℕ → List ℕ) (order : List ℕ → List ℕ → Ordering) (xs : List (List ℕ))
    → ((x y : List ℕ) → IsIn x xs → IsIn y xs → is_lt (order x y) ≡ is_before (key x) (key y)) → Ascends key xs → AscendsIn order xs
ascends-in key order [] same p = tt
ascends-in key order (x ∷ xs) same p = (
  all_members (λ other. order x other ≡ Less) xs
      (λ y m. less (order x y) (same x y (inl refl) (inr m) ∙ member_has (λ other. is_before (key x) (key other) ≡ true) xs p.0 y m)),
  ascends-in key order xs (λ x y m n. same x y (inr m) (inr n)) p.1,
)

-- ---- what an order does not tell apart

pub both_tied : (o p : Ordering) → ordering_then o p ≡ Equal → (o ≡ Equal) × (p ≡ Equal)
both_tied Less p e = absurd (cc)
both_tied Equal p e = (refl, e)
both_tied Greater p e = absurd (cc)

pub numbers_tied : (x y : ℕ) → nat_cmp x y ≡ Equal → x ≡ y
numbers_tied x y e = by_ranked (x < y) (x ≡ y) (y < x) (nat_cmp x y) (ranked x y (nat_cmp x y) refl) (λ f _. absurd (cc (e, f))) (λ _ f. f) (λ f _. absurd (cc (e, f)))

pub lists_tied : (xs ys : List ℕ) → slice_cmp nat_cmp xs ys ≡ Equal → xs ≡ ys
lists_tied [] [] e = refl
lists_tied [] (y ∷ ys) e = absurd (cc)
lists_tied (x ∷ xs) [] e = absurd (cc)
lists_tied (x ∷ xs) (y ∷ ys) e =
    let both = both_tied (nat_cmp x y) (slice_cmp nat_cmp xs ys) e in
    let head : x ≡ y = numbers_tied x y both.0 in
    let tail : xs ≡ ys = lists_tied xs ys both.1 in
    cc

pub limbo_tied : (scores a b : List ℕ) → limbo_cmp scores a b ≡ Equal → a ≡ b
unfolding limbo_cmp
limbo_tied scores a b e =
    lists_tied a b (both_tied (slice_cmp (flip_args nat_cmp) (map (score_of scores) a) (map (score_of scores) b)) (lower_first a b) e).1

pub exchange_cmp_total : (pool : List ℕ) (k : ℕ) → IsTotalOrder (exchange_cmp pool k)
unfolding exchange_cmp
exchange_cmp_total pool k =
    then_total (on_total (moved_count pool k) nat_cmp_total)
    (then_total (on_total (sum_difference pool k) nat_cmp_total)
    (then_total (on_total (highest_out pool k) (lists_total (back_total nat_cmp_total))) (on_total (moved_in pool k) nat_list_cmp_total)))

pub limbo_cmp_total : (scores : List ℕ) → IsTotalOrder (limbo_cmp scores)
unfolding limbo_cmp
limbo_cmp_total scores = then_total (on_total (scores_of scores) (lists_total (back_total nat_cmp_total))) nat_list_cmp_total

-- keys of choices that an order does not tell apart are the same
pub keys_tied : (pool : List ℕ) (k : ℕ) (a b : List ℕ) → exchange_cmp pool k a b ≡ Equal → exchange_key pool k a ≡ exchange_key pool k b
keys_tied pool k a b e =
    let back : exchange_cmp pool k b a ≡ Equal = (exchange_cmp_total pool k).antisymm b a ∙ ap ordering_reverse e in
    elim (is_before-total (exchange_key pool k a) (exchange_key pool k b)) [
      | inl same ↦ same
      | inr (inl first) ↦ absurd (true≢false (sym first ∙ sym (exchange_cmp-is pool k a b) ∙ ap is_lt e))
      | inr (inr second) ↦ absurd (true≢false (sym second ∙ sym (exchange_cmp-is pool k b a) ∙ ap is_lt back))
    ]

-- each number of a list is at most their sum
pub under_sum : (scores : List ℕ) (i : ℕ) → slice_index scores i ≤ sum_of scores
under_sum [] i = let none : slice_index [] i ≡ 0 = get_or_past [] i 0 (omega arith) in omega (arith, none)
under_sum (x ∷ scores) zero = let here : slice_index (x ∷ scores) 0 ≡ x = refl in omega (arith, here)
under_sum (x ∷ scores) (suc i) = let rest : slice_index scores i ≤ sum_of scores = under_sum scores i in omega (arith, rest)
