-- Numbers that are marked one by one, and those that are left.
use Rattle.std.proofs.Common.{◌≡◌, ℕ, zero, suc, ◌+◌, ◌-◌, ◌≤◌, Bool, true, false, not, ◌||◌, cond, List, [], ◌∷◌, ◌++◌, length, map, max, drop, filter, refl, sym, ap, ◌∙◌, arith}
use Rattle.std.proofs.lemmas.List.{length-map, append-nil}
use Rattle.std.proofs.lemmas.List.Elements.{filter-append}
use Rattle.std.specs.List.{AllByRecursion, list_any}
use Rattle.dutch_arrangements.specs.Prelude.{is_member, numbers_from, left_of, Arrangement}
use Rattle.dutch_sequence.proofs.Members.{numbers-append}
use Rattle.dutch_player.specs.Prelude.{Facts}
use Rattle.dutch_sequence.specs.declared.numbers.TheConstants.{LIMIT}
use Rattle.dutch_arrangements.specs.declared.bracket.Shape.{Shape}
use Rattle.dutch_bracket.specs.Prelude.{Reached, score_at, has_bit, beyond, lonely, lonely_first, lonely_second, pool, residents_down, suits, rest_of_s1r}
use Rattle.dutch_sequence.proofs.Skipping.{filter-keeps, filter-drops}

three : (p q r : ℕ → Bool) (x : ℕ) (xs ys : List ℕ) (a b c : Bool) → p x ≡ not a → q x ≡ not b → r x ≡ not c
    → ys ≡ filter r (filter q (filter p xs)) → cond (not ((a || b) || c)) (x ∷ ys) ys ≡ filter r (filter q (filter p (x ∷ xs)))
three p q r x xs ys false false false f g h e =
    ap (λ zs. x ∷ zs) e ∙ sym (ap (λ zs. filter r (filter q zs)) (filter-keeps p x xs f)
    ∙ (ap (filter r) (filter-keeps q x (filter p xs) g) ∙ filter-keeps r x (filter q (filter p xs)) h))
three p q r x xs ys false false true f g h e =
    e ∙ sym (ap (λ zs. filter r (filter q zs)) (filter-keeps p x xs f) ∙ (ap (filter r) (filter-keeps q x (filter p xs) g) ∙ filter-drops r x (filter q (filter p xs)) h))
three p q r x xs ys false true c f g h e =
    e ∙ sym (ap (λ zs. filter r (filter q zs)) (filter-keeps p x xs f) ∙ ap (filter r) (filter-drops q x (filter p xs) g))
three p q r x xs ys true b c f g h e = e ∙ sym (ap (λ zs. filter r (filter q zs)) (filter-drops p x xs f))

pub left_is : (table s2 s1r s2r xs : List ℕ) → ((i : ℕ) → i ≤ LIMIT → has_bit table i ≡ ((is_member i s2 || is_member i s1r) || is_member i s2r))
    → AllByRecursion (λ i. i ≤ LIMIT) xs → filter (λ x. not (has_bit table x)) xs ≡ left_of (left_of (left_of xs s2) s1r) s2r
left_is table s2 s1r s2r [] h few = refl
left_is table s2 s1r s2r (x ∷ xs) h few =
    ap (λ t. cond (not t) (x ∷ filter (λ y. not (has_bit table y)) xs) (filter (λ y. not (has_bit table y)) xs)) (h x few.0)
    ∙ three (λ y. not (is_member y s2)) (λ y. not (is_member y s1r)) (λ y. not (is_member y s2r)) x xs (filter (λ y. not (has_bit table y)) xs)
    (is_member x s2) (is_member x s1r) (is_member x s2r) refl refl refl (left_is table s2 s1r s2r xs h few.1)

pub unmarked_more : (p : ℕ → Bool) (first place : ℕ) → p (first + place) ≡ true
    → filter p (numbers_from first (place + 1)) ≡ filter p (numbers_from first place) ++ (first + place) ∷ []
unmarked_more p first place h =
    ap (filter p) (numbers-append first place 1)
    ∙ (filter-append p (numbers_from first place) (numbers_from (first + place) 1)
    ∙ ap (λ xs. filter p (numbers_from first place) ++ xs) (filter-keeps p (first + place) [] h))

pub marked_more : (p : ℕ → Bool) (first place : ℕ) → p (first + place) ≡ false
    → filter p (numbers_from first (place + 1)) ≡ filter p (numbers_from first place)
marked_more p first place h =
    ap (filter p) (numbers-append first place 1)
    ∙ (filter-append p (numbers_from first place) (numbers_from (first + place) 1)
    ∙ (ap (λ xs. filter p (numbers_from first place) ++ xs) (filter-drops p (first + place) [] h) ∙ append-nil (filter p (numbers_from first place))))

numbers_few : (first count n : ℕ) → first + count ≤ n + 1 → AllByRecursion (λ i. i ≤ n) (numbers_from first count)
numbers_few first zero n h = tt
numbers_few first (suc count) n h = (omega arith, numbers_few (suc first) count n (omega arith))

pub pool_is : (facts : Facts) (reached : Reached) (b : Arrangement) (table xs : List ℕ) (count : ℕ) → reached.mdps ≤ length reached.seats → length reached.seats ≤ LIMIT
    → count ≡ length reached.seats - reached.mdps → ((i : ℕ) → i ≤ LIMIT → has_bit table i ≡ ((is_member i b.s2 || is_member i b.s1r) || is_member i b.s2r))
    → xs ≡ filter (λ x. not (has_bit table x)) (numbers_from (reached.mdps + 1) count) → xs ≡ pool facts reached b
pool_is facts reached b table xs count within small e h is =
    let counted : count ≡ length (map (score_at facts) reached.seats) - reached.mdps =
    let l = length-map reached.seats (score_at facts) in omega (arith, l, e) in
    is ∙ (left_is table b.s2 b.s1r b.s2r (numbers_from (reached.mdps + 1) count) h (numbers_few (reached.mdps + 1) count LIMIT (omega (arith, within, small, e)))
    ∙ ap (λ k. left_of (left_of (left_of (numbers_from (reached.mdps + 1) k) b.s2) b.s1r) b.s2r) counted)

pub beyond_is : (part xs : List ℕ) → drop (length part) xs ≡ beyond part xs
beyond_is [] xs = refl
beyond_is (y ∷ part) [] = refl
beyond_is (y ∷ part) (x ∷ xs) = beyond_is part xs

-- lonely players by the lists in which they were counted
pub lonely_few : (facts : Facts) (reached : Reached) (shape : Shape) (b : Arrangement) (waits others : List ℕ) (first second : ℕ) → waits ≡ rest_of_s1r b → others ≡ pool facts reached b
    → first ≤ length (filter (λ x. not (list_any (suits facts reached x) others)) waits)
    → second ≤ length (filter (λ y. not (list_any (λ x. suits facts reached x y) waits)) others)
    → max first (second - residents_down reached shape) ≤ lonely facts reached shape b
unfolding lonely lonely_first lonely_second
lonely_few facts reached shape b waits others first second those these one two =
    let first_is : length (filter (λ x. not (list_any (suits facts reached x) others)) waits) ≡ lonely_first facts reached b =
    λ i. length (filter (λ x. not (list_any (suits facts reached x) (these i))) (those i)) in
    let second_is : length (filter (λ y. not (list_any (λ x. suits facts reached x y) waits)) others) ≡ lonely_second facts reached b =
    λ i. length (filter (λ y. not (list_any (λ x. suits facts reached x y) (those i))) (these i)) in
    omega (arith, one, two, first_is, second_is)
