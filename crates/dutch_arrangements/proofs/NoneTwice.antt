-- Lists in which no number comes twice, and the players of pairs.
use Rattle.std.proofs.Common.{◌≡◌, ℕ, suc, ◌<◌, true, not, List, [], ◌∷◌, ◌++◌, map, length, refl, sym, ap, ◌∙◌, arith, subst, inl, inr, ◌⊎◌}
use Rattle.std.specs.List.{AllByRecursion}
use Rattle.std.proofs.lemmas.Bool.{and_parts, and_from, not-true, not_from_false, false_from_ne_true, true≢false}
use Rattle.dutch_arrangements.specs.Prelude.{is_member, IsIn, left_of, are_different, by_place, players_in, NoneTwice, FirstsAscend}
use Rattle.dutch_sequence.proofs.Orders.{Rises, all_members, member_has, IsIn-append, IsIn-front, IsIn-back, IsIn-map, IsIn-filter, filter-IsIn, member-in, in-member}

-- ---- lists without a number twice

pub different-twice : (xs : List ℕ) → are_different xs ≡ true → NoneTwice xs
different-twice [] h = tt
different-twice (x ∷ xs) h =
    let both = and_parts (not (is_member x xs)) (are_different xs) h in
    (λ m. true≢false (sym (in-member x xs m) ∙ not-true (is_member x xs) both.0), different-twice xs both.1)

pub twice-different : (xs : List ℕ) → NoneTwice xs → are_different xs ≡ true
twice-different [] h = refl
twice-different (x ∷ xs) h =
    and_from (not (is_member x xs)) (are_different xs)
    (not_from_false (is_member x xs) (false_from_ne_true (is_member x xs) (λ t. h.0 (member-in x xs t))))
    (twice-different xs h.1)

pub rises-twice : (xs : List ℕ) → Rises xs → NoneTwice xs
rises-twice [] h = tt
rises-twice (x ∷ xs) h =
    (λ m. let above : x < x = member_has (λ y. x < y) xs h.0 x m in omega (arith, above), rises-twice xs h.1)

pub twice-join : (xs ys : List ℕ) → NoneTwice xs → NoneTwice ys → ((z : ℕ) → IsIn z xs → IsIn z ys → ⊥) → NoneTwice (xs ++ ys)
twice-join [] ys p q apart = q
twice-join (x ∷ xs) ys p q apart = (
  λ m. elim (IsIn-append x xs ys m) [ inl front ↦ p.0 front | inr back ↦ apart x (inl refl) back ],
  twice-join xs ys p.1 q (λ z m n. apart z (inr m) n),
)

pub twice-front : (xs ys : List ℕ) → NoneTwice (xs ++ ys) → NoneTwice xs
twice-front [] ys h = tt
twice-front (x ∷ xs) ys h = (λ m. h.0 (IsIn-front x xs ys m), twice-front xs ys h.1)

pub twice-back : (xs ys : List ℕ) → NoneTwice (xs ++ ys) → NoneTwice ys
twice-back [] ys h = h
twice-back (x ∷ xs) ys h = twice-back xs ys h.1

pub twice-apart : (xs ys : List ℕ) → NoneTwice (xs ++ ys) → (z : ℕ) → IsIn z xs → IsIn z ys → ⊥
twice-apart [] ys h z m n = absurd m
twice-apart (x ∷ xs) ys h z (inl same) n = h.0 (IsIn-back x xs ys (subst (λ w. IsIn w ys) same n))
twice-apart (x ∷ xs) ys h z (inr m) n = twice-apart xs ys h.1 z m n

-- what is not taken is left
pub left-in : (z : ℕ) (numbers taken : List ℕ) → IsIn z numbers → (IsIn z taken → ⊥) → IsIn z (left_of numbers taken)
left-in z numbers taken m off =
    filter-IsIn (λ x. not (is_member x taken)) z numbers m
    (not_from_false (is_member z taken) (false_from_ne_true (is_member z taken) (λ t. off (member-in z taken t))))

pub in-left : (z : ℕ) (numbers taken : List ℕ) → IsIn z (left_of numbers taken) → IsIn z numbers × (IsIn z taken → ⊥)
in-left z numbers taken m =
    let kept = IsIn-filter (λ x. not (is_member x taken)) z numbers m in
    (kept.0, λ n. true≢false (sym (in-member z taken n) ∙ not-true (is_member z taken) kept.1))

-- ---- the players of pairs

pub players-append : (xs ys : List (ℕ × ℕ)) → players_in (xs ++ ys) ≡ players_in xs ++ players_in ys
players-append [] ys = refl
players-append (x ∷ xs) ys = ap (λ rest. x.0 ∷ x.1 ∷ rest) (players-append xs ys)

pub first-in : (z : ℕ) (pairs : List (ℕ × ℕ)) → IsIn z (map (λ p. p.0) pairs) → IsIn z (players_in pairs)
first-in z [] m = absurd m
first-in z (p ∷ pairs) (inl same) = inl same
first-in z (p ∷ pairs) (inr m) = inr (inr (first-in z pairs m))

pub second-in : (z : ℕ) (pairs : List (ℕ × ℕ)) → IsIn z (map (λ p. p.1) pairs) → IsIn z (players_in pairs)
second-in z [] m = absurd m
second-in z (p ∷ pairs) (inl same) = inr (inl same)
second-in z (p ∷ pairs) (inr m) = inr (inr (second-in z pairs m))

pub seconds-twice : (pairs : List (ℕ × ℕ)) → NoneTwice (players_in pairs) → NoneTwice (map (λ p. p.1) pairs)
seconds-twice [] h = tt
seconds-twice (p ∷ pairs) h = (λ m. h.1.0 (second-in p.1 pairs m), seconds-twice pairs h.1.1)

-- nobody is first in a pair and second in one
pub halves-apart : (pairs : List (ℕ × ℕ)) → NoneTwice (players_in pairs) → (z : ℕ) → IsIn z (map (λ p. p.0) pairs) → IsIn z (map (λ p. p.1) pairs) → ⊥
halves-apart [] h z m n = absurd m
halves-apart (p ∷ pairs) h z (inl first) (inl second) = h.0 (inl (sym first ∙ second))
halves-apart (p ∷ pairs) h z (inl first) (inr n) = h.0 (inr (subst (λ w. IsIn w (players_in pairs)) first (second-in z pairs n)))
halves-apart (p ∷ pairs) h z (inr m) (inl second) = h.1.0 (subst (λ w. IsIn w (players_in pairs)) second (first-in z pairs m))
halves-apart (p ∷ pairs) h z (inr m) (inr n) = halves-apart pairs h.1.1 z m n

pub firsts-rise : (pairs : List (ℕ × ℕ)) → FirstsAscend pairs → Rises (map (λ p. p.0) pairs)
firsts-rise [] h = tt
firsts-rise (p ∷ pairs) h = (
  all_members (λ y. p.0 < y) (map (λ p. p.0) pairs)
      (λ y m.
      let from = IsIn-map (λ (p : ℕ × ℕ). p.0) y pairs m in
      subst (λ w. p.0 < w) (sym from.1) (member_has (λ (later : ℕ × ℕ). p.0 < later.0) pairs h.0 from.0 from.2)),
  firsts-rise pairs h.1,
)

-- ---- two lists place by place

pub places-are : (pairs : List (ℕ × ℕ)) → by_place (map (λ p. p.0) pairs) (map (λ p. p.1) pairs) ≡ pairs
places-are [] = refl
places-are (p ∷ pairs) = ap (λ rest. p ∷ rest) (places-are pairs)

pub places-count : (xs ys : List ℕ) → length xs ≡ length ys → length (by_place xs ys) ≡ length xs
places-count [] ys same = refl
places-count (x ∷ xs) [] same = absurd (omega (arith, same))
places-count (x ∷ xs) (y ∷ ys) same = ap suc (places-count xs ys (omega (arith, same)))

-- who is in one of the lists, and only those
pub place-in : (z : ℕ) (xs ys : List ℕ) → IsIn z (players_in (by_place xs ys)) → IsIn z xs ⊎ IsIn z ys
place-in z [] ys m = absurd m
place-in z (x ∷ xs) [] m = absurd m
place-in z (x ∷ xs) (y ∷ ys) (inl same) = inl (inl same)
place-in z (x ∷ xs) (y ∷ ys) (inr (inl same)) = inr (inl same)
place-in z (x ∷ xs) (y ∷ ys) (inr (inr m)) = elim (place-in z xs ys m) [ inl front ↦ inl (inr front) | inr back ↦ inr (inr back) ]

pub in-place : (z : ℕ) (xs ys : List ℕ) → length xs ≡ length ys → IsIn z xs ⊎ IsIn z ys → IsIn z (players_in (by_place xs ys))
in-place z [] [] same (inl m) = absurd m
in-place z [] [] same (inr m) = absurd m
in-place z [] (y ∷ ys) same m = absurd (omega (arith, same))
in-place z (x ∷ xs) [] same m = absurd (omega (arith, same))
in-place z (x ∷ xs) (y ∷ ys) same (inl (inl here)) = inl here
in-place z (x ∷ xs) (y ∷ ys) same (inl (inr m)) = inr (inr (in-place z xs ys (omega (arith, same)) (inl m)))
in-place z (x ∷ xs) (y ∷ ys) same (inr (inl here)) = inr (inl here)
in-place z (x ∷ xs) (y ∷ ys) same (inr (inr m)) = inr (inr (in-place z xs ys (omega (arith, same)) (inr m)))

pub places-twice : (xs ys : List ℕ) → NoneTwice xs → NoneTwice ys → ((z : ℕ) → IsIn z xs → IsIn z ys → ⊥) → NoneTwice (players_in (by_place xs ys))
places-twice [] ys p q apart = tt
places-twice (x ∷ xs) [] p q apart = tt
places-twice (x ∷ xs) (y ∷ ys) p q apart = (
  λ m. elim m [
    | inl same ↦ apart x (inl refl) (inl same)
    | inr later ↦ elim (place-in x xs ys later) [ inl front ↦ p.0 front | inr back ↦ apart x (inl refl) (inr back) ]
  ],
  (
    λ m. elim (place-in y xs ys m) [ inl front ↦ apart y (inr front) (inl refl) | inr back ↦ q.0 back ],
    places-twice xs ys p.1 q.1 (λ z m n. apart z (inr m) (inr n)),
  ),
)

pub places-all : (P Q : ℕ → Type 0) (xs ys : List ℕ) → AllByRecursion P xs → AllByRecursion Q ys → AllByRecursion (λ (pair : ℕ × ℕ). P pair.0 × Q pair.1) (by_place xs ys)
places-all P Q [] ys p q = tt
places-all P Q (x ∷ xs) [] p q = tt
places-all P Q (x ∷ xs) (y ∷ ys) p q = ((p.0, q.0), places-all P Q xs ys p.1 q.1)

places-above : (low : ℕ) (xs ys : List ℕ) → AllByRecursion (λ x. low < x) xs → AllByRecursion (λ (pair : ℕ × ℕ). low < pair.0) (by_place xs ys)
places-above low [] ys h = tt
places-above low (x ∷ xs) [] h = tt
places-above low (x ∷ xs) (y ∷ ys) h = (h.0, places-above low xs ys h.1)

pub places-ascend : (xs ys : List ℕ) → Rises xs → FirstsAscend (by_place xs ys)
places-ascend [] ys h = tt
places-ascend (x ∷ xs) [] h = tt
places-ascend (x ∷ xs) (y ∷ ys) h = (places-above x xs ys h.0, places-ascend xs ys h.1)
