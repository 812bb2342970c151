-- No choice and no arrangement comes twice: the sets of a rising pool differ, an order loses and doubles none, and two arrangements
-- differ in the list in which they were chosen apart.
use Rattle.std.proofs.Common.{◌≡◌, ℕ, zero, suc, ◌+◌, ◌-◌, ◌<◌, Bool, true, false, not, refl, ◌&&◌, cond, if◌then◌else◌, List, [], ◌∷◌, ◌++◌, map, length, sym, ◌∙◌, ap, subst, inl, inr, arith}
use Rattle.std.specs.List.{filter, flat_map}
use Rattle.std.proofs.lemmas.Bool.{cases_Bool, true≢false, and_parts}
use Rattle.dutch_arrangements.specs.declared.bracket.Shape.{Shape}
use Rattle.dutch_arrangements.specs.Prelude.{subsets, tuples, is_same, numbers_from, is_member, put, sorted, IsIn, HasEachOnce, lower_first, all_tuples, exchanges, exchange_cmp, limbo_exchanges, limbo_cmp, Frame, Arrangement, residents_of, moved_down_scores, left_of, remainder_pairs, with_s2r, with_s1r, with_s2, arrangements, is_same_arrangement, behind, rest, is_legal, candidates, arranged}
use Rattle.std.specs.declared.cmp.Ordering.{Ordering}
use Rattle.std.specs.Ordering.{is_lt}
use Rattle.dutch_sequence.proofs.FromOn.{is_same-true}
use Rattle.dutch_sequence.proofs.Sets.{put-in, sorted-in}
use Rattle.dutch_sequence.proofs.Orders.{Rises, Rises-filter, IsIn-append, IsIn-map, IsIn-flat_map, member_has, is_before-irreflexive, IsIn-filter}
use Rattle.dutch_arrangements.proofs.CursorSets.{subset-to}
use Rattle.dutch_arrangements.proofs.CursorArrangements.{rises-numbers, pool-rises}
use Rattle.dutch_sequence.proofs.TupleSearch.{tuples-ascend}
use Rattle.dutch_arrangements.proofs.Behind.{chosen-s1, chosen-s2, chosen-s1r}
use Rattle.dutch_sequence.proofs.ByKeys.{is_before, Ascends}

pub suffix-once : {X : Type 0} (xs ys : List X) → HasEachOnce (xs ++ ys) → HasEachOnce ys
suffix-once [] ys once = once
suffix-once (x ∷ xs) ys once = suffix-once xs ys once.1

append-once : {X : Type 0} (xs ys : List X) → HasEachOnce xs → HasEachOnce ys → ((x : X) → IsIn x xs → IsIn x ys → ⊥) → HasEachOnce (xs ++ ys)
append-once [] ys p q apart = q
append-once (x ∷ xs) ys p q apart = (
  (λ m. elim (IsIn-append x xs ys m) [ inl here ↦ p.0 here | inr there ↦ apart x (inl refl) there ]),
  append-once xs ys p.1 q (λ y m n. apart y (inr m) n),
)

map-once : {X Y : Type 0} (f : X → Y) (xs : List X) → ((x y : X) → f x ≡ f y → x ≡ y) → HasEachOnce xs → HasEachOnce (map f xs)
map-once f [] apart once = tt
map-once f (x ∷ xs) apart once = (
  (λ m. let from = IsIn-map f (f x) xs m in once.0 (subst (λ y. IsIn y xs) (sym (apart x from.0 from.1)) from.2)),
  map-once f xs apart once.1,
)

-- blocks whose members tell from which choice they come
flat_map-once : {X Y : Type 0} (f : X → List Y) (part : Y → X) (xs : List X) → ((x : X) (y : Y) → IsIn y (f x) → part y ≡ x) → ((x : X) → HasEachOnce (f x)) → HasEachOnce xs → HasEachOnce (flat_map f xs)
flat_map-once f part [] tells each once = tt
flat_map-once f part (x ∷ xs) tells each once =
    append-once (f x) (flat_map f xs) (each x) (flat_map-once f part xs tells each once.1)
    (λ y m n.
    let from = IsIn-flat_map f y xs n in
    once.0 (subst (λ z. IsIn z xs) (sym (tells from.0 y from.2) ∙ tells x y m) from.1))

pub kept-is_in : {X : Type 0} (p : X → Bool) (x : X) (xs : List X) → IsIn x (filter p xs) → IsIn x xs
kept-is_in p x xs m = (IsIn-filter p x xs m).0

pub filter-once : {X : Type 0} (p : X → Bool) (xs : List X) → HasEachOnce xs → HasEachOnce (filter p xs)
filter-once p [] once = tt
filter-once p (x ∷ xs) once =
    elim (p x) as (λ b. HasEachOnce (cond b (x ∷ filter p xs) (filter p xs))) [
      | true ↦ ((λ m. once.0 (kept-is_in p x xs m)), filter-once p xs once.1)
      | false ↦ filter-once p xs once.1
    ]

-- ---- choices

put-once : (order : List ℕ → List ℕ → Ordering) (x : List ℕ) (xs : List (List ℕ)) → (IsIn x xs → ⊥) → HasEachOnce xs → HasEachOnce (put order x xs)
put-once order x [] new once = ((λ m. m), tt)
put-once order x (y ∷ ys) new once =
    elim (is_lt (order y x)) as (λ b. HasEachOnce (cond b (y ∷ put order x ys) (x ∷ y ∷ ys))) [
      | true ↦ (
        (λ m. elim (put-in order y x ys m) [ inl same ↦ new (inl (sym same)) | inr n ↦ once.0 n ]),
        put-once order x ys (λ m. new (inr m)) once.1,
      )
      | false ↦ (new, once)
    ]

sorted-once : (order : List ℕ → List ℕ → Ordering) (xs : List (List ℕ)) → HasEachOnce xs → HasEachOnce (sorted order xs)
sorted-once order [] once = tt
sorted-once order (x ∷ xs) once = put-once order x (sorted order xs) (λ m. once.0 (sorted-in order x xs m)) (sorted-once order xs once.1)

ascending-once : (key : List ℕ → List ℕ) (xs : List (List ℕ)) → Ascends key xs → HasEachOnce xs
ascending-once key [] ascends = tt
ascending-once key (x ∷ xs) ascends = (
  (λ m. true≢false (sym (member_has (λ other. is_before (key x) (key other) ≡ true) xs ascends.0 x m) ∙ is_before-irreflexive (key x))),
  ascending-once key xs ascends.1,
)

same-tail : (x : ℕ) (a b : List ℕ) → x ∷ a ≡ x ∷ b → a ≡ b
same-tail x a b e = cc

subsets-once : (pool : List ℕ) (k : ℕ) → Rises pool → HasEachOnce (subsets pool k)
subsets-once pool zero rises = ((λ m. m), tt)
subsets-once [] (suc k) rises = tt
subsets-once (x ∷ pool) (suc k) rises =
    append-once (map (λ set. x ∷ set) (subsets pool k)) (subsets pool (suc k))
    (map-once (λ set. x ∷ set) (subsets pool k) (same-tail x) (subsets-once pool k rises.1))
    (subsets-once pool (suc k) rises.1)
    (λ set m n.
    let from = IsIn-map (λ set. x ∷ set) set (subsets pool k) m in
    let later : IsIn (x ∷ from.0) (subsets pool (suc k)) = subst (λ s. IsIn s (subsets pool (suc k))) from.1 n in
    let above : x < x = member_has (λ y. x < y) pool rises.0 x ((subset-to pool (suc k) (x ∷ from.0) rises.1 later).within x (inl refl)) in
    omega (arith, above))

all_tuples-once : (pool : List ℕ) (k : ℕ) → Rises pool → HasEachOnce (all_tuples pool k)
all_tuples-once pool k rises = sorted-once lower_first (tuples pool k) (ascending-once (λ tuple. tuple) (tuples pool k) (tuples-ascend k pool rises))

-- ---- arrangements

module _ (frame : Frame) (shape : Shape) where
  s2r-once : (s1 s2 s1r : List ℕ) → HasEachOnce (with_s2r frame shape s1 s2 s1r)
  s2r-once s1 s2 s1r =
      let rem = left_of (residents_of frame) s2 in
      map-once (arranged s1 s2 s1r) (all_tuples (left_of rem s1r) (remainder_pairs shape)) (λ x y e. ap (λ a. a.s2r) e)
      (all_tuples-once (left_of rem s1r) (remainder_pairs shape) (Rises-filter (λ x. not (is_member x s1r)) rem (pool-rises frame s2)))

  s1r-once : (s1 s2 : List ℕ) → HasEachOnce (with_s1r frame shape s1 s2)
  s1r-once s1 s2 =
      let rem = left_of (residents_of frame) s2 in
      flat_map-once (with_s2r frame shape s1 s2) (λ a. a.s1r) (exchanges rem (remainder_pairs shape)) (chosen-s1r frame shape s1 s2) (s2r-once s1 s2)
      (sorted-once (exchange_cmp rem (remainder_pairs shape)) (subsets rem (remainder_pairs shape)) (subsets-once rem (remainder_pairs shape) (pool-rises frame s2)))

  s2-once : (s1 : List ℕ) → HasEachOnce (with_s2 frame shape s1)
  s2-once s1 =
      flat_map-once (with_s1r frame shape s1) (λ a. a.s2) (all_tuples (residents_of frame) shape.mdps) (chosen-s2 frame shape s1) (s1r-once s1)
      (all_tuples-once (residents_of frame) shape.mdps (rises-numbers (frame.mdps + 1) (length frame.scores - frame.mdps)))

  pub arrangements-once : HasEachOnce (arrangements frame shape)
  arrangements-once =
      let scores = moved_down_scores frame in
      let numbers = numbers_from 1 (length scores) in
      flat_map-once (with_s2 frame shape) (λ a. a.s1) (limbo_exchanges scores shape.mdps) (chosen-s1 frame shape) s2-once
      (sorted-once (limbo_cmp scores) (subsets numbers shape.mdps) (subsets-once numbers shape.mdps (rises-numbers 1 (length scores))))

-- ---- what stands behind an arrangement

same-arrangement : (a b : Arrangement) → is_same_arrangement a b ≡ true → a ≡ b
same-arrangement a b h =
    let p1 = and_parts (is_same a.s1 b.s1) (is_same a.s2 b.s2 && (is_same a.s1r b.s1r && is_same a.s2r b.s2r)) h in
    let p2 = and_parts (is_same a.s2 b.s2) (is_same a.s1r b.s1r && is_same a.s2r b.s2r) p1.1 in
    let p3 = and_parts (is_same a.s1r b.s1r) (is_same a.s2r b.s2r) p2.1 in
    ap (λ s. arranged s a.s2 a.s1r a.s2r) (is_same-true a.s1 b.s1 p1.0)
    ∙ ap (λ s. arranged b.s1 s a.s1r a.s2r) (is_same-true a.s2 b.s2 p2.0)
    ∙ ap (λ s. arranged b.s1 b.s2 s a.s2r) (is_same-true a.s1r b.s1r p3.0)
    ∙ ap (λ s. arranged b.s1 b.s2 b.s1r s) (is_same-true a.s2r b.s2r p3.1)

none_behind_itself : (a : Arrangement) (xs : List Arrangement) → HasEachOnce xs → IsIn a (behind a xs) → ⊥
none_behind_itself a [] once m = m
none_behind_itself a (b ∷ xs) once m =
    elim (cases_Bool (is_same_arrangement b a)) [
      | inl same ↦
          let there : IsIn a xs = subst (λ t. IsIn a (if t then xs else behind a xs)) same m in
          once.0 (subst (λ c. IsIn c xs) (sym (same-arrangement b a same)) there)
      | inr apart ↦ none_behind_itself a xs once.1 (subst (λ t. IsIn a (if t then xs else behind a xs)) apart m)
    ]

behind-once : (a : Arrangement) (xs : List Arrangement) → HasEachOnce xs → HasEachOnce (behind a xs)
behind-once a [] once = tt
behind-once a (b ∷ xs) once =
    elim (is_same_arrangement b a) as (λ t. HasEachOnce (if t then xs else behind a xs)) [
      | true ↦ once.1
      | false ↦ behind-once a xs once.1
    ]

pub stands_once : (frame : Frame) (shape : Shape) (a : Arrangement) → IsIn a (behind a (arrangements frame shape)) → ⊥
stands_once frame shape a = none_behind_itself a (arrangements frame shape) (arrangements-once frame shape)

pub candidates-once : (meets : ℕ → ℕ → Bool) (may_be_left : ℕ → Bool) (frame : Frame) (shape : Shape) → HasEachOnce (candidates meets may_be_left frame shape)
candidates-once meets may_be_left frame shape = filter-once (is_legal meets may_be_left frame) (arrangements frame shape) (arrangements-once frame shape)

pub rest-once : (meets : ℕ → ℕ → Bool) (may_be_left : ℕ → Bool) (frame : Frame) (shape : Shape) (a : Arrangement) → HasEachOnce (rest meets may_be_left frame shape a)
rest-once meets may_be_left frame shape a =
    filter-once (is_legal meets may_be_left frame) (behind a (arrangements frame shape)) (behind-once a (arrangements frame shape) (arrangements-once frame shape))
