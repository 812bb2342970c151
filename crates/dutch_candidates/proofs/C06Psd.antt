-- The PSD of an arrangement with a beginning (C.04.3 C.6). In every bracket it is not lower than the differences of the beginning's
-- pairs: other pairs and downfloaters only add differences. If all residents have one score, it is known by S1 alone: each
-- moved-down player meets a resident with that score or goes down, each pair of residents is even, and the shape tells how many residents
-- go down.
use Rattle.std.proofs.Common.{◌≡◌, ℕ, suc, ◌+◌, ◌-◌, ◌<◌, ◌≤◌, true, false, List, [], ◌∷◌, ◌++◌, map, length, inl, inr, refl, sym, ap, ◌∙◌, arith, ◌==◌}
use Rattle.std.specs.declared.cmp.Ordering.{Ordering}
use Rattle.std.specs.declared.cmp.Ordering.TheVariants.{Less, Equal, Greater}
use Rattle.std.specs.Ordering.{nat_cmp, is_lt, ordering_reverse}
use Rattle.std.specs.Cmp.Lexicographic.{slice_cmp}
use Rattle.std.proofs.lemmas.Cmp.{nat_list_cmp_total}
use Rattle.std.proofs.lemmas.List.{map-append, length-map, nil_from_length}
use Rattle.std.proofs.lemmas.Map.Lookups.{exact_bytes}
use Rattle.std.proofs.lemmas.Bool.{eqb-true, or_cases}
use Rattle.dutch_arrangements.specs.declared.bracket.Shape.{Shape}
use Rattle.dutch_arrangements.specs.Prelude.{numbers_from, is_member, IsIn, Arrangement, arrangements, down, left_of, remainder_pairs}
use Rattle.dutch_sequence.proofs.HalfWalks.{Climbs, Climbs-room}
use Rattle.dutch_sequence.proofs.Members.{climbs-filter, filter-climbs, filter-length, length-numbers}
use Rattle.dutch_sequence.proofs.ExchangeSets.{numbers-climb}
use Rattle.dutch_player.specs.Prelude.{Facts}
use Rattle.dutch_bracket.specs.Prelude.{HasPairsOf, residents_down, is_lower, IsFlat, quality, repeated, psd_with, IsUniform, is_uniform, highest_first, psd, quality_with, Reached, frame_of, IsOf, quality_of, seat_of, score_at, all_pairs, difference, difference_down, lowest}
use Rattle.dutch_bracket.proofs.ArrangementParts.{parts_of}
use Rattle.dutch_bracket.proofs.C08ToC19Fixed.{more_copies}
use Rattle.dutch_bracket.proofs.Copies.{copies, copies_append}
use Rattle.dutch_bracket.proofs.FlatBrackets.{one_score_of, seats_fall}
use Rattle.dutch_bracket.proofs.FixedPairs.{beside}
use Rattle.dutch_bracket.proofs.PairsWithBeginning.{no_less}
use Rattle.dutch_bracket.proofs.PsdParts.{psd_copies}

-- the PSD is not lower than what is known of it
pub psd_of_beginning : (facts : Facts) (reached : Reached) (lower : List ℕ) (b a : Arrangement) → HasPairsOf b a
    → is_lower (quality_of facts reached lower a).psd (highest_first (map (difference facts) (all_pairs reached.seats b))) ≡ false
unfolding quality_of quality quality_with psd
psd_of_beginning facts reached lower b a begins =
    let by : List (ℕ × ℕ) → List ℕ = map (difference facts) in
    let floats : List ℕ = map (difference_down facts (lowest facts reached.seats)) (map (seat_of reached.seats) (down (frame_of facts reached) a)) in
    more_copies (by (all_pairs reached.seats b)) (by (all_pairs reached.seats a) ++ floats) (λ d.
    let more : copies d (by (all_pairs reached.seats b)) ≤ copies d (by (all_pairs reached.seats a)) =
    no_less (λ pairs. copies d (by pairs)) (all_pairs reached.seats b) (all_pairs reached.seats a)
    (λ xs ys. ap (copies d) (map-append (difference facts) xs ys) ∙ copies_append d (by xs) (by ys)) (beside reached.seats b a begins) in
    omega (arith, more, copies_append d (by (all_pairs reached.seats a)) floats))

-- two lists of which neither is lower are the same
neither_lower : (xs ys : List ℕ) (o : Ordering) → slice_cmp nat_cmp xs ys ≡ o → is_lower xs ys ≡ false → is_lower ys xs ≡ false → xs ≡ ys
neither_lower xs ys Less e f g = let lower : is_lower xs ys ≡ true = ap is_lt e in absurd (cc)
neither_lower xs ys Equal e f g = exact_bytes xs ys e
neither_lower xs ys Greater e f g = let lower : is_lower ys xs ≡ true = ap is_lt (nat_list_cmp_total.antisymm ys xs ∙ ap ordering_reverse e) in absurd (cc)

-- lists in which each number stands equally often are the same, the highest first
same_copies : (xs ys : List ℕ) → ((d : ℕ) → copies d xs ≡ copies d ys) → highest_first xs ≡ highest_first ys
same_copies xs ys same =
    neither_lower (highest_first xs) (highest_first ys) _ refl
    (more_copies ys xs (λ d. omega (arith, same d))) (more_copies xs ys (λ d. omega (arith, same d)))

-- where all residents have one score, the PSD is known by S1
pub psd_by_first : (facts : Facts) (reached : Reached) (lower : List ℕ) (shape : Shape) (a : Arrangement) → IsOf facts reached → IsFlat facts reached
    → IsIn a (arrangements (frame_of facts reached) shape)
    → (quality_of facts reached lower a).psd ≡ psd_with facts reached shape (score_at facts (seat_of reached.seats (reached.mdps + 1))) a.s1
unfolding quality_of quality quality_with psd psd_with
psd_by_first facts reached lower shape a of' flat member =
    let s : ℕ = score_at facts (seat_of reached.seats (reached.mdps + 1)) in
    let j = remainder_pairs shape in
    let left = residents_down reached shape in
    let counted : length (frame_of facts reached).scores ≡ length reached.seats = length-map reached.seats (score_at facts) in
    let parts = parts_of (frame_of facts reached) shape a of'.sound.within member in
    let fits : left + (shape.mdps + (j + j)) ≡ length reached.seats - reached.mdps = (let e = parts.left in omega (arith, e, counted)) in
    let paired : List ℕ = map (λ i. score_at facts (seat_of reached.seats i) - s) a.s1 in
    let limbo : List ℕ = map (λ i. (score_at facts (seat_of reached.seats i) - s) + 2) (left_of (numbers_from 1 reached.mdps) a.s1) in
    same_copies
    (map (difference facts) (all_pairs reached.seats a) ++ map (difference_down facts (lowest facts reached.seats)) (map (seat_of reached.seats) (down (frame_of facts reached) a)))
    (paired ++ (limbo ++ (repeated 0 j ++ repeated 2 left)))
    (λ d.
    omega (
      arith,
      psd_copies facts reached s shape.mdps j a d (one_score_of facts reached of' flat) parts counted left fits,
      copies_append d paired (limbo ++ (repeated 0 j ++ repeated 2 left)),
      copies_append d limbo (repeated 0 j ++ repeated 2 left),
      copies_append d (repeated 0 j) (repeated 2 left),
    ))

-- numbers that climb and are as many as there is room for are all of them
all_that_fit : (low bound : ℕ) (xs : List ℕ) → Climbs low bound xs → low + length xs ≡ bound → xs ≡ numbers_from low (length xs)
all_that_fit low bound [] climbs full = refl
all_that_fit low bound (x ∷ xs) climbs full =
    let first : x ≡ low = omega (arith, climbs.0, Climbs-room low bound xs x climbs, full) in
    ap (λ rest. x ∷ rest) (all_that_fit (suc x) bound xs climbs.2 (omega (arith, first, full))) ∙ ap (λ k. k ∷ numbers_from (suc k) (length xs)) first

-- what a value of a number comes to, where it is one and the same for all
one_value : (f : ℕ → ℕ) (c q low : ℕ) (xs : List ℕ) → 0 < low → ((i : ℕ) → 0 < i → i ≤ q → f i ≡ c) → Climbs low (1 + q) xs → map f xs ≡ repeated c (length xs)
one_value f c q low [] p same climbs = refl
one_value f c q low (x ∷ xs) p same climbs =
    let above : low ≤ x = climbs.0 in
    let below : x < 1 + q = climbs.1 in
    ap (λ y. y ∷ map f xs) (same x (omega arith) (omega arith)) ∙ ap (λ ys. c ∷ ys) (one_value f c q (suc x) xs (omega arith) same climbs.2)

-- how many moved-down players are not in S1
limbo_length : (q : ℕ) (xs : List ℕ) → Climbs 1 (1 + q) xs → length (left_of (numbers_from 1 q) xs) ≡ q - length xs
limbo_length q xs climbs =
    let shared = filter-length (λ x. is_member x xs) (numbers_from 1 q) in
    omega (arith, shared, ap length (climbs-filter 1 q xs climbs), length-numbers 1 q)

module _ (facts : Facts) (reached : Reached) (shape : Shape) (s : ℕ) where
  abbrev by_one : ℕ → ℕ
  by_one i = score_at facts (seat_of reached.seats i) - s

  abbrev by_limbo : ℕ → ℕ
  by_limbo i = (score_at facts (seat_of reached.seats i) - s) + 2

  abbrev others : List ℕ
  others = repeated 0 (remainder_pairs shape) ++ repeated 2 (residents_down reached shape)

  -- where all moved-down players have one score, it matters only how many S1 has
  psd_of_count : ((i : ℕ) → 0 < i → i ≤ reached.mdps → score_at facts (seat_of reached.seats i) ≡ score_at facts (seat_of reached.seats 1))
      → (s1 : List ℕ) → Climbs 1 (1 + reached.mdps) s1
      → psd_with facts reached shape s s1
      ≡ highest_first (repeated (by_one 1) (length s1) ++ (repeated (by_limbo 1) (reached.mdps - length s1) ++ others))
  unfolding psd_with
  psd_of_count same s1 climbs =
      let q = reached.mdps in
      let limbo : List ℕ = left_of (numbers_from 1 q) s1 in
      let first : map by_one s1 ≡ repeated (by_one 1) (length s1) = one_value by_one (by_one 1) q 1 s1 (omega arith) (λ i p h. omega (arith, same i p h)) climbs in
      let second : map by_limbo limbo ≡ repeated (by_limbo 1) (length limbo) =
      one_value by_limbo (by_limbo 1) q 1 limbo (omega arith) (λ i p h. omega (arith, same i p h)) (filter-climbs _ 1 q) in
      ap (λ xs. highest_first (xs ++ (map by_limbo limbo ++ others))) first
      ∙ ap (λ xs. highest_first (repeated (by_one 1) (length s1) ++ (xs ++ others))) (second ∙ ap (repeated (by_limbo 1)) (limbo_length q s1 climbs))

  -- in a uniform bracket the PSD is that of the first S1
  psd_of_any : (s1 : List ℕ) → IsUniform facts reached shape → Climbs 1 (1 + reached.mdps) s1 → length s1 ≡ shape.mdps
      → psd_with facts reached shape s s1 ≡ psd_with facts reached shape s (numbers_from 1 shape.mdps)
  psd_of_any s1 (inl none) climbs counted =
      ap (psd_with facts reached shape s) (nil_from_length s1 (counted ∙ none) ∙ sym (ap (numbers_from 1) none))
  psd_of_any s1 (inr (inl all)) climbs counted =
      ap (psd_with facts reached shape s) (all_that_fit 1 (1 + reached.mdps) s1 climbs (omega (arith, counted, all)) ∙ ap (numbers_from 1) counted)
  psd_of_any s1 (inr (inr same)) climbs counted =
      let q = reached.mdps in
      let shared = filter-length (λ x. is_member x s1) (numbers_from 1 q) in
      let room : shape.mdps ≤ q = omega (arith, counted, shared, ap length (climbs-filter 1 q s1 climbs), length-numbers 1 q) in
      psd_of_count same s1 climbs
      ∙ ap (λ n. highest_first (repeated (by_one 1) n ++ (repeated (by_limbo 1) (q - n) ++ others))) (counted ∙ sym (length-numbers 1 shape.mdps))
      ∙ sym (psd_of_count same (numbers_from 1 shape.mdps) (numbers-climb 1 shape.mdps (1 + q) (omega arith)))

pub psd_of_all : (facts : Facts) (reached : Reached) (lower : List ℕ) (shape : Shape) (a : Arrangement) → IsOf facts reached → IsFlat facts reached → IsUniform facts reached shape
    → IsIn a (arrangements (frame_of facts reached) shape)
    → (quality_of facts reached lower a).psd ≡ psd_with facts reached shape (score_at facts (seat_of reached.seats (reached.mdps + 1))) (numbers_from 1 shape.mdps)
psd_of_all facts reached lower shape a of' flat uniform member =
    let s : ℕ = score_at facts (seat_of reached.seats (reached.mdps + 1)) in
    let parts = parts_of (frame_of facts reached) shape a of'.sound.within member in
    psd_by_first facts reached lower shape a of' flat member ∙ psd_of_any facts reached shape s a.s1 uniform parts.s1 parts.s1_count

-- scores do not ascend, so where the first resident and the last have one score all residents have it
pub flat_by_ends : (facts : Facts) (reached : Reached) → IsOf facts reached → reached.mdps < length reached.seats
    → score_at facts (seat_of reached.seats (reached.mdps + 1)) ≡ score_at facts (seat_of reached.seats (length reached.seats)) → IsFlat facts reached
flat_by_ends facts reached of' resident ends = record {
  resident = resident;
  same = λ i p h.
      let low = seats_fall facts reached of' i (length reached.seats) (omega arith) h (omega arith) in
      omega (arith, seats_fall facts reached of' (reached.mdps + 1) i (omega arith) (omega arith) h, low, ends);
}

-- and so for moved-down players
pub uniform_by_ends : (facts : Facts) (reached : Reached) (shape : Shape) → IsOf facts reached
    → score_at facts (seat_of reached.seats 1) ≡ score_at facts (seat_of reached.seats reached.mdps) → IsUniform facts reached shape
uniform_by_ends facts reached shape of' ends =
    let within : reached.mdps ≤ length (frame_of facts reached).scores = of'.sound.within in
    let counted : length (frame_of facts reached).scores ≡ length reached.seats = length-map reached.seats (score_at facts) in
    inr (inr (λ i p h.
    let low = seats_fall facts reached of' i reached.mdps p h (omega (arith, within, counted)) in
    omega (arith, seats_fall facts reached of' 1 i (omega arith) (omega arith) (omega (arith, within, counted)), low, ends)))

pub uniform_of : (facts : Facts) (reached : Reached) (shape : Shape) → IsOf facts reached → is_uniform facts reached shape ≡ true → IsUniform facts reached shape
uniform_of facts reached shape of' h = elim (or_cases (shape.mdps == 0) _ h) [
  | inl none ↦ inl (eqb-true shape.mdps 0 none)
  | inr others ↦ elim (or_cases (shape.mdps == reached.mdps) _ others) [
    | inl all ↦ inr (inl (eqb-true shape.mdps reached.mdps all))
    | inr one ↦ uniform_by_ends facts reached shape of' (eqb-true (score_at facts (seat_of reached.seats 1)) (score_at facts (seat_of reached.seats reached.mdps)) one)
  ]
]
