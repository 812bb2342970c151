-- What a bracket leaves for the next one is not better than counts tell (C.04.3 C.7): no bracket has more than half its players in pairs, and
-- with as many no PSD is below the floor, which stands on the scores alone.
use Rattle.std.proofs.Common.{◌≡◌, ℕ, ◌+◌, ◌-◌, ◌*◌, ◌/◌, ◌<◌, ◌≤◌, Bool, true, false, not, cond, List, [], ◌∷◌, ◌++◌, map, length, get_or, ◌⊎◌, inl, inr, Option, Some, None, refl, sym, ap, ◌∙◌, arith, subst, length-append}
use Rattle.std.specs.Prelude.{slice_index}
use Rattle.std.specs.List.{AllByRecursion}
use Rattle.std.proofs.lemmas.List.{length-map, map-append, get_or-map}
use Rattle.std.proofs.lemmas.Simd.{map-map}
use Rattle.dutch_arrangements.specs.declared.bracket.Shape.{Shape}
use Rattle.dutch_arrangements.specs.Prelude.{numbers_from, is_member, IsIn, Candidate, Frame, Arrangement, left_of, remainder_pairs, arrangements, is_legal, down}
use Rattle.dutch_player.specs.Prelude.{Facts}
use Rattle.dutch_bracket.specs.declared.reached.BracketKind.TheVariants.{Ordinary}
use Rattle.dutch_bracket.specs.Prelude.{seat_of, score_at, Reached, IsOf, frame_of, numbers_meet, number_may_be_left, NextValue, highest_first, has_member, greatest_shape, shapes, is_lower, lowest_list_upto, lowest_list, next_bracket, legal_in, psd_in, no_value, value_of_shape, value_of, value_in, IsFlat, IsOfBracket, IsNext, downfloaters, residents_down, repeated, floor_psd, IsNotBetter, scores_down, floor_below}
use Rattle.dutch_bracket.proofs.AllLemmas.{all_filter}
use Rattle.dutch_bracket.proofs.ArrangementParts.{parts_of, numbers_within}
use Rattle.dutch_bracket.proofs.NextBrackets.{left_by_candidate, next_of, next_flat}
use Rattle.dutch_bracket.proofs.LeastPsd.{in_filter}
use Rattle.dutch_bracket.proofs.PsdParts.{down_parts}
use Rattle.dutch_sequence.proofs.Lists.{map-numbers_from}
use Rattle.dutch_bracket.proofs.C07WeakerRules.{found_fits, found_few, always_a_shape}
use Rattle.dutch_floors.proofs.C07PsdFloor.{no_psd_is_below_the_floor}
use Rattle.dutch_bracket.proofs.ShapeSearch.{fits_by_test, first_has}
use Rattle.std.proofs.Math.ListN.{get_or-append}
use Rattle.std.proofs.Math.Seq.{get_or-append_right}

pub none_lower_than_none : (xs : List ℕ) → is_lower xs [] ≡ false
none_lower_than_none [] = refl
none_lower_than_none (x ∷ xs) = refl

-- of lists of which none is lower than a floor the lowest is not
lowest_above : (floor least : List ℕ) (others : List (List ℕ)) → is_lower least floor ≡ false → ((xs : List ℕ) → IsIn xs others → is_lower xs floor ≡ false)
    → is_lower (lowest_list_upto least others) floor ≡ false
lowest_above floor least [] first each = first
lowest_above floor least (xs ∷ others) first each =
    elim (is_lower xs least) as (λ t. is_lower (lowest_list_upto (cond t xs least) others) floor ≡ false) [
      | true ↦ lowest_above floor xs others (each xs (inl refl)) (λ ys m. each ys (inr m))
      | false ↦ lowest_above floor least others first (λ ys m. each ys (inr m))
    ]

lowest_of : (f : Arrangement → List ℕ) (floor : List ℕ) (all : List Arrangement) → has_member all ≡ true → ((a : Arrangement) → IsIn a all → is_lower (f a) floor ≡ false)
    → is_lower (lowest_list (map f all)) floor ≡ false
lowest_of f floor [] has each = let bad : false ≡ true = has in absurd (cc)
lowest_of f floor (a ∷ all) has each = lowest_above floor (f a) (map f all) (each a (inl refl)) (λ xs m. later all (λ b n. each b (inr n)) xs m)
  where
    later : (all : List Arrangement) → ((b : Arrangement) → IsIn b all → is_lower (f b) floor ≡ false) → (xs : List ℕ) → IsIn xs (map f all) → is_lower xs floor ≡ false
    later [] each xs m = absurd m
    later (b ∷ all) each xs m = elim m [ inl same ↦ ap (λ ys. is_lower ys floor) same ∙ each b (inl refl) | inr n ↦ later all (λ d k. each d (inr k)) xs n ]

two_ways : (a b : ℕ) → a ≤ b → (a < b) ⊎ (a ≡ b)
two_ways a b h = grind arith

-- the score of a bracket's residents, where they have one
abbrev resident_score : Facts → Reached → ℕ
resident_score facts reached = score_at facts (seat_of reached.seats (reached.mdps + 1))

-- a shape that is found makes a value, which is not better
value_found : (facts : Facts) (reached : Reached) → IsOf facts reached → IsFlat facts reached → (pairs : ℕ) (s : Shape)
    → greatest_shape (legal_in facts reached) (frame_of facts reached) ≡ Some s → s.pairs ≤ pairs
    → IsNotBetter (value_of_shape facts reached (Some s)) pairs (floor_psd facts reached (resident_score facts reached) pairs)
value_found facts reached of' flat pairs s e few =
    let frame = frame_of facts reached in
    elim (two_ways s.pairs pairs few) [
      | inl less ↦ inl less
      | inr same ↦ inr (
        same,
        ap (λ k. is_lower (value_of_shape facts reached (Some s)).psd (floor_psd facts reached (resident_score facts reached) k)) (sym same)
            ∙ lowest_of (psd_in facts reached) (floor_psd facts reached (resident_score facts reached) s.pairs) (legal_in facts reached s)
            (first_has (legal_in facts reached) (λ shape. true) (shapes frame) s e)
            (λ a m. no_psd_is_below_the_floor facts reached of' flat s a (fits_by_test frame s (found_fits (legal_in facts reached) frame s e)).within_pairs
            (in_filter (is_legal (numbers_meet facts reached) (number_may_be_left facts reached) frame) a (arrangements frame s) m)),
      )
    ]

-- what a bracket that is not a last one can be is not better than with half its players in pairs, and the floor of the PSD for them
pub no_value_is_better_than_by_counts : (facts : Facts) (reached : Reached) → IsOf facts reached → IsFlat facts reached → (frame_of facts reached).last ≡ false
    → IsNotBetter (value_of facts reached) (length reached.seats / 2) (floor_psd facts reached (resident_score facts reached) (length reached.seats / 2))
unfolding value_of
no_value_is_better_than_by_counts facts reached of' flat open' = by_shape (greatest_shape (legal_in facts reached) (frame_of facts reached)) refl
  where
    half : ℕ
    half = length reached.seats / 2

    by_shape : (o : Option Shape) → greatest_shape (legal_in facts reached) (frame_of facts reached) ≡ o
        → IsNotBetter (value_of_shape facts reached (greatest_shape (legal_in facts reached) (frame_of facts reached))) half (floor_psd facts reached (resident_score facts reached) half)
    by_shape None e = absurd (always_a_shape (numbers_meet facts reached) (number_may_be_left facts reached) (frame_of facts reached) open' e)
    by_shape (Some s) e =
        let few : s.pairs ≤ length (frame_of facts reached).scores / 2 = found_few (legal_in facts reached) (frame_of facts reached) s e in
        subst (λ (o : Option Shape). IsNotBetter (value_of_shape facts reached o) half (floor_psd facts reached (resident_score facts reached) half)) (sym e)
        (value_found facts reached of' flat half s e (subst (λ k. s.pairs ≤ k / 2) (length-map reached.seats (score_at facts)) few))

-- half the players in pairs, and no PSD at all
pub no_value_has_more_than_half_the_players_in_pairs : (facts : Facts) (reached : Reached) → IsNotBetter (value_of facts reached) (length reached.seats / 2) []
unfolding value_of
no_value_has_more_than_half_the_players_in_pairs facts reached = by_shape (greatest_shape (legal_in facts reached) (frame_of facts reached)) refl
  where
    not_more : (value : NextValue) → value.pairs ≤ length reached.seats / 2 → IsNotBetter value (length reached.seats / 2) []
    not_more value few = elim (two_ways value.pairs (length reached.seats / 2) few) [ inl less ↦ inl less | inr same ↦ inr (same, none_lower_than_none value.psd) ]

    by_shape : (o : Option Shape) → greatest_shape (legal_in facts reached) (frame_of facts reached) ≡ o
        → IsNotBetter (value_of_shape facts reached (greatest_shape (legal_in facts reached) (frame_of facts reached))) (length reached.seats / 2) []
    by_shape None e =
        subst (λ (o : Option Shape). IsNotBetter (value_of_shape facts reached o) (length reached.seats / 2) []) (sym e) (not_more no_value (omega arith))
    by_shape (Some s) e =
        let few : s.pairs ≤ length (frame_of facts reached).scores / 2 = found_few (legal_in facts reached) (frame_of facts reached) s e in
        subst (λ (o : Option Shape). IsNotBetter (value_of_shape facts reached o) (length reached.seats / 2) []) (sym e)
        (not_more (value_of_shape facts reached (Some s)) (subst (λ k. s.pairs ≤ k / 2) (length-map reached.seats (score_at facts)) few))

pub all_same : (P : ℕ → Type 0) (f : ℕ → ℕ) (s : ℕ) → ((i : ℕ) → P i → f i ≡ s) → (xs : List ℕ) → AllByRecursion P xs → map f xs ≡ repeated s (length xs)
all_same P f s each [] all = refl
all_same P f s each (x ∷ xs) all = ap (λ y. y ∷ map f xs) (each x all.0) ∙ ap (λ ys. s ∷ ys) (all_same P f s each xs all.1)

module _ (facts : Facts) (reached : Reached) (of' : IsOf facts reached) (flat : IsFlat facts reached) (next : List ℕ) (below : IsNext facts reached next) (shape : Shape) (a : Arrangement)
    (m : IsIn a (arrangements (frame_of facts reached) shape)) where
  -- the scores of the downfloaters: those of the Limbo, and that of the residents for each of them who goes down
  scores_are : map (score_at facts) (downfloaters facts reached a)
      ≡ scores_down facts reached shape (map (λ i. score_at facts (seat_of reached.seats i)) (left_of (numbers_from 1 reached.mdps) a.s1))
  scores_are =
      let f : ℕ → ℕ = λ i. score_at facts (seat_of reached.seats i) in
      let frame : Frame = frame_of facts reached in
      let q = reached.mdps in
      let n = length frame.scores in
      let count : n ≡ length reached.seats = length-map reached.seats (score_at facts) in
      let inside : q ≤ n = (let h = flat.resident in omega (arith, h, count)) in
      let parts = parts_of frame shape a inside m in
      let P : ℕ → Type 0 = λ i. (q < i) × (i ≤ n) in
      let pool : List ℕ = numbers_from (q + 1) (n - q) in
      let low : List ℕ = left_of (numbers_from 1 q) a.s1 in
      let rest : List ℕ = left_of (left_of (left_of pool a.s2) a.s1r) a.s2r in
      let all : AllByRecursion P rest =
      all_filter P (λ x. not (is_member x a.s2r)) (left_of (left_of pool a.s2) a.s1r)
      (all_filter P (λ x. not (is_member x a.s1r)) (left_of pool a.s2)
      (all_filter P (λ x. not (is_member x a.s2)) pool (numbers_within q (q + 1) (n - q) n (omega arith) (omega (arith, inside))))) in
      let many : length rest ≡ residents_down reached shape = omega (arith, parts.left, count) in
      map-map (score_at facts) (seat_of reached.seats) (down frame a)
      ∙ ap (map f) (down_parts frame shape.mdps (remainder_pairs shape) a inside parts)
      ∙ map-append f low rest
      ∙ ap (λ xs. map f low ++ xs) (all_same P f (resident_score facts reached) (λ i p. flat.same i p.0 (omega (arith, p.1, count))) rest all ∙ ap (repeated (resident_score facts reached)) many)

  abbrev candidate : Candidate
  candidate = record { lists = a; down = down (frame_of facts reached) a }

  -- the floor of the next bracket's PSD is that of its scores
  floors_are : (s pairs : ℕ) → floor_psd facts (next_bracket (downfloaters facts reached a) next) s pairs ≡ floor_below (map (score_at facts) (downfloaters facts reached a)) s (length next) pairs
  floors_are s pairs =
      let floats : List ℕ = downfloaters facts reached a in
      let g : List ℕ = map (score_at facts) floats in
      let by : ℕ → ℕ = λ x. x - s in
      let made : List ℕ = map by g in
      let count : length g ≡ length floats = length-map floats (score_at facts) in
      let count' : length made ≡ length g = length-map g by in
      let f : ℕ → ℕ = λ i. score_at facts (seat_of (floats ++ next) i) - s in
      let same : map f (numbers_from 1 (length made)) ≡ made =
      map-numbers_from f made 1 (λ j h.
      let short : j < length floats = omega (arith, h, count, count') in
      ap (λ k. score_at facts (get_or (floats ++ next) k 0) - s) (let e : (1 + j) - 1 ≡ j = omega arith in e)
      ∙ ap (λ x. score_at facts x - s) (get_or-append floats next 0 j short)
      ∙ sym (get_or-map by g j 0 0 (omega (arith, short, count)) ∙ ap by (get_or-map (score_at facts) floats j 0 0 short))) in
      ap (λ xs. highest_first (xs ++ (repeated 0 (pairs - length floats) ++ repeated 2 (length (floats ++ next) - 2 * pairs))))
      (ap (λ k. map f (numbers_from 1 k)) (sym (count' ∙ count)) ∙ same)
      ∙ ap (λ k. highest_first (made ++ (repeated 0 (pairs - k) ++ repeated 2 (length (floats ++ next) - 2 * pairs)))) (sym count)
      ∙ ap (λ k. highest_first (made ++ (repeated 0 (pairs - length g) ++ repeated 2 (k - 2 * pairs)))) (length-append floats next ∙ ap (λ k. k + length next) (sym count))

  -- what the arrangement leaves for the next bracket is not better than counts tell of its scores
  pub counts_tell_of_the_next_bracket : reached.kind ≡ Ordinary → (limbo : List ℕ) → map (λ i. score_at facts (seat_of reached.seats i)) (left_of (numbers_from 1 reached.mdps) a.s1) ≡ limbo
      → (pairs : ℕ) → length (downfloaters facts reached a ++ next) / 2 ≡ pairs
      → IsNotBetter (value_in Ordinary facts (downfloaters facts reached a) next) pairs (floor_below (scores_down facts reached shape limbo) (score_at facts (slice_index next 0)) (length next) pairs)
  counts_tell_of_the_next_bracket ordinary limbo given pairs half =
      let floats : List ℕ = downfloaters facts reached a in
      let g : List ℕ = map (score_at facts) floats in
      let reached' : Reached = next_bracket floats next in
      let of_bracket : IsOfBracket facts reached candidate = record { lists = (shape, m); down = refl } in
      let same : g ≡ scores_down facts reached shape limbo = scores_are ∙ ap (scores_down facts reached shape) given in
      let at_next : score_at facts (seat_of (floats ++ next) (length floats + 1)) ≡ score_at facts (slice_index next 0) =
      ap (score_at facts) (get_or-append_right floats next ((length floats + 1) - 1) 0 (omega arith) ∙ ap (λ k. get_or next k 0) (let e : ((length floats + 1) - 1) - length floats ≡ 0 = omega arith in e)) in
      let value = no_value_is_better_than_by_counts facts reached' (next_of facts reached candidate.down next of' (left_by_candidate facts reached candidate of_bracket) below)
      (next_flat facts reached candidate.down next of' (left_by_candidate facts reached candidate of_bracket) below ordinary) refl in
      subst (λ (floor : List ℕ). IsNotBetter (value_of facts reached') pairs floor)
      (ap (λ s. floor_psd facts reached' s pairs) at_next
      ∙ floors_are (score_at facts (slice_index next 0)) pairs
      ∙ ap (λ scores. floor_below scores (score_at facts (slice_index next 0)) (length next) pairs) same)
      (subst (λ k. IsNotBetter (value_of facts reached') k (floor_psd facts reached' (resident_score facts reached') k)) half value)
