-- C.04.3 C.10: lonely players, once all but an end of S2R is chosen. Each player of S1R who still waits meets one of the pool. If they
-- suit nobody there, their pair misses a preference, since the two may meet. The same is true of whoever of the pool suits nobody who
-- waits, except for the residents who go down: so many of the pool meet nobody.
use Rattle.std.proofs.Common.{◌≡◌, ℕ, zero, suc, ◌+◌, ◌-◌, ◌≤◌, Bool, true, false, not, ◌&&◌, ◌||◌, ◌==◌, cond, List, [], ◌∷◌, ◌++◌, length, inl, inr, refl, sym, ap, ◌∙◌, subst, sum_by, map, arith, length-append}
use Rattle.std.specs.Prelude.{filter}
use Rattle.std.specs.List.{AllByRecursion, list_any}
use Rattle.std.proofs.lemmas.Bool.{and_parts}
use Rattle.std.proofs.lemmas.List.{length-map}
use Rattle.std.proofs.lemmas.List.Sums.{sum_by-append, sum_by-cons}
use Rattle.dutch_arrangements.specs.declared.bracket.Shape.{Shape}
use Rattle.dutch_arrangements.specs.Prelude.{all_meet, is_member, without, tuples, IsIn, Arrangement, left_of, residents_of, remainder_pairs}
use Rattle.dutch_sequence.proofs.Counts.{left-append}
use Rattle.dutch_sequence.proofs.Orders.{all_members, IsIn-flat_map, IsIn-map, Rises, Rises-filter}
use Rattle.dutch_player.specs.Prelude.{Facts}
use Rattle.dutch_bracket.specs.declared.colours_missed.Miss.TheVariants.{Preference}
use Rattle.dutch_bracket.specs.Prelude.{seat_of, score_at, pairs_of, all_pairs, Reached, frame_of, numbers_meet, candidates_of, quality_of, one_if, misses, count_in, count_in_pairs, quality_with, LacksEndOfS2r, beyond, suits, lonely, lonely_first, lonely_second, residents_down, quality}
use Rattle.dutch_bracket.proofs.ArrangementParts.{left_none, numbers_rise, lists_of, parts_of, left_cons, tuple_members, tuple_whole}
use Rattle.dutch_bracket.proofs.FixedPairs.{pairs_on}
use Rattle.dutch_floors.proofs.FreePlayers.{total_few}
use Rattle.dutch_floors.proofs.GrantedColours.{at_most_one}
use Rattle.dutch_bracket.proofs.LegalPairs.{legal_of}
use Rattle.dutch_bracket.proofs.Totals.{total}

-- ---- lists

-- who passes a test is counted
counted_at : (p : ℕ → Bool) (x : ℕ) (xs : List ℕ) (t : Bool) → length (filter p xs) ≡ total (λ y. one_if (p y)) xs
    → length (cond t (x ∷ filter p xs) (filter p xs)) ≡ one_if t + total (λ y. one_if (p y)) xs
counted_at p x xs true more = omega (arith, more)
counted_at p x xs false more = omega (arith, more)

counted : (p : ℕ → Bool) (xs : List ℕ) → length (filter p xs) ≡ total (λ y. one_if (p y)) xs
counted p [] = refl
counted p (x ∷ xs) = counted_at p x xs (p x) (counted p xs)

-- where a test fails for all of a list, it does for a member of it
not_first : (a b : Bool) → one_if (not (a || b)) ≤ one_if (not a)
not_first true b = omega arith
not_first false b = at_most_one (not b)

not_second : (a b : Bool) → one_if (not (a || b)) ≤ one_if (not b)
not_second true b = omega arith
not_second false b = omega arith

none_in : (p : ℕ → Bool) (y : ℕ) (ys : List ℕ) → IsIn y ys → one_if (not (list_any p ys)) ≤ one_if (not (p y))
none_in p y [] m = absurd m
none_in p y (z ∷ ys) (inl same) = omega (arith, not_first (p z) (list_any p ys), ap (λ x. one_if (not (p x))) same)
none_in p y (z ∷ ys) (inr later) = omega (arith, not_second (p z) (list_any p ys), none_in p y ys later)

-- the end of a tuple is a tuple of those whom its front leaves
tuple_end : (pool : List ℕ) (k : ℕ) (front rest : List ℕ) → IsIn (front ++ rest) (tuples pool k) → (k' : ℕ) × IsIn rest (tuples (left_of pool front) k')
tuple_end pool k [] rest m = (k, subst (λ xs. IsIn rest (tuples xs k)) (sym (left_none pool)) m)
tuple_end pool zero (y ∷ front) rest (inl same) = absurd (cc)
tuple_end pool zero (y ∷ front) rest (inr none) = absurd none
tuple_end pool (suc k) (y ∷ front) rest m =
    let first = IsIn-flat_map (λ x. map (λ t. x ∷ t) (tuples (without x pool) k)) (y ∷ (front ++ rest)) pool m in
    let from = IsIn-map (λ t. first.0 ∷ t) (y ∷ (front ++ rest)) (tuples (without first.0 pool) k) first.2 in
    let e : y ∷ (front ++ rest) ≡ first.0 ∷ from.0 = from.1 in
    let head : first.0 ≡ y = cc in
    let tail : from.0 ≡ front ++ rest = cc in
    let here = subst (λ x. IsIn from.0 (tuples (without x pool) k)) head from.2 in
    let later = tuple_end (without y pool) k front rest (subst (λ t. IsIn t (tuples (without y pool) k)) tail here) in
    (later.0, subst (λ xs. IsIn rest (tuples xs later.0)) (sym (left_cons y front pool)) later.1)

-- who waits are as many as those who are still to be chosen
beyond_length : (front firsts : List ℕ) (n : ℕ) → length firsts ≡ length front + n → length (beyond front firsts) ≡ n
beyond_length [] firsts n e = omega arith
beyond_length (y ∷ front) [] n e = absurd (omega arith)
beyond_length (y ∷ front) (x ∷ firsts) n e = beyond_length front firsts n (omega arith)

meet_beyond : (meets : ℕ → ℕ → Bool) (firsts front rest : List ℕ) → all_meet meets firsts (front ++ rest) ≡ true → all_meet meets (beyond front firsts) rest ≡ true
meet_beyond meets firsts [] rest meet = meet
meet_beyond meets [] (y ∷ front) rest meet = refl
meet_beyond meets (x ∷ firsts) (y ∷ front) rest meet = meet_beyond meets firsts front rest (and_parts (meets x y) (all_meet meets firsts (front ++ rest)) meet).1

-- ---- pairs

module _ (facts : Facts) (reached : Reached) where
  -- how many of a pair miss a preference
  abbrev missed_in : ℕ × ℕ → ℕ
  missed_in = count_in facts (misses Preference)

  abbrev missed_by : ℕ → ℕ → ℕ
  missed_by x y = missed_in (seat_of reached.seats x, seat_of reached.seats y)

  -- two who may meet and do not suit each other miss a preference
  unsuited_at : (meet : Bool) (n : ℕ) → meet ≡ true → one_if (not ((n == 0) && meet)) ≤ n
  unsuited_at true zero e = omega arith
  unsuited_at true (suc n) e = omega (arith, at_most_one (not ((suc n == 0) && true)))
  unsuited_at false n e = absurd (cc)

  unsuited : (x y : ℕ) → numbers_meet facts reached x y ≡ true → one_if (not (suits facts reached x y)) ≤ missed_by x y
  unfolding suits numbers_meet
  unsuited x y meet = unsuited_at (numbers_meet facts reached x y) (missed_by x y) meet

  -- 1 for a player who suits nobody of a list, as the first of a pair or as the second
  abbrev lonely_among : List ℕ → ℕ → ℕ
  lonely_among ys x = one_if (not (list_any (suits facts reached x) ys))

  abbrev lonely_to : List ℕ → ℕ → ℕ
  lonely_to xs y = one_if (not (list_any (λ x. suits facts reached x y) xs))

  firsts_miss : (all xs ys : List ℕ) → all_meet (numbers_meet facts reached) xs ys ≡ true → length xs ≤ length ys → AllByRecursion (λ y. IsIn y all) ys
      → total (lonely_among all) xs ≤ sum_by missed_in (pairs_of reached.seats xs ys)
  firsts_miss all [] ys meet few inside = omega arith
  firsts_miss all (x ∷ xs) [] meet few inside = absurd (omega arith)
  firsts_miss all (x ∷ xs) (y ∷ ys) meet few inside =
      let both = and_parts (numbers_meet facts reached x y) (all_meet (numbers_meet facts reached) xs ys) meet in
      omega (
        arith,
        none_in (suits facts reached x) y all inside.0,
        unsuited x y both.0,
        firsts_miss all xs ys both.1 (omega arith) inside.1,
        sum_by-cons missed_in (seat_of reached.seats x, seat_of reached.seats y) (pairs_of reached.seats xs ys),
      )

  seconds_miss : (all xs ys : List ℕ) → all_meet (numbers_meet facts reached) xs ys ≡ true → length ys ≤ length xs → AllByRecursion (λ x. IsIn x all) xs
      → total (lonely_to all) ys ≤ sum_by missed_in (pairs_of reached.seats xs ys)
  seconds_miss all [] [] meet few inside = omega arith
  seconds_miss all [] (y ∷ ys) meet few inside = absurd (omega arith)
  seconds_miss all (x ∷ xs) [] meet few inside = omega arith
  seconds_miss all (x ∷ xs) (y ∷ ys) meet few inside =
      let both = and_parts (numbers_meet facts reached x y) (all_meet (numbers_meet facts reached) xs ys) meet in
      omega (
        arith,
        none_in (λ z. suits facts reached z y) x all inside.0,
        unsuited x y both.0,
        seconds_miss all xs ys both.1 (omega arith) inside.1,
        sum_by-cons missed_in (seat_of reached.seats x, seat_of reached.seats y) (pairs_of reached.seats xs ys),
      )

-- ---- a beginning that lacks the end of S2R

-- an arrangement with another S2R
abbrev with_end : Arrangement → List ℕ → Arrangement
with_end a front = record { s1 = a.s1; s2 = a.s2; s1r = a.s1r; s2r = front }

module _ (facts : Facts) (reached : Reached) (shape : Shape) (a : Arrangement) (within : reached.mdps ≤ length reached.seats) (m : IsIn a (candidates_of facts reached shape)) (front rest : List ℕ) (is : a.s2r ≡ front ++ rest) where
  abbrev waits : List ℕ
  waits = beyond front a.s1r

  abbrev open_pool : List ℕ
  open_pool = left_of (left_of (residents_of (frame_of facts reached)) a.s2) a.s1r

  -- the pairs of S1R behind the front are all others
  with_others : sum_by (missed_in facts reached) (all_pairs reached.seats a)
      ≡ sum_by (missed_in facts reached) (all_pairs reached.seats (with_end a front)) + sum_by (missed_in facts reached) (pairs_of reached.seats waits rest)
  with_others =
      let f : ℕ × ℕ → ℕ = missed_in facts reached in
      let first : List (ℕ × ℕ) = pairs_of reached.seats a.s1 a.s2 in
      let known : List (ℕ × ℕ) = pairs_of reached.seats a.s1r front in
      omega (
        arith,
        sum_by-append f first (pairs_of reached.seats a.s1r a.s2r),
        ap (sum_by f) (ap (pairs_of reached.seats a.s1r) is ∙ pairs_on reached.seats a.s1r front rest),
        sum_by-append f known (pairs_of reached.seats waits rest),
        sum_by-append f first known,
      )

  waits_meet : all_meet (numbers_meet facts reached) waits rest ≡ true
  waits_meet =
      meet_beyond (numbers_meet facts reached) a.s1r front rest
      (subst (λ xs. all_meet (numbers_meet facts reached) a.s1r xs ≡ true) is (legal_of facts reached shape a m).residents)

  inside : reached.mdps ≤ length (frame_of facts reached).scores
  inside = omega (arith, within, length-map reached.seats (score_at facts))

  as_many : length waits ≡ length rest
  as_many =
      let parts = parts_of (frame_of facts reached) shape a inside (legal_of facts reached shape a m).arranged in
      beyond_length front a.s1r (length rest) (omega (arith, parts.s1r_count, parts.s2r_count, ap length is, length-append front rest))

  rest_chosen : (k : ℕ) × IsIn rest (tuples (left_of open_pool front) k)
  rest_chosen =
      let lists = lists_of (frame_of facts reached) shape a inside (legal_of facts reached shape a m).arranged in
      tuple_end open_pool (remainder_pairs shape) front rest (subst (λ t. IsIn t (tuples open_pool (remainder_pairs shape))) is lists.s2r)

  first_lonely : lonely_first facts reached (with_end a front) ≤ sum_by (missed_in facts reached) (pairs_of reached.seats waits rest)
  unfolding lonely_first lonely
  first_lonely =
      let all : List ℕ = left_of open_pool front in
      omega (
        arith,
        counted (λ x. not (list_any (suits facts reached x) all)) waits,
        firsts_miss facts reached all waits rest waits_meet (omega (arith, as_many))
            (tuple_members (λ y. IsIn y all) all rest_chosen.0 rest (all_members (λ y. IsIn y all) all (λ y h. h)) rest_chosen.1),
      )

  second_lonely : lonely_second facts reached (with_end a front) ≤ sum_by (missed_in facts reached) (pairs_of reached.seats waits rest) + residents_down reached shape
  unfolding lonely_second lonely
  second_lonely =
      let all : List ℕ = left_of open_pool front in
      let residents : List ℕ = residents_of (frame_of facts reached) in
      let w : ℕ → ℕ = lonely_to facts reached waits in
      let rises : Rises all =
      Rises-filter (λ x. not (is_member x front)) open_pool
      (Rises-filter (λ x. not (is_member x a.s1r)) (left_of residents a.s2)
      (Rises-filter (λ x. not (is_member x a.s2)) residents (numbers_rise (reached.mdps + 1) (length (frame_of facts reached).scores - reached.mdps)))) in
      omega (
        arith,
        counted (λ y. not (list_any (λ x. suits facts reached x y) waits)) all,
        tuple_whole w all rest_chosen.0 rest rises rest_chosen.1,
        total_few w (λ y. at_most_one (not (list_any (λ x. suits facts reached x y) waits))) (left_of all rest),
        ap length (left-append open_pool front rest ∙ ap (left_of open_pool) (sym is)),
        (parts_of (frame_of facts reached) shape a inside (legal_of facts reached shape a m).arranged).left,
        length-map reached.seats (score_at facts),
        seconds_miss facts reached waits waits rest waits_meet (omega (arith, as_many)) (all_members (λ x. IsIn x waits) waits (λ x h. h)),
      )

  lonely_miss_at : count_in_pairs facts (misses Preference) (all_pairs reached.seats (with_end a front)) + lonely facts reached shape (with_end a front)
      ≤ count_in_pairs facts (misses Preference) (all_pairs reached.seats a)
  unfolding lonely lonely_first lonely_second
  lonely_miss_at = omega (arith, first_lonely, second_lonely, with_others)

-- the beginning is the arrangement but for its S2R
same_but_end : (b a : Arrangement) → LacksEndOfS2r b a → with_end a b.s2r ≡ b
same_but_end b a lacks =
    sym (ap (λ (xs : List ℕ). let made : Arrangement = record { s1 = xs; s2 = b.s2; s1r = b.s1r; s2r = b.s2r } in made) lacks.s1
    ∙ ap (λ (xs : List ℕ). let made : Arrangement = record { s1 = a.s1; s2 = xs; s1r = b.s1r; s2r = b.s2r } in made) lacks.s2
    ∙ ap (λ (xs : List ℕ). let made : Arrangement = record { s1 = a.s1; s2 = a.s2; s1r = xs; s2r = b.s2r } in made) lacks.s1r)

pub lonely_miss : (facts : Facts) (reached : Reached) (lower : List ℕ) (shape : Shape) (b a : Arrangement) → reached.mdps ≤ length reached.seats
    → IsIn a (candidates_of facts reached shape) → LacksEndOfS2r b a
    → count_in_pairs facts (misses Preference) (all_pairs reached.seats b) + lonely facts reached shape b ≤ (quality_of facts reached lower a).missed_preferences
unfolding quality_of quality quality_with
lonely_miss facts reached lower shape b a within m lacks =
    let P : Arrangement → Type 0 = λ c. count_in_pairs facts (misses Preference) (all_pairs reached.seats c) + lonely facts reached shape c
    ≤ count_in_pairs facts (misses Preference) (all_pairs reached.seats a) in
    subst P (same_but_end b a lacks) (lonely_miss_at facts reached shape a within m b.s2r lacks.s2r.rest lacks.s2r.is)
