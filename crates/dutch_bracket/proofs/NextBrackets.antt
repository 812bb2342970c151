-- The next bracket is one of the field, and its residents have one score.
use Rattle.std.proofs.Common.{◌≡◌, ℕ, suc, ◌+◌, ◌-◌, ◌<◌, ◌≤◌, not, List, [], ◌∷◌, ◌++◌, map, length, get_or, inl, inr, refl, sym, ap, ◌∙◌, subst, arith, length-append}
use Rattle.std.specs.List.{AllByRecursion}
use Rattle.std.specs.Prelude.{slice_index}
use Rattle.std.specs.List.Sorted.{IsStrictlyIncreasing}
use Rattle.std.proofs.lemmas.List.{length-map, get_or-map, map-append, get_or_append_left, get_or-append_right}
use Rattle.std.proofs.lemmas.List.Kept.{IsStrictlyIncreasing-filter}
use Rattle.std.proofs.lemmas.Simd.{map-map}
use Rattle.std.proofs.lemmas.Bool.{cases_lt}
use Rattle.dutch_arrangements.specs.Prelude.{numbers_from, is_member, Candidate, paired}
use Rattle.dutch_sequence.proofs.Counts.{numbers-rise}
use Rattle.dutch_sequence.proofs.Orders.{Rises, Rises-from}
use Rattle.dutch_sequence.proofs.Turns.{at_index}
use Rattle.dutch_player.specs.Prelude.{Facts}
use Rattle.dutch_bracket.specs.declared.reached.BracketKind.TheVariants.{Ordinary}
use Rattle.dutch_bracket.specs.Prelude.{seat_of, score_at, AreSeats, AllNumbers, Reached, frame_of, IsOf, next_bracket, IsFlat, IsOfBracket, AreLeft, IsNext}
use Rattle.dutch_bracket.proofs.AllLemmas.{all_at, all_join}
use Rattle.dutch_bracket.proofs.CandidateSeats.{all_within}
use Rattle.dutch_bracket.proofs.DownLemmas.{down_numbers}
use Rattle.dutch_bracket.proofs.FlatBrackets.{seats_fall}
use Rattle.dutch_bracket.proofs.Copies.{Falls, falls_index}

falls_append : (xs ys : List ℕ) → Falls xs → Falls ys → ((i j : ℕ) → i < length xs → j < length ys → get_or ys j 0 ≤ get_or xs i 0) → Falls (xs ++ ys)
falls_append [] ys p q apart = q
falls_append (x ∷ xs) ys p q apart =
    (all_join (λ z. z ≤ x) xs ys p.0 (all_at (λ z. z ≤ x) ys (λ j h. apart 0 j (omega arith) h)), falls_append xs ys p.1 q (λ i j h g. apart (suc i) j (omega arith) g))

flat_falls : (f : ℕ → ℕ) (xs : List ℕ) → ((i j : ℕ) → i < length xs → j < length xs → f (get_or xs i 0) ≡ f (get_or xs j 0)) → Falls (map f xs)
flat_falls f [] same = tt
flat_falls f (x ∷ xs) same = (
  all_at (λ y. y ≤ f x) (map f xs) (λ j h. let lt : j < length xs = (let e = length-map xs f in omega arith) in
      let e : f x ≡ f (get_or xs j 0) = same 0 (suc j) (omega arith) (omega arith) in omega (arith, e, get_or-map f xs j 0 0 lt)),
  flat_falls f xs (λ i j h g. same (suc i) (suc j) (omega arith) (omega arith)),
)

later_below : (f : ℕ → ℕ) (n x : ℕ) (xs : List ℕ) → 0 < x → ((i j : ℕ) → 0 < i → i ≤ j → j ≤ n → f j ≤ f i)
    → AllByRecursion (λ y. x < y) xs → AllByRecursion (λ i. (0 < i) × (i ≤ n)) xs → AllByRecursion (λ y. y ≤ f x) (map f xs)
later_below f n x [] p falling above all = tt
later_below f n x (y ∷ xs) p falling above all =
    let lt : x < y = above.0 in (falling x y p (omega arith) all.0.1, later_below f n x xs p falling above.1 all.1)

rising_falls : (f : ℕ → ℕ) (n : ℕ) (xs : List ℕ) → ((i j : ℕ) → 0 < i → i ≤ j → j ≤ n → f j ≤ f i) → Rises xs → AllByRecursion (λ i. (0 < i) × (i ≤ n)) xs → Falls (map f xs)
rising_falls f n [] falling rises all = tt
rising_falls f n (x ∷ xs) falling rises all = (later_below f n x xs all.0.0 falling rises.0 all.1, rising_falls f n xs falling rises.1 all.1)

-- numbers that rise up to a last one are no more than this
rising_few : (n x : ℕ) (xs : List ℕ) → Rises (x ∷ xs) → AllByRecursion (λ y. (0 < y) × (y ≤ n)) (x ∷ xs) → x + length xs ≤ n
rising_few n x [] rises all = let le : x ≤ n = all.0.1 in omega (arith, le)
rising_few n x (y ∷ xs) rises all =
    omega (arith, rises.0.0, rising_few n y xs rises.1 all.1)

numbers_few : (n : ℕ) (xs : List ℕ) → Rises xs → AllByRecursion (λ y. (0 < y) × (y ≤ n)) xs → length xs ≤ n
numbers_few n [] rises all = omega arith
numbers_few n (x ∷ xs) rises all =
    omega (arith, all.0.0, rising_few n x xs rises all)

-- those whom an arrangement leaves over, by number, ascend
pub left_by_candidate : (facts : Facts) (reached : Reached) (candidate : Candidate) → IsOfBracket facts reached candidate → AreLeft reached candidate.down
left_by_candidate facts reached candidate of_bracket = record {
  numbers = subst (AllNumbers reached.seats) (sym of_bracket.down) (down_numbers facts reached candidate.lists);
  ascend = subst IsStrictlyIncreasing (sym of_bracket.down)
      (IsStrictlyIncreasing-filter (λ x. not (is_member x (paired candidate.lists))) (numbers_from 1 (length (frame_of facts reached).scores)) (numbers-rise 1 (length (frame_of facts reached).scores)));
}

module _ (facts : Facts) (reached : Reached) (left next : List ℕ) (of' : IsOf facts reached) (are : AreLeft reached left) (below : IsNext facts reached next) where
  pub numbers : AllNumbers reached.seats left
  numbers = are.numbers

  rises : Rises left
  rises = Rises-from left are.ascend

  pub down_short : length left ≤ length reached.seats
  down_short = numbers_few (length reached.seats) left rises numbers

  count : length (map (seat_of reached.seats) left) ≡ length left
  count = length-map left (seat_of reached.seats)

  moved_at : (i : ℕ) → i < length left → get_or (map (seat_of reached.seats) left) i 0 ≡ seat_of reached.seats (get_or left i 0)
  moved_at i h = get_or-map (seat_of reached.seats) left i 0 0 h

  -- the scores of those who move down are above those of the next scoregroup
  apart : (i j : ℕ) → i < length left → j < length next → score_at facts (get_or next j 0) < score_at facts (get_or (map (seat_of reached.seats) left) i 0)
  apart i j h g =
      let number = at_index (λ n. (0 < n) × (n ≤ length reached.seats)) left i numbers h in
      omega (arith, below.below (get_or left i 0 - 1) j (omega (arith, number.0, number.1)) g, ap (score_at facts) (moved_at i h))

  moved_falls : Falls (map (score_at facts) (map (seat_of reached.seats) left))
  moved_falls = subst Falls (sym (map-map (score_at facts) (seat_of reached.seats) left)) (rising_falls (λ i. score_at facts (seat_of reached.seats i)) (length reached.seats) left (seats_fall facts reached of') rises numbers)

  all_fall : Falls (map (score_at facts) (map (seat_of reached.seats) left ++ next))
  all_fall =
      subst Falls (sym (map-append (score_at facts) (map (seat_of reached.seats) left) next))
      (falls_append (map (score_at facts) (map (seat_of reached.seats) left)) (map (score_at facts) next) moved_falls (flat_falls (score_at facts) next below.same)
      (λ i j h g.
      let lh : i < length left = (let e = length-map (map (seat_of reached.seats) left) (score_at facts) in omega (arith, h, e, count)) in
      let lg : j < length next = (let e = length-map next (score_at facts) in omega (arith, g, e)) in
      let lm : i < length (map (seat_of reached.seats) left) = omega (arith, lh, count) in
      omega (arith, apart i j lh lg, get_or-map (score_at facts) (map (seat_of reached.seats) left) i 0 0 lm, get_or-map (score_at facts) next j 0 0 lg)))

  long : length (map (seat_of reached.seats) left ++ next) ≡ length left + length next
  long = length-append (map (seat_of reached.seats) left) next ∙ ap (λ k. k + length next) count

  inside : AreSeats facts (map (seat_of reached.seats) left ++ next)
  inside i h =
      elim (cases_lt i (length left)) [
        | inl low ↦
            let lt : i < length (map (seat_of reached.seats) left) = omega (arith, low, count) in
            omega (arith, all_within facts reached.seats left of'.inside numbers i lt, get_or_append_left (map (seat_of reached.seats) left) next 0 i lt)
        | inr high ↦
            let seat : slice_index next (i - length (map (seat_of reached.seats) left)) < length facts.seats = below.inside (i - length (map (seat_of reached.seats) left)) (omega (arith, h, high, count, long)) in
            omega (arith, seat, get_or-append_right (map (seat_of reached.seats) left) next (length (map (seat_of reached.seats) left)) i 0 refl (omega (arith, high, count)))
      ]

  score_in : (i : ℕ) → i < length left + length next → slice_index (map (score_at facts) (map (seat_of reached.seats) left ++ next)) i ≡ score_at facts (get_or (map (seat_of reached.seats) left ++ next) i 0)
  score_in i h = get_or-map (score_at facts) (map (seat_of reached.seats) left ++ next) i 0 0 (omega (arith, h, long))

  pub next_of : IsOf facts (next_bracket (map (seat_of reached.seats) left) next)
  next_of = record {
    inside = inside;
    sound =
        let scored : length (map (score_at facts) (map (seat_of reached.seats) left ++ next)) ≡ length left + length next =
        length-map (map (seat_of reached.seats) left ++ next) (score_at facts) ∙ long in
        record {
          few = omega (arith, scored, down_short, below.few);
          within = omega (arith, scored, count);
          descends = falls_index (map (score_at facts) (map (seat_of reached.seats) left ++ next)) all_fall;
          above = λ i j h g k.
              let low : i < length left = omega (arith, h, count) in
              let one : score_at facts (get_or next (j - length (map (seat_of reached.seats) left)) 0) < score_at facts (get_or (map (seat_of reached.seats) left) i 0) =
              apart i (j - length (map (seat_of reached.seats) left)) low (omega (arith, g, k, scored, count)) in
              omega (
                arith,
                one,
                score_in i (omega (arith, low)),
                score_in j (omega (arith, k, scored)),
                ap (score_at facts) (get_or_append_left (map (seat_of reached.seats) left) next 0 i h),
                ap (score_at facts) (get_or-append_right (map (seat_of reached.seats) left) next (length (map (seat_of reached.seats) left)) j 0 refl g),
              );
        };
  }

  pub next_flat : reached.kind ≡ Ordinary → IsFlat facts (next_bracket (map (seat_of reached.seats) left) next)
  next_flat ordinary =
      let some : 0 < length next = below.there ordinary in
      let md : List ℕ = map (seat_of reached.seats) left in
      record {
        resident = omega (arith, some, long, count);
        same = λ i h g.
            let first : score_at facts (get_or next ((i - 1) - length md) 0) ≡ score_at facts (get_or next (((length md + 1) - 1) - length md) 0) =
            below.same ((i - 1) - length md) (((length md + 1) - 1) - length md) (omega (arith, h, g, long, count, some)) (omega (arith, some)) in
            ap (score_at facts) (get_or-append_right md next (length md) (i - 1) 0 refl (omega (arith, h))) ∙ first
            ∙ sym (ap (score_at facts) (get_or-append_right md next (length md) ((length md + 1) - 1) 0 refl (omega arith)));
      }
