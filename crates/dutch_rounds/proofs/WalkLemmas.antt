-- The walk over the brackets keeps its seats by rank, so each bracket is one of the field.
use Rattle.std.proofs.Common.{◌≡◌, ℕ, zero, suc, ◌+◌, ◌-◌, ◌<◌, ◌≤◌, Bool, true, false, not, cond, List, [], ◌∷◌, ◌++◌, length, get_or, map, filter, refl, sym, ap, ◌∙◌, subst, arith, append_assoc, length-append}
use Rattle.std.proofs.lemmas.Bool.{cond_both}
use Rattle.std.specs.List.{AllByRecursion}
use Rattle.std.proofs.lemmas.List.{length-map, get_or-map, get_or_append_left, get_or-append_right}
use Rattle.dutch_arrangements.specs.Prelude.{Arrangement, paired, numbers_from, is_member, IsNonAscending}
use Rattle.dutch_sequence.proofs.Turns.{at_index}
use Rattle.dutch_sequence.proofs.Skipping.{all-behind}
use Rattle.dutch_player.specs.Prelude.{Facts}
use Rattle.dutch_bracket.specs.declared.reached.BracketKind.{BracketKind}
use Rattle.dutch_bracket.specs.declared.reached.BracketKind.TheVariants.{Ordinary}
use Rattle.dutch_bracket.specs.Prelude.{score_at, seat_of, AreSeats, IsAbove, bracket, downfloaters}
use Rattle.dutch_rounds.specs.Prelude.{AreRanked, AreAbove, Goes}
use Rattle.dutch_bracket.proofs.AllLemmas.{all_join}
use Rattle.dutch_sequence.specs.declared.numbers.TheConstants.{LIMIT}
use Rattle.dutch_sequence.proofs.LeftOut.{all-each}

-- scores do not ascend along the seats of a field, of which there are at most LIMIT
pub record Descends (facts : Facts) : Type 0 where
  pub falls : (a b : ℕ) → a < b → b < length facts.seats → score_at facts b ≤ score_at facts a
  pub few : length facts.seats ≤ LIMIT

pub all_front : {T : Type 0} (P : T → Type 0) (xs ys : List T) → AllByRecursion P (xs ++ ys) → AllByRecursion P xs
all_front P [] ys h = tt
all_front P (x ∷ xs) ys h = (h.0, all_front P xs ys h.1)

module _ (facts : Facts) where
  ranked_few : (a : ℕ) (xs : List ℕ) → AreRanked facts (a ∷ xs) → a + length (a ∷ xs) ≤ length facts.seats
  ranked_few a [] h = omega (arith, h.0)
  ranked_few a (b ∷ xs) h =
      let more : b + length (b ∷ xs) ≤ length facts.seats = ranked_few b xs h.2 in
      let next : a < b = h.1.0 in
      omega (arith, more, next)

  few_ranked : (xs : List ℕ) → AreRanked facts xs → length xs ≤ length facts.seats
  few_ranked [] h = omega arith
  few_ranked (a ∷ xs) h = let more : a + length (a ∷ xs) ≤ length facts.seats = ranked_few a xs h in omega (arith, more)

  pub ranked_front : (xs ys : List ℕ) → AreRanked facts (xs ++ ys) → AreRanked facts xs
  ranked_front [] ys h = tt
  ranked_front (x ∷ xs) ys h = (h.0, all_front (λ b. x < b) xs ys h.1, ranked_front xs ys h.2)

  pub ranked_back : (xs ys : List ℕ) → AreRanked facts (xs ++ ys) → AreRanked facts ys
  ranked_back [] ys h = h
  ranked_back (x ∷ xs) ys h = ranked_back xs ys h.2

  pub ranked_seats : (xs : List ℕ) → AreRanked facts xs → AreSeats facts xs
  ranked_seats [] h i lt = absurd (omega (arith, lt))
  ranked_seats (x ∷ xs) h zero lt = h.0
  ranked_seats (x ∷ xs) h (suc i) lt = ranked_seats xs h.2 i (omega (arith, lt))

  -- seats by rank go up
  ranked_next : (xs : List ℕ) → AreRanked facts xs → (i : ℕ) → i + 1 < length xs → get_or xs i 0 < get_or xs (i + 1) 0
  ranked_next [] h i lt = absurd (omega (arith, lt))
  ranked_next (x ∷ xs) h zero lt = at_index (λ b. x < b) xs 0 h.1 (omega (arith, lt))
  ranked_next (x ∷ xs) h (suc i) lt =
      let next : suc (i + 1) ≡ suc i + 1 = omega arith in
      subst (λ k. get_or xs i 0 < get_or (x ∷ xs) k 0) next (ranked_next xs h.2 i (omega (arith, lt)))

  module _ (descends : Descends facts) where
    score_get : (xs : List ℕ) (i : ℕ) → i < length xs → get_or (map (score_at facts) xs) i 0 ≡ score_at facts (get_or xs i 0)
    score_get xs i lt = get_or-map (score_at facts) xs i 0 0 lt

    pub scores_fall : (xs : List ℕ) → AreRanked facts xs → IsNonAscending (map (score_at facts) xs)
    scores_fall xs h i lt =
        let here : i + 1 < length xs = omega (arith, lt, length-map xs (score_at facts)) in
        let first : get_or (map (score_at facts) xs) i 0 ≡ score_at facts (get_or xs i 0) = score_get xs i (omega (arith, here)) in
        let second : get_or (map (score_at facts) xs) (i + 1) 0 ≡ score_at facts (get_or xs (i + 1) 0) = score_get xs (i + 1) here in
        let fall : score_at facts (get_or xs (i + 1) 0) ≤ score_at facts (get_or xs i 0) =
        descends.falls (get_or xs i 0) (get_or xs (i + 1) 0) (ranked_next xs h i here) (ranked_seats xs h (i + 1) here) in
        omega (arith, first, second, fall)

    above_at : (md rest : List ℕ) (i j : ℕ) → AreAbove facts md rest → i < length md → j < length rest → score_at facts (get_or rest j 0) < score_at facts (get_or md i 0)
    above_at md rest i j h lti ltj =
        at_index (λ b. score_at facts b < score_at facts (get_or md i 0)) rest j
        (at_index (λ a. AllByRecursion (λ b. score_at facts b < score_at facts a) rest) md i h lti) ltj

    -- those moved down are above the residents
    scores_above : (md residents : List ℕ) → AreAbove facts md residents → (i j : ℕ) → i < length md → length md ≤ j → j < length (map (score_at facts) (md ++ residents))
        → get_or (map (score_at facts) (md ++ residents)) j 0 < get_or (map (score_at facts) (md ++ residents)) i 0
    scores_above md residents h i j lti le ltj =
        let all = md ++ residents in
        let count : length all ≡ length md + length residents = length-append md residents in
        let here : j < length all = omega (arith, ltj, length-map all (score_at facts)) in
        let low : get_or (map (score_at facts) all) j 0 ≡ score_at facts (get_or residents (j - length md) 0) =
        score_get all j here ∙ ap (score_at facts) (get_or-append_right md residents (length md) j 0 refl le) in
        let high : get_or (map (score_at facts) all) i 0 ≡ score_at facts (get_or md i 0) =
        score_get all i (omega (arith, count, lti)) ∙ ap (score_at facts) (get_or_append_left md residents 0 i lti) in
        let falls : score_at facts (get_or residents (j - length md) 0) < score_at facts (get_or md i 0) =
        above_at md residents i (j - length md) h lti (omega (arith, count, here, le)) in
        omega (arith, low, high, falls)

    above_front : (md xs ys : List ℕ) → AreAbove facts md (xs ++ ys) → AreAbove facts md xs
    above_front md xs ys h =
        all-each (λ a. AllByRecursion (λ b. score_at facts b < score_at facts a) (xs ++ ys)) (λ a. AllByRecursion (λ b. score_at facts b < score_at facts a) xs)
        (λ a g. all_front (λ b. score_at facts b < score_at facts a) xs ys g) md h

    pub above_back : (md xs ys : List ℕ) → AreAbove facts md (xs ++ ys) → AreAbove facts md ys
    above_back md xs ys h =
        all-each (λ a. AllByRecursion (λ b. score_at facts b < score_at facts a) (xs ++ ys)) (λ a. AllByRecursion (λ b. score_at facts b < score_at facts a) ys)
        (λ a g. all-behind (λ b. score_at facts b < score_at facts a) xs ys g) md h

    whole : (md residents lower : List ℕ) → Goes facts md (residents ++ lower) → AreRanked facts ((md ++ residents) ++ lower)
    whole md residents lower goes = subst (AreRanked facts) (sym (append_assoc md residents lower)) goes.ranked

    -- a bracket of those moved down and of the front of the rest is one of the field, above the others
    pub is_above : (number : ℕ) (kind : BracketKind) (md residents lower : List ℕ) → Goes facts md (residents ++ lower) → AreAbove facts residents lower
        → (kind ≡ Ordinary → 0 < length lower) → IsAbove facts (bracket number kind md residents) lower
    is_above number kind md residents lower goes above there =
        let all : AreRanked facts ((md ++ residents) ++ lower) = whole md residents lower goes in
        let own : AreRanked facts (md ++ residents) = ranked_front (md ++ residents) lower all in
        let count : length ((md ++ residents) ++ lower) ≡ length (md ++ residents) + length lower = length-append (md ++ residents) lower in
        let seats : length (md ++ residents) ≡ length md + length residents = length-append md residents in
        let scores : length (map (score_at facts) (md ++ residents)) ≡ length (md ++ residents) = length-map (md ++ residents) (score_at facts) in
        let few : length ((md ++ residents) ++ lower) ≤ length facts.seats = few_ranked ((md ++ residents) ++ lower) all in
        let most : length facts.seats ≤ LIMIT = descends.few in
        record {
          bracket = record {
            inside = ranked_seats (md ++ residents) own;
            sound = record {
              few = omega (arith, scores, count, few, most);
              within = omega (arith, scores, seats);
              descends = scores_fall (md ++ residents) own;
              above = scores_above md residents (above_front md residents lower goes.above);
            };
          };
          inside = ranked_seats lower (ranked_back (md ++ residents) lower all);
          few = omega (arith, count, few, most);
          below = λ i j lti ltj. above_at (md ++ residents) lower i j
              (all_join (λ a. AllByRecursion (λ b. score_at facts b < score_at facts a) lower) md residents (above_back md residents lower goes.above) above) lti ltj;
          there = there;
        }

    -- ---- those left over

    -- the seats of the numbers that a test keeps, of seats that count from a number on
    picked : (ℕ → Bool) → ℕ → List ℕ → List ℕ
    picked p first [] = []
    picked p first (seat ∷ seats) = cond (p first) (seat ∷ picked p (suc first) seats) (picked p (suc first) seats)

    seat_behind : (front : List ℕ) (seat : ℕ) (seats : List ℕ) → seat_of (front ++ seat ∷ seats) (suc (length front)) ≡ seat
    seat_behind front seat seats =
        ap (λ k. get_or (front ++ seat ∷ seats) k 0) (let e : suc (length front) - 1 ≡ length front = omega arith in e)
        ∙ (get_or-append_right front (seat ∷ seats) (length front) (length front) 0 refl (omega arith)
        ∙ ap (λ k. get_or (seat ∷ seats) k 0) (let e : length front - length front ≡ 0 = omega arith in e))

    map_kept : (f : ℕ → ℕ) (x : ℕ) (xs : List ℕ) (t : Bool) → map f (cond t (x ∷ xs) xs) ≡ cond t (f x ∷ map f xs) (map f xs)
    map_kept f x xs true = refl
    map_kept f x xs false = refl

    picks : (p : ℕ → Bool) (front seats : List ℕ)
        → map (seat_of (front ++ seats)) (filter p (numbers_from (suc (length front)) (length seats))) ≡ picked p (suc (length front)) seats
    unfolding picked
    picks p front [] = refl
    picks p front (seat ∷ seats) =
        let all = front ++ seat ∷ seats in
        let first = suc (length front) in
        let count : suc (length (front ++ seat ∷ [])) ≡ suc first = omega (arith, length-append front (seat ∷ [])) in
        let later : map (seat_of all) (filter p (numbers_from (suc first) (length seats))) ≡ picked p (suc first) seats =
        ap (λ k. map (seat_of all) (filter p (numbers_from k (length seats)))) (sym count)
        ∙ (ap (λ xs. map (seat_of xs) (filter p (numbers_from (suc (length (front ++ seat ∷ []))) (length seats)))) (sym (append_assoc front (seat ∷ []) seats))
        ∙ (picks p (front ++ seat ∷ []) seats ∙ ap (λ k. picked p k seats) count)) in
        map_kept (seat_of all) first (filter p (numbers_from (suc first) (length seats))) (p first)
        ∙ (ap (λ s. cond (p first) (s ∷ map (seat_of all) (filter p (numbers_from (suc first) (length seats)))) (map (seat_of all) (filter p (numbers_from (suc first) (length seats))))) (seat_behind front seat seats)
        ∙ ap (λ rest. cond (p first) (seat ∷ rest) rest) later)

    -- what holds of all seats holds of those that are kept
    picked_all : (P : ℕ → Type 0) (p : ℕ → Bool) (first : ℕ) (seats : List ℕ) → AllByRecursion P seats → AllByRecursion P (picked p first seats)
    unfolding picked
    picked_all P p first [] h = tt
    picked_all P p first (seat ∷ seats) h =
        let later = picked_all P p (suc first) seats h.1 in
        cond_both (p first) (seat ∷ picked p (suc first) seats) (picked p (suc first) seats) (AllByRecursion P) (λ e. (h.0, later)) (λ e. later)

    picked_ranked : (p : ℕ → Bool) (first : ℕ) (seats lower : List ℕ) → AreRanked facts (seats ++ lower) → AreRanked facts (picked p first seats ++ lower)
    unfolding picked
    picked_ranked p first [] lower h = h
    picked_ranked p first (seat ∷ seats) lower h =
        let later = picked_ranked p (suc first) seats lower h.2 in
        cond_both (p first) (seat ∷ picked p (suc first) seats) (picked p (suc first) seats) (λ (xs : List ℕ). AreRanked facts (xs ++ lower))
        (λ e. (
          h.0,
          all_join (λ b. seat < b) (picked p (suc first) seats) lower
              (picked_all (λ b. seat < b) p (suc first) seats (all_front (λ b. seat < b) seats lower h.1)) (all-behind (λ b. seat < b) seats lower h.1),
          later,
        )) (λ e. later)

    -- those left over go on above the lower seats
    pub left_go_on : (number : ℕ) (kind : BracketKind) (md residents lower : List ℕ) (lists : Arrangement) → Goes facts md (residents ++ lower)
        → AreAbove facts residents lower → Goes facts (downfloaters facts (bracket number kind md residents) lists) lower
    left_go_on number kind md residents lower lists goes above =
        let seats = md ++ residents in
        let p : ℕ → Bool = λ x. not (is_member x (paired lists)) in
        let count : length (map (score_at facts) seats) ≡ length seats = length-map seats (score_at facts) in
        let same : downfloaters facts (bracket number kind md residents) lists ≡ picked p 1 seats =
        ap (λ n. map (seat_of seats) (filter p (numbers_from 1 n))) count ∙ picks p [] seats in
        let all : AreAbove facts seats lower =
        all_join (λ a. AllByRecursion (λ b. score_at facts b < score_at facts a) lower) md residents (above_back md residents lower goes.above) above in
        subst (λ left. Goes facts left lower) (sym same) (record {
          ranked = picked_ranked p 1 seats lower (whole md residents lower goes);
          above = picked_all (λ a. AllByRecursion (λ b. score_at facts b < score_at facts a) lower) p 1 seats all;
          front = goes.front ++ residents;
          all = goes.all ∙ sym (append_assoc goes.front residents lower);
          high = all_join (λ a. AllByRecursion (λ b. score_at facts b < score_at facts a) lower) goes.front residents (above_back goes.front residents lower goes.high) above;
        })
