-- Whom an item counts: as many as it says, and never more than a bracket has players.
use Rattle.std.specs.Prelude.{if◌then◌else◌}
use Rattle.std.proofs.Common.{◌≡◌, ℕ, ◌+◌, ◌*◌, ◌<◌, ◌≤◌, Bool, true, false, List, [], ◌∷◌, ◌++◌, map, filter, drop, get_or, length, refl, ap, sym, ◌∙◌, arith, length-append}
use Rattle.std.proofs.lemmas.List.{drop_more, length-map, length-reverse, map-append}
use Rattle.std.proofs.lemmas.List.Elements.{filter-append}
use Rattle.std.proofs.lemmas.List.Sums.{sum_by-cons}
use Rattle.trf16_report.specs.declared.cell.Colour.{Colour}
use Rattle.trf16_report.specs.declared.cell.Colour.TheVariants.{White, Black}
use Rattle.dutch_arrangements.specs.Prelude.{Arrangement, Frame, is_member, numbers_from, Candidate}
use Rattle.dutch_arrangements.specs.declared.bracket.Shape.{Shape}
use Rattle.dutch_sequence.specs.declared.numbers.TheConstants.{LIMIT}
use Rattle.dutch_sequence.proofs.Members.{climbs-filter, filter-length, length-numbers}
use Rattle.dutch_player.specs.declared.float.Float.{Float}
use Rattle.dutch_player.specs.Prelude.{SeatFacts, Facts, seat_at, colours}
use Rattle.dutch_bracket.specs.declared.item.Item.{Item}
use Rattle.dutch_bracket.specs.declared.item.Item.TheVariants.{Psd, NextBracket, WideDifferences, ThirdColours, MissedPreferences, MissedStrong, DownAgain, UpAgain, DownAgainBefore, UpAgainBefore, DownAgainBy, UpAgainBy, DownAgainBeforeBy, UpAgainBeforeBy}
use Rattle.dutch_bracket.specs.declared.colours_missed.Miss.TheVariants.{Wide, Third, Preference, StrongPreference}
use Rattle.dutch_bracket.specs.declared.seated.Floater.{Floater}
use Rattle.dutch_bracket.specs.Prelude.{by_rank, counted, only_if, players_counted, seats_of, those_in, those_in_pairs, those_of_both, those_with_topscorers, who_counts, IsOfBracket, quality, again, count_in, count_in_pairs, count_of_both, float_of, has_topscorer, highest_first, is_float, misses, one_if, placed_all, quality_with, Reached, IsOf, frame_of, Seated, all_pairs, by_seats, pairs_of}
use Rattle.dutch_bracket.proofs.ArrangementParts.{parts_of}
use Rattle.dutch_bracket.proofs.CandidateSeats.{length_pairs}
use Rattle.dutch_bracket.proofs.Places.{length_placed_all, placed_all_append}

-- of those who move, the ones behind others
pub seats_again : (facts : Facts) (float : Float) (back : ℕ) (xs ys : List Floater)
    → placed_all (highest_first (seats_of (again facts float back xs))) (seats_of (again facts float back ys)) ≡ highest_first (seats_of (again facts float back (xs ++ ys)))
seats_again facts float back xs ys =
    let seat : Floater → ℕ = λ floater. floater.seat in
    let test : Floater → Bool = λ floater. is_float float (float_of facts back floater.seat) in
    sym (ap (λ floaters. highest_first (map seat floaters)) (filter-append test xs ys)
    ∙ ap highest_first (map-append seat (filter test xs) (filter test ys)) ∙ placed_all_append [] (map seat (filter test xs)) (map seat (filter test ys)))

-- ---- one pair more

module _ (facts : Facts) (holds : SeatFacts → Colour → Bool) (pairs : List (ℕ × ℕ)) (front : List ℕ) where
  pub pair_put : (after : List ℕ) (i : ℕ) (d : ℕ × ℕ) → i < length pairs → after ≡ placed_all front (those_in facts holds (get_or pairs i d))
      → placed_all front (those_in_pairs facts holds (drop i pairs)) ≡ placed_all after (those_in_pairs facts holds (drop (i + 1) pairs))
  pair_put after i d lt made =
      ap (λ (rest : List (ℕ × ℕ)). placed_all front (those_in_pairs facts holds rest)) (drop_more pairs i d lt)
      ∙ placed_all_append front (those_in facts holds (get_or pairs i d)) (those_in_pairs facts holds (drop (i + 1) pairs))
      ∙ ap (λ (seats : List ℕ). placed_all seats (those_in_pairs facts holds (drop (i + 1) pairs))) (sym made)

  one_more_at : (t : Bool) (pair : ℕ × ℕ) (rest : List (ℕ × ℕ)) (after : List ℕ) → after ≡ placed_all front (if t then those_in facts holds pair else [])
      → placed_all front (those_in_pairs facts holds (if t then pair ∷ rest else rest)) ≡ placed_all after (those_in_pairs facts holds rest)
  one_more_at true pair rest after made =
      placed_all_append front (those_in facts holds pair) (those_in_pairs facts holds rest) ∙ ap (λ (seats : List ℕ). placed_all seats (those_in_pairs facts holds rest)) (sym made)
  one_more_at false pair rest after made = ap (λ (seats : List ℕ). placed_all seats (those_in_pairs facts holds rest)) (sym made)

  pub topscorers_put : (after : List ℕ) (i : ℕ) (d : ℕ × ℕ) → i < length pairs
      → after ≡ placed_all front (if has_topscorer facts (get_or pairs i d) then those_in facts holds (get_or pairs i d) else [])
      → placed_all front (those_with_topscorers facts holds (drop i pairs)) ≡ placed_all after (those_with_topscorers facts holds (drop (i + 1) pairs))
  topscorers_put after i d lt made =
      ap (λ (rest : List (ℕ × ℕ)). placed_all front (those_with_topscorers facts holds rest)) (drop_more pairs i d lt)
      ∙ one_more_at (has_topscorer facts (get_or pairs i d)) (get_or pairs i d) (filter (has_topscorer facts) (drop (i + 1) pairs)) after made

-- the pairs of a candidate have twice as many players, who are the bracket's
pub pairs_few : (facts : Facts) (reached : Reached) (candidate : Candidate) (seated : Seated) → IsOf facts reached → IsOfBracket facts reached candidate → seated ≡ by_seats facts reached.seats candidate
    → 2 * length seated.pairs ≤ LIMIT
pairs_few facts reached candidate seated of' of_bracket e =
    let frame : Frame = frame_of facts reached in
    let shape : Shape = of_bracket.lists.0 in
    let a : Arrangement = candidate.lists in
    let q = reached.mdps in
    let n = length frame.scores in
    let inside : q ≤ n = of'.sound.within in
    let parts = parts_of frame shape a inside of_bracket.lists.1 in
    let found : length (filter (λ x. is_member x a.s1) (numbers_from 1 q)) ≡ length a.s1 = ap length (climbs-filter 1 q a.s1 parts.s1) in
    let shared = filter-length (λ x. is_member x a.s1) (numbers_from 1 q) in
    let all : length (numbers_from 1 q) ≡ q = length-numbers 1 q in
    let few : n ≤ LIMIT = of'.sound.few in
    let same : length seated.pairs ≡ length (all_pairs reached.seats a) = ap (λ (c : Seated). length c.pairs) e in
    let first : length (pairs_of reached.seats a.s1 a.s2) ≤ length a.s1 = length_pairs reached.seats a.s1 a.s2 in
    let second : length (pairs_of reached.seats a.s1r a.s2r) ≤ length a.s1r = length_pairs reached.seats a.s1r a.s2r in
    let both : length (all_pairs reached.seats a) ≡ length (pairs_of reached.seats a.s1 a.s2) + length (pairs_of reached.seats a.s1r a.s2r) =
    length-append (pairs_of reached.seats a.s1 a.s2) (pairs_of reached.seats a.s1r a.s2r) in
    omega (arith, found, shared, all, few, same, first, second, both, inside, parts.left, parts.s1_count, parts.s1r_count)

-- ---- as many as the item says

only_one : (holds : Bool) (seat : ℕ) → length (only_if holds seat) ≡ one_if holds
only_one true seat = refl
only_one false seat = refl

length_by_rank : (seats : List ℕ) → length (by_rank seats) ≡ length seats
length_by_rank seats = let placed = length_placed_all [] seats in length-reverse (highest_first seats) ∙ (let e : length (highest_first seats) ≡ length seats = omega (arith, placed) in e)

module _ (facts : Facts) (holds : SeatFacts → Colour → Bool) where
  as_many_of_both : (both : ℕ × ℕ) → length (those_of_both facts holds both) ≡ count_of_both facts holds both
  as_many_of_both both =
      let white = holds (seat_at facts both.0) White in
      let black = holds (seat_at facts both.1) Black in
      omega (arith, length-append (only_if white both.0) (only_if black both.1), only_one white both.0, only_one black both.1)

  as_many_in : (pair : ℕ × ℕ) → length (those_in facts holds pair) ≡ count_in facts holds pair
  unfolding those_in count_in
  as_many_in pair = as_many_of_both (colours facts pair.0 pair.1)

  as_many_in_pairs : (pairs : List (ℕ × ℕ)) → length (those_in_pairs facts holds pairs) ≡ count_in_pairs facts holds pairs
  as_many_in_pairs [] = refl
  as_many_in_pairs (pair ∷ pairs) =
      let one = as_many_in pair in
      let more = as_many_in_pairs pairs in
      let both : length (those_in_pairs facts holds (pair ∷ pairs)) ≡ length (those_in facts holds pair) + length (those_in_pairs facts holds pairs) =
      length-append (those_in facts holds pair) (those_in_pairs facts holds pairs) in
      omega (arith, one, more, both, sum_by-cons (count_in facts holds) pair pairs)

length_seats : (floaters : List Floater) → length (seats_of floaters) ≡ length floaters
length_seats floaters = length-map floaters (λ floater. floater.seat)

pub as_many_count : (facts : Facts) (reached : Reached) (next : List ℕ) (candidate : Candidate) (item : Item)
    → length (who_counts facts reached candidate item) ≡ players_counted item (quality facts reached next candidate)
unfolding quality quality_with
as_many_count facts reached next candidate item = length_by_rank (counted facts (by_seats facts reached.seats candidate) item) ∙ as_many item where
  as_many : (item : Item) → length (counted facts (by_seats facts reached.seats candidate) item) ≡ players_counted item (quality facts reached next candidate)
  as_many Psd = refl
  as_many NextBracket = refl
  as_many WideDifferences = as_many_in_pairs facts (misses Wide) (filter (has_topscorer facts) (all_pairs reached.seats candidate.lists))
  as_many ThirdColours = as_many_in_pairs facts (misses Third) (filter (has_topscorer facts) (all_pairs reached.seats candidate.lists))
  as_many MissedPreferences = as_many_in_pairs facts (misses Preference) (all_pairs reached.seats candidate.lists)
  as_many MissedStrong = as_many_in_pairs facts (misses StrongPreference) (all_pairs reached.seats candidate.lists)
  as_many DownAgain = length_seats _
  as_many UpAgain = length_seats _
  as_many DownAgainBefore = length_seats _
  as_many UpAgainBefore = length_seats _
  as_many DownAgainBy = refl
  as_many UpAgainBy = refl
  as_many DownAgainBeforeBy = refl
  as_many UpAgainBeforeBy = refl
