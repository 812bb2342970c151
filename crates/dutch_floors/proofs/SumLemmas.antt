-- What pairs add up to, with a pair more behind them, and with the last pair taken back (C.04.3 C.8 to C.11).
use Rattle.std.proofs.Common.{◌≡◌, ℕ, ◌+◌, ◌-◌, ◌*◌, ◌<◌, ◌≤◌, suc, Bool, true, false, cond, List, [], ◌∷◌, ◌++◌, length, filter, get_or, map, sum_by, take, refl, sym, ap, subst, ◌∙◌, arith, length-append}
use Rattle.std.specs.List.{zip}
use Rattle.std.proofs.Math.Seq.{take-suc}
use Rattle.std.proofs.lemmas.List.{get_or-append_right, get_or_append_left, length-map, map-append}
use Rattle.std.proofs.lemmas.Slice.Zip.{get_or-zip, length-zip}
use Rattle.dutch_arrangements.specs.Prelude.{Arrangement}
use Rattle.std.proofs.lemmas.List.Elements.{filter-append}
use Rattle.std.proofs.lemmas.List.Sums.{sum_by-append, sum_by-cons}
use Rattle.trf16_report.specs.declared.cell.Colour.{Colour}
use Rattle.trf16_report.specs.declared.cell.Colour.TheVariants.{White, Black}
use Rattle.dutch_sequence.specs.declared.numbers.TheConstants.{LIMIT}
use Rattle.dutch_player.specs.Prelude.{Facts, SeatFacts, colours, seat_at}
use Rattle.dutch_bracket.specs.declared.colours_missed.Miss.TheVariants.{Wide, Third, Preference, StrongPreference}
use Rattle.dutch_bracket.specs.declared.seated.Floater.{Floater}
use Rattle.dutch_player.specs.declared.float.Float.TheVariants.{Up, Down}
use Rattle.dutch_bracket.specs.Prelude.{again, count_in, count_with_topscorers, differences, floats_down, goes_down, goes_up, going_down, going_up, has_topscorer, in_both, is_uneven, misses, quality_with, seat_of, with_floats, HasFewPairs, Quality, Seated}
use Rattle.dutch_bracket.proofs.C08ToC19Fixed.{with_topscorers_add_up}
use Rattle.dutch_bracket.proofs.FixedPairs.{AddsUp}
use Rattle.dutch_floors.proofs.GrantedColours.{at_most_one}
use Rattle.dutch_floors.specs.FloorOf.{wanting}
use Rattle.dutch_floors.specs.KnownPairs.{AreFew, AreSums, by_seat, minus, number_pairs, plus}
use Rattle.dutch_floors.specs.declared.known_pairs.PairSums.{PairSums}

uneven_add_up : (facts : Facts) → AddsUp (λ pairs. length (filter (is_uneven facts) pairs))
uneven_add_up facts xs ys = ap length (filter-append (is_uneven facts) xs ys) ∙ length-append (filter (is_uneven facts) xs) (filter (is_uneven facts) ys)

module _ (facts : Facts) (pairs : List (ℕ × ℕ)) (pair : ℕ × ℕ) (more : PairSums) (one : AreSums facts (pair ∷ []) more) where
  -- a pair more behind them
  pub sums_more : (sums : PairSums) → AreSums facts pairs sums → AreSums facts (pairs ++ pair ∷ []) (plus sums more)
  sums_more sums are = record {
    white = omega (arith, are.white, one.white, sum_by-append (in_both (wanting false facts White)) pairs (pair ∷ []));
    black = omega (arith, are.black, one.black, sum_by-append (in_both (wanting false facts Black)) pairs (pair ∷ []));
    firm_white = omega (arith, are.firm_white, one.firm_white, sum_by-append (in_both (wanting true facts White)) pairs (pair ∷ []));
    firm_black = omega (arith, are.firm_black, one.firm_black, sum_by-append (in_both (wanting true facts Black)) pairs (pair ∷ []));
    missed = omega (arith, are.missed, one.missed, sum_by-append (count_in facts (misses Preference)) pairs (pair ∷ []));
    strong = omega (arith, are.strong, one.strong, sum_by-append (count_in facts (misses StrongPreference)) pairs (pair ∷ []));
    wide = omega (arith, are.wide, one.wide, with_topscorers_add_up facts (misses Wide) pairs (pair ∷ []));
    third = omega (arith, are.third, one.third, with_topscorers_add_up facts (misses Third) pairs (pair ∷ []));
    uneven = omega (arith, are.uneven, one.uneven, uneven_add_up facts pairs (pair ∷ []));
  }

  -- the last pair taken back
  pub sums_less : (sums : PairSums) → AreSums facts (pairs ++ pair ∷ []) sums → AreSums facts pairs (minus sums more)
  sums_less sums are = record {
    white = omega (arith, are.white, one.white, sum_by-append (in_both (wanting false facts White)) pairs (pair ∷ []));
    black = omega (arith, are.black, one.black, sum_by-append (in_both (wanting false facts Black)) pairs (pair ∷ []));
    firm_white = omega (arith, are.firm_white, one.firm_white, sum_by-append (in_both (wanting true facts White)) pairs (pair ∷ []));
    firm_black = omega (arith, are.firm_black, one.firm_black, sum_by-append (in_both (wanting true facts Black)) pairs (pair ∷ []));
    missed = omega (arith, are.missed, one.missed, sum_by-append (count_in facts (misses Preference)) pairs (pair ∷ []));
    strong = omega (arith, are.strong, one.strong, sum_by-append (count_in facts (misses StrongPreference)) pairs (pair ∷ []));
    wide = omega (arith, are.wide, one.wide, with_topscorers_add_up facts (misses Wide) pairs (pair ∷ []));
    third = omega (arith, are.third, one.third, with_topscorers_add_up facts (misses Third) pairs (pair ∷ []));
    uneven = omega (arith, are.uneven, one.uneven, uneven_add_up facts pairs (pair ∷ []));
  }

-- each counts two for a pair at most
wanting_few : (firm : Bool) (facts : Facts) (c : Colour) (seat : ℕ) → wanting firm facts c seat ≤ 1
wanting_few true facts c seat = at_most_one _
wanting_few false facts c seat = at_most_one _

both_few : (firm : Bool) (facts : Facts) (c : Colour) (pair : ℕ × ℕ) → in_both (wanting firm facts c) pair ≤ 2
both_few firm facts c pair = omega (arith, wanting_few firm facts c pair.0, wanting_few firm facts c pair.1)

count_few : (facts : Facts) (holds : SeatFacts → Colour → Bool) (pair : ℕ × ℕ) → count_in facts holds pair ≤ 2
unfolding count_in
count_few facts holds pair =
    let both = colours facts pair.0 pair.1 in omega (arith, at_most_one (holds (seat_at facts both.0) White), at_most_one (holds (seat_at facts both.1) Black))

sum_few : (f : ℕ × ℕ → ℕ) → ((pair : ℕ × ℕ) → f pair ≤ 2) → (pairs : List (ℕ × ℕ)) → sum_by f pairs ≤ 2 * length pairs
sum_few f few [] = omega arith
sum_few f few (pair ∷ pairs) = omega (arith, few pair, sum_few f few pairs, sum_by-cons f pair pairs)

found_few_at : (pair : ℕ × ℕ) (found pairs : List (ℕ × ℕ)) (t : Bool) → length found ≤ length pairs → length (cond t (pair ∷ found) found) ≤ length (pair ∷ pairs)
found_few_at pair found pairs true few = omega (arith, few)
found_few_at pair found pairs false few = omega (arith, few)

found_few : (test : ℕ × ℕ → Bool) (pairs : List (ℕ × ℕ)) → length (filter test pairs) ≤ length pairs
found_few test [] = omega arith
found_few test (pair ∷ pairs) = found_few_at pair (filter test pairs) pairs (test pair) (found_few test pairs)

with_topscorers_few : (facts : Facts) (holds : SeatFacts → Colour → Bool) (pairs : List (ℕ × ℕ)) → count_with_topscorers facts holds pairs ≤ 2 * length pairs
with_topscorers_few facts holds pairs =
    omega (arith, sum_few (count_in facts holds) (count_few facts holds) (filter (has_topscorer facts) pairs), found_few (has_topscorer facts) pairs)

pub few_sums : (facts : Facts) (pairs : List (ℕ × ℕ)) (sums : PairSums) → AreSums facts pairs sums → length pairs ≤ LIMIT → AreFew sums
few_sums facts pairs sums are few = record {
  white = omega (arith, few, are.white, sum_few (in_both (wanting false facts White)) (both_few false facts White) pairs);
  black = omega (arith, few, are.black, sum_few (in_both (wanting false facts Black)) (both_few false facts Black) pairs);
  firm_white = omega (arith, few, are.firm_white, sum_few (in_both (wanting true facts White)) (both_few true facts White) pairs);
  firm_black = omega (arith, few, are.firm_black, sum_few (in_both (wanting true facts Black)) (both_few true facts Black) pairs);
  missed = omega (arith, few, are.missed, sum_few (count_in facts (misses Preference)) (count_few facts (misses Preference)) pairs);
  strong = omega (arith, few, are.strong, sum_few (count_in facts (misses StrongPreference)) (count_few facts (misses StrongPreference)) pairs);
  wide = omega (arith, few, are.wide, with_topscorers_few facts (misses Wide) pairs);
  third = omega (arith, few, are.third, with_topscorers_few facts (misses Third) pairs);
  uneven = omega (arith, few, are.uneven, found_few (is_uneven facts) pairs);
}

-- nothing is found twice
found_at : (test : ℕ × ℕ → Bool) (pair : ℕ × ℕ) (found : List (ℕ × ℕ)) (t : Bool) → test pair ≡ t → filter test found ≡ found
    → filter test (cond t (pair ∷ found) found) ≡ cond t (pair ∷ found) found
found_at test pair found true e same = ap (λ t. cond t (pair ∷ filter test found) (filter test found)) e ∙ ap (λ pairs. pair ∷ pairs) same
found_at test pair found false e same = same

pub found_again : (test : ℕ × ℕ → Bool) (pairs : List (ℕ × ℕ)) → filter test (filter test pairs) ≡ filter test pairs
found_again test [] = refl
found_again test (pair ∷ pairs) = found_at test pair (filter test pairs) (test pair) refl (found_again test pairs)

-- a list of no pairs
pub none_found : (pairs : List (ℕ × ℕ)) → length pairs ≡ 0 → pairs ≡ []
none_found [] e = refl
none_found (pair ∷ pairs) e = absurd (omega (arith, e))

-- what floats in pairs alone floats in those whose players have different scores
floats_by : Facts → List Floater → List Floater → Quality → Quality
floats_by facts down up q = record q {
  down_again = length (again facts Down 1 down);
  up_again = length (again facts Up 1 up);
  down_again_before = length (again facts Down 2 down);
  up_again_before = length (again facts Up 2 up);
  down_again_by = differences (again facts Down 1 down);
  up_again_by = differences (again facts Up 1 up);
  down_again_before_by = differences (again facts Down 2 down);
  up_again_before_by = differences (again facts Up 2 up);
}

module _ (facts : Facts) (kept seated : Seated) (same : kept.pairs ≡ filter (is_uneven facts) seated.pairs) (none : kept.down ≡ []) (none' : seated.down ≡ []) where
  uneven_same : filter (is_uneven facts) kept.pairs ≡ filter (is_uneven facts) seated.pairs
  uneven_same = ap (filter (is_uneven facts)) same ∙ found_again (is_uneven facts) seated.pairs

  downs_same : going_down facts kept ≡ going_down facts seated
  unfolding going_down
  downs_same =
      let left : map (floats_down facts kept.lowest) kept.down ≡ map (floats_down facts seated.lowest) seated.down =
      ap (map (floats_down facts kept.lowest)) none ∙ sym (ap (map (floats_down facts seated.lowest)) none') in
      λ i. map (goes_down facts) (uneven_same i) ++ left i

  ups_same : going_up facts kept ≡ going_up facts seated
  unfolding going_up
  ups_same = ap (map (goes_up facts)) uneven_same

  pub floats_same : (q : Quality) → with_floats facts kept q ≡ with_floats facts seated q
  unfolding with_floats quality_with floats_by
  floats_same q = λ i. floats_by facts (downs_same i) (ups_same i) q

-- ---- the same of pairs by number

pub few_known : (facts : Facts) (seats : List ℕ) (pairs : List (ℕ × ℕ)) (sums : PairSums) → AreSums facts (by_seat seats pairs) sums → length pairs ≤ LIMIT → AreFew sums
few_known facts seats pairs sums are few =
    let at : ℕ × ℕ → ℕ × ℕ = λ pair. (seat_of seats pair.0, seat_of seats pair.1) in
    few_sums facts (by_seat seats pairs) sums are (omega (arith, few, length-map pairs at))

by_seat_more : (seats : List ℕ) (pairs more : List (ℕ × ℕ)) → by_seat seats (pairs ++ more) ≡ by_seat seats pairs ++ by_seat seats more
by_seat_more seats pairs more =
    let at : ℕ × ℕ → ℕ × ℕ = λ pair. (seat_of seats pair.0, seat_of seats pair.1) in map-append at pairs more

pub more_known : (facts : Facts) (seats : List ℕ) (pairs : List (ℕ × ℕ)) (pair : ℕ × ℕ) (sums more : PairSums) → AreSums facts (by_seat seats pairs) sums
    → AreSums facts (by_seat seats (pair ∷ [])) more → AreSums facts (by_seat seats (pairs ++ pair ∷ [])) (plus sums more)
more_known facts seats pairs pair sums more are one =
    subst (λ ps. AreSums facts ps (plus sums more)) (sym (by_seat_more seats pairs (pair ∷ [])))
    (sums_more facts (by_seat seats pairs) (seat_of seats pair.0, seat_of seats pair.1) more one sums are)

pub less_known : (facts : Facts) (seats : List ℕ) (pairs : List (ℕ × ℕ)) (pair : ℕ × ℕ) (sums less : PairSums) → AreSums facts (by_seat seats (pairs ++ pair ∷ [])) sums
    → AreSums facts (by_seat seats (pair ∷ [])) less → AreSums facts (by_seat seats pairs) (minus sums less)
less_known facts seats pairs pair sums less are one =
    sums_less facts (by_seat seats pairs) (seat_of seats pair.0, seat_of seats pair.1) less one sums
    (subst (λ ps. AreSums facts ps sums) (by_seat_more seats pairs (pair ∷ [])) are)

-- ---- the pairs of lists, place by place

pub pairs_count : (b : Arrangement) → HasFewPairs b → length (number_pairs b) ≡ length b.s2 + length b.s2r
pairs_count b few =
    omega (arith, length-append (zip b.s1 b.s2) (zip b.s1r b.s2r), length-zip b.s1 b.s2, length-zip b.s1r b.s2r, few.moved_down, few.residents)

pub nth_first : (b : Arrangement) (place : ℕ) → HasFewPairs b → place < length b.s2
    → ◌≡◌ {A = ℕ × ℕ} (get_or b.s1 place 0, get_or b.s2 place 0) (get_or (number_pairs b) place (0, 0))
nth_first b place few lt =
    sym (get_or_append_left (zip b.s1 b.s2) (zip b.s1r b.s2r) (0, 0) place (omega (arith, length-zip b.s1 b.s2, few.moved_down, lt))
    ∙ get_or-zip b.s1 b.s2 place (0, 0) (omega (arith, few.moved_down, lt)) lt)

pub nth_second : (b : Arrangement) (place : ℕ) → HasFewPairs b → length b.s2 ≤ place → place < length (number_pairs b)
    → ◌≡◌ {A = ℕ × ℕ} (get_or b.s1r (place - length b.s2) 0, get_or b.s2r (place - length b.s2) 0) (get_or (number_pairs b) place (0, 0))
nth_second b place few le lt =
    let count : length (zip b.s1 b.s2) ≡ length b.s2 = omega (arith, length-zip b.s1 b.s2, few.moved_down) in
    let within : place - length b.s2 < length b.s2r = omega (arith, le, lt, pairs_count b few) in
    sym (get_or-append_right (zip b.s1 b.s2) (zip b.s1r b.s2r) (length b.s2) place (0, 0) count le
    ∙ get_or-zip b.s1r b.s2r (place - length b.s2) (0, 0) (omega (arith, within, few.residents)) within)

pub front_more : (xs ys : List (ℕ × ℕ)) (place : ℕ) (pair : ℕ × ℕ) → place < length ys → xs ≡ take place ys → pair ≡ get_or ys place (0, 0) → xs ++ pair ∷ [] ≡ take (place + 1) ys
front_more xs ys place pair lt front at =
    let one : place + 1 ≡ suc place = omega arith in (λ i. front i ++ at i ∷ []) ∙ sym (ap (λ n. take n ys) one ∙ take-suc ys place (0, 0) lt)

pub take_more : (xs ys : List (ℕ × ℕ)) (place : ℕ) → place < length xs → place < length ys → take place xs ≡ take place ys → get_or xs place (0, 0) ≡ get_or ys place (0, 0)
    → take (place + 1) xs ≡ take (place + 1) ys
take_more xs ys place lt lt' front at =
    let one : place + 1 ≡ suc place = omega arith in
    ap (λ n. take n xs) one ∙ take-suc xs place (0, 0) lt ∙ front_more (take place xs) ys place (get_or xs place (0, 0)) lt' front at
