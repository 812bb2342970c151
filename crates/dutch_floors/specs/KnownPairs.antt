-- What some pairs add up to (C.04.3 C.8 to C.11), as floors keep it from one question to the next.
use Rattle.std.specs.Prelude.{◌≡◌, ℕ, ◌+◌, ◌-◌, ◌*◌, ◌≤◌, false, true, List, ◌++◌, length, filter, map, sum_by}
use Rattle.std.specs.List.{zip}
use Rattle.dutch_arrangements.specs.Prelude.{Arrangement}
use Rattle.dutch_floors.specs.Behind.{Basis}
use Rattle.trf16_report.specs.declared.cell.Colour.TheVariants.{White, Black}
use Rattle.dutch_sequence.specs.declared.numbers.TheConstants.{LIMIT}
use Rattle.dutch_player.specs.Prelude.{Facts}
use Rattle.dutch_bracket.specs.declared.colours_missed.Miss.TheVariants.{Wide, Third, Preference, StrongPreference}
use Rattle.dutch_bracket.specs.Prelude.{count_in_pairs, count_with_topscorers, in_both, is_uneven, misses, seat_of}
use Rattle.dutch_floors.specs.FloorOf.{wanting}
use Rattle.dutch_floors.specs.declared.known_pairs.KnownPairs.{KnownPairs}
use Rattle.dutch_floors.specs.declared.known_pairs.PairSums.{PairSums}

-- what pairs add up to: how many of their players want each colour, and want it firmly, how many miss so, and how many pairs have players
-- with different scores [with AreKnown]
pub record AreSums (facts : Facts) (pairs : List (ℕ × ℕ)) (sums : PairSums) : Type 0 where
  pub white : sums.white ≡ sum_by (in_both (wanting false facts White)) pairs
  pub black : sums.black ≡ sum_by (in_both (wanting false facts Black)) pairs
  pub firm_white : sums.firm_white ≡ sum_by (in_both (wanting true facts White)) pairs
  pub firm_black : sums.firm_black ≡ sum_by (in_both (wanting true facts Black)) pairs
  pub missed : sums.missed ≡ count_in_pairs facts (misses Preference) pairs
  pub strong : sums.strong ≡ count_in_pairs facts (misses StrongPreference) pairs
  pub wide : sums.wide ≡ count_with_topscorers facts (misses Wide) pairs
  pub third : sums.third ≡ count_with_topscorers facts (misses Third) pairs
  pub uneven : sums.uneven ≡ length (filter (is_uneven facts) pairs)

-- no sum is more than that of as many pairs as there can be
pub record AreFew (sums : PairSums) : Type 0 where
  pub white : sums.white ≤ 2 * LIMIT
  pub black : sums.black ≤ 2 * LIMIT
  pub firm_white : sums.firm_white ≤ 2 * LIMIT
  pub firm_black : sums.firm_black ≤ 2 * LIMIT
  pub missed : sums.missed ≤ 2 * LIMIT
  pub strong : sums.strong ≤ 2 * LIMIT
  pub wide : sums.wide ≤ 2 * LIMIT
  pub third : sums.third ≤ 2 * LIMIT
  pub uneven : sums.uneven ≤ 2 * LIMIT

-- the sums of two lists of pairs together
abbrev pub plus : PairSums → PairSums → PairSums
plus sums more = record {
  white = sums.white + more.white;
  black = sums.black + more.black;
  firm_white = sums.firm_white + more.firm_white;
  firm_black = sums.firm_black + more.firm_black;
  missed = sums.missed + more.missed;
  strong = sums.strong + more.strong;
  wide = sums.wide + more.wide;
  third = sums.third + more.third;
  uneven = sums.uneven + more.uneven;
}

-- the sums of a list of pairs without those of a part of it
abbrev pub minus : PairSums → PairSums → PairSums
minus sums less = record {
  white = sums.white - less.white;
  black = sums.black - less.black;
  firm_white = sums.firm_white - less.firm_white;
  firm_black = sums.firm_black - less.firm_black;
  missed = sums.missed - less.missed;
  strong = sums.strong - less.strong;
  wide = sums.wide - less.wide;
  third = sums.third - less.third;
  uneven = sums.uneven - less.uneven;
}

-- the pairs of lists by number: S1 with S2, then S1R with S2R
abbrev pub number_pairs : Arrangement → List (ℕ × ℕ)
number_pairs lists = zip lists.s1 lists.s2 ++ zip lists.s1r lists.s2r

-- pairs of numbers by the seats of a bracket
abbrev pub by_seat : List ℕ → List (ℕ × ℕ) → List (ℕ × ℕ)
by_seat seats pairs = map (λ pair. (seat_of seats pair.0, seat_of seats pair.1)) pairs

-- what is kept of pairs of a bracket is what they add up to [own]
abbrev pub AreKnown : Basis → KnownPairs → Type 0
AreKnown basis known = AreSums basis.facts (by_seat basis.reached.seats known.pairs.items) known.sums
