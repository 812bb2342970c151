-- C.04.3 C.11: how many players miss a strong preference at least, if C.8 and C.9 are those of the beginning. If the players of a pair may
-- meet and both have a firm preference for the same colour, one misses a strong one, or the pair counts for C.8 or C.9. If more free
-- players have a firm preference for a colour than there are pairs to make and downfloaters, each further one misses a strong one.
use Rattle.std.proofs.Common.{◌≡◌, ℕ, ◌+◌, ◌≤◌, Bool, true, false, not, ◌&&◌, ◌||◌, nat_lt, cond, if◌then◌else◌, List, [], ◌∷◌, length, filter, Option, sum_by, refl, ap, ◌∙◌, arith}
use Rattle.std.specs.List.{AllByRecursion}
use Rattle.std.specs.Option.{option_map_or}
use Rattle.std.proofs.lemmas.Bool.{and_parts}
use Rattle.std.proofs.lemmas.List.Sums.{sum_by-cons}
use Rattle.trf16_report.specs.declared.cell.Colour.{Colour}
use Rattle.trf16_report.specs.declared.cell.Colour.TheVariants.{White, Black}
use Rattle.dutch_arrangements.specs.declared.bracket.Shape.{Shape}
use Rattle.dutch_arrangements.specs.Prelude.{IsIn, Arrangement}
use Rattle.dutch_player.specs.declared.preference.Pref.{Pref}
use Rattle.dutch_player.specs.Prelude.{is_same, preference, clash, have_met, are_apart, colours_allow, may_meet, with_colour, colour_of_higher, SeatFacts, Facts, seat_at}
use Rattle.dutch_bracket.specs.declared.colours_missed.Miss.TheVariants.{Wide, Third, StrongPreference}
use Rattle.dutch_bracket.specs.Prelude.{all_pairs, Reached, candidates_of, downfloaters, misses, count_of_both, count_in, has_topscorer, count_in_pairs, count_with_topscorers, in_both, seated_so, is_firm, wants_firmly, adds_top}
use Rattle.dutch_floors.specs.FloorOf.{more_in, surplus_in}
use Rattle.dutch_bracket.proofs.FixedPairs.{Beside, sum_beside}
use Rattle.dutch_floors.proofs.FreePlayers.{free_served}
use Rattle.dutch_floors.proofs.GrantedColours.{at_most_one, adds, firm_served}
use Rattle.dutch_bracket.proofs.LegalPairs.{legal_of, others_meet}
use Rattle.dutch_player.proofs.LawLemmas.{clash_comm}

-- the preference of a seat
abbrev wish_of : Facts → ℕ → Option Pref
wish_of facts seat = preference (seat_at facts seat).played

-- what two with these colours add to C.8 and C.9
abbrev top_counted : Facts → Bool → ℕ × ℕ → ℕ
top_counted facts top both = cond top (count_of_both facts (misses Wide) both + count_of_both facts (misses Third) both) 0

counted : (facts : Facts) (a b : ℕ) (top : Bool) (given : Colour)
    → adds (seat_at facts a) (seat_at facts b) (wish_of facts a) (wish_of facts b) top given
    ≡ count_of_both facts (misses StrongPreference) (with_colour a b given) + top_counted facts top (with_colour a b given)
counted facts a b true White = omega arith
counted facts a b true Black = omega arith
counted facts a b false White = omega arith
counted facts a b false Black = omega arith

higher_first : (facts : Facts) (c : Colour) (a b : ℕ) (top : Bool) → (top || not (clash (wish_of facts a) (wish_of facts b))) ≡ true
    → wants_firmly facts c a + wants_firmly facts c b
    ≤ 1 + (count_of_both facts (misses StrongPreference) (with_colour a b (colour_of_higher facts a b)) + top_counted facts top (with_colour a b (colour_of_higher facts a b)))
higher_first facts c a b top allowed =
    omega (
      arith,
      firm_served facts.initial c (seat_at facts a) (seat_at facts b) (wish_of facts a) (wish_of facts b) top refl refl allowed,
      counted facts a b top (colour_of_higher facts a b),
    )

-- who gets white and who black, where it is known which of two ranks higher
abbrev coloured : Facts → ℕ → ℕ → Bool → ℕ × ℕ
coloured facts a b first = if first then with_colour a b (colour_of_higher facts a b) else with_colour b a (colour_of_higher facts b a)

in_order : (facts : Facts) (c : Colour) (a b : ℕ) (top first : Bool) → (top || not (clash (wish_of facts a) (wish_of facts b))) ≡ true
    → wants_firmly facts c a + wants_firmly facts c b
    ≤ 1 + (count_of_both facts (misses StrongPreference) (coloured facts a b first) + top_counted facts top (coloured facts a b first))
in_order facts c a b top true allowed = higher_first facts c a b top allowed
in_order facts c a b top false allowed =
    omega (arith, higher_first facts c b a top (ap (λ t. top || not t) (clash_comm (wish_of facts b) (wish_of facts a)) ∙ allowed))

-- what a pair adds to C.8 and C.9 is what its two players do where one of them is a topscorer
added : (facts : Facts) (pair : ℕ × ℕ) (top : Bool)
    → sum_by (count_in facts (misses Wide)) (cond top (pair ∷ []) []) + sum_by (count_in facts (misses Third)) (cond top (pair ∷ []) [])
    ≡ cond top (count_in facts (misses Wide) pair + count_in facts (misses Third) pair) 0
added facts pair true = omega arith
added facts pair false = refl

pub pair_misses_firmly : (facts : Facts) (c : Colour) (a b : ℕ) → may_meet facts a b ≡ true
    → wants_firmly facts c a + wants_firmly facts c b ≤ 1 + count_in facts (misses StrongPreference) (a, b) + adds_top facts (a, b)
unfolding count_in
pair_misses_firmly facts c a b meet =
    let both = and_parts (not (have_met (seat_at facts a) (seat_at facts b) || are_apart (seat_at facts a) (seat_at facts b))) (colours_allow facts (seat_at facts a) (seat_at facts b)) meet in
    omega (arith, in_order facts c a b (has_topscorer facts (a, b)) (nat_lt a b) both.1, added facts (a, b) (has_topscorer facts (a, b)))

-- what a pair adds to C.11, and to C.8 and C.9
abbrev price : Facts → ℕ × ℕ → ℕ
price facts pair = count_in facts (misses StrongPreference) pair + adds_top facts pair

each_misses : (facts : Facts) (c : Colour) (pairs : List (ℕ × ℕ)) → AllByRecursion (λ pair. may_meet facts pair.0 pair.1 ≡ true) pairs
    → AllByRecursion (λ pair. in_both (wants_firmly facts c) pair ≤ 1 + price facts pair) pairs
each_misses facts c [] meet = tt
each_misses facts c (pair ∷ pairs) meet =
    (omega (arith, pair_misses_firmly facts c pair.0 pair.1 meet.0), each_misses facts c pairs meet.1)

-- what a list of pairs adds to C.8 or C.9 is what each of them adds
abbrev alone : Facts → (SeatFacts → Colour → Bool) → ℕ × ℕ → ℕ
alone facts holds pair = count_with_topscorers facts holds (pair ∷ [])

one_by_one_at : (facts : Facts) (holds : SeatFacts → Colour → Bool) (pair : ℕ × ℕ) (pairs : List (ℕ × ℕ)) (top : Bool)
    → sum_by (count_in facts holds) (cond top (pair ∷ filter (has_topscorer facts) pairs) (filter (has_topscorer facts) pairs))
    ≡ sum_by (count_in facts holds) (cond top (pair ∷ []) []) + count_with_topscorers facts holds pairs
one_by_one_at facts holds pair pairs true = omega (arith, sum_by-cons (count_in facts holds) pair (filter (has_topscorer facts) pairs))
one_by_one_at facts holds pair pairs false = omega arith

one_by_one : (facts : Facts) (holds : SeatFacts → Colour → Bool) (pairs : List (ℕ × ℕ)) → count_with_topscorers facts holds pairs ≡ sum_by (alone facts holds) pairs
one_by_one facts holds [] = refl
one_by_one facts holds (pair ∷ pairs) =
    omega (arith, one_by_one_at facts holds pair pairs (has_topscorer facts pair), sum_by-cons (alone facts holds) pair pairs, one_by_one facts holds pairs)

prices : (facts : Facts) (pairs : List (ℕ × ℕ)) → sum_by (price facts) pairs
    ≡ sum_by (count_in facts (misses StrongPreference)) pairs + (sum_by (alone facts (misses Wide)) pairs + sum_by (alone facts (misses Third)) pairs)
prices facts [] = refl
prices facts (pair ∷ pairs) =
    omega (
      arith,
      sum_by-cons (price facts) pair pairs,
      sum_by-cons (count_in facts (misses StrongPreference)) pair pairs,
      sum_by-cons (alone facts (misses Wide)) pair pairs,
      sum_by-cons (alone facts (misses Third)) pair pairs,
      prices facts pairs,
    )

module _ (facts : Facts) (reached : Reached) (shape : Shape) (known : List (ℕ × ℕ)) (gone : List ℕ) (a : Arrangement) (within : reached.mdps ≤ length reached.seats) (m : IsIn a (candidates_of facts reached shape))
    (others : Beside known (all_pairs reached.seats a)) (left : Beside gone (downfloaters facts reached a)) where
  served : (c : Colour) → surplus_in (wants_firmly facts c) reached shape (seated_so facts reached known gone) ≤ sum_by (price facts) others.others
  served c =
      let legal = legal_of facts reached shape a m in
      let least = free_served facts reached shape known a within legal.arranged (wants_firmly facts c) (price facts)
      (λ seat. at_most_one (option_map_or (λ wish. is_firm wish.strength && is_same wish.colour c) (preference (seat_at facts seat).played) false)) gone others left
      (each_misses facts c others.others (others_meet facts reached shape known a legal others)) in
      omega (arith, least)

  -- where the pairs to come add nothing to C.8 and C.9, they miss at least as many as there are free players too many
  pub more_miss_strongly : count_with_topscorers facts (misses Wide) (all_pairs reached.seats a) ≡ count_with_topscorers facts (misses Wide) known
      → count_with_topscorers facts (misses Third) (all_pairs reached.seats a) ≡ count_with_topscorers facts (misses Third) known
      → count_in_pairs facts (misses StrongPreference) known + more_in true facts reached shape (seated_so facts reached known gone) ≤ count_in_pairs facts (misses StrongPreference) (all_pairs reached.seats a)
  more_miss_strongly no_wider no_third =
      let all : List (ℕ × ℕ) = all_pairs reached.seats a in
      omega (
        arith,
        served White,
        served Black,
        no_wider,
        no_third,
        prices facts others.others,
        one_by_one facts (misses Wide) all,
        one_by_one facts (misses Wide) known,
        one_by_one facts (misses Third) all,
        one_by_one facts (misses Third) known,
        sum_beside (alone facts (misses Wide)) known all others,
        sum_beside (alone facts (misses Third)) known all others,
        sum_beside (count_in facts (misses StrongPreference)) known all others,
      )
