-- C.04.3 C.10: how many players miss their preference at least. If both players of a pair want the same colour, one misses it, since one
-- has white and the other black. There are so many pairs to make, and so many downfloaters, who need no colour. If more free players than
-- these together want a colour, each further one misses it, whatever pairs are made.
use Rattle.std.proofs.Common.{ℕ, ◌+◌, ◌≤◌, Bool, true, false, not, nat_lt, if◌then◌else◌, List, [], ◌∷◌, length, Option, Some, None, sum_by, arith}
use Rattle.std.specs.List.{AllByRecursion}
use Rattle.std.specs.Option.{option_map_or}
use Rattle.trf16_report.specs.declared.cell.Colour.{Colour}
use Rattle.trf16_report.specs.declared.cell.Colour.TheVariants.{White, Black}
use Rattle.dutch_arrangements.specs.declared.bracket.Shape.{Shape}
use Rattle.dutch_arrangements.specs.Prelude.{IsIn, Arrangement, arrangements}
use Rattle.dutch_player.specs.declared.preference.Pref.{Pref}
use Rattle.dutch_player.specs.Prelude.{is_same, preference, with_colour, colour_of_higher, Facts, seat_at}
use Rattle.dutch_bracket.specs.declared.colours_missed.Miss.TheVariants.{Preference}
use Rattle.dutch_bracket.specs.Prelude.{all_pairs, Reached, frame_of, downfloaters, one_if, misses, count_of_both, count_in, count_in_pairs, in_both, seated_so, wants}
use Rattle.dutch_floors.specs.FloorOf.{more_in, surplus_in}
use Rattle.dutch_bracket.proofs.FixedPairs.{Beside, sum_beside}
use Rattle.dutch_floors.proofs.FreePlayers.{free_served}
use Rattle.dutch_floors.proofs.GrantedColours.{at_most_one}

-- 1 where a preference is for a colour
abbrev wanted : Colour → Option Pref → ℕ
wanted c p = one_if (option_map_or (λ wish. is_same wish.colour c) p false)

-- 1 where a colour is not that of a preference
abbrev missed : Option Pref → Colour → ℕ
missed p c = one_if (option_map_or (λ wish. not (is_same wish.colour c)) p false)

-- of two who want colours one gets white and one black
colours_served : (c d e : Colour) → one_if (is_same d c) + one_if (is_same e c) ≤ 1 + (one_if (not (is_same d White)) + one_if (not (is_same e Black)))
colours_served White White White = omega arith
colours_served White White Black = omega arith
colours_served White Black White = omega arith
colours_served White Black Black = omega arith
colours_served Black White White = omega arith
colours_served Black White Black = omega arith
colours_served Black Black White = omega arith
colours_served Black Black Black = omega arith

one_served : (c : Colour) (p q : Option Pref) → wanted c p + wanted c q ≤ 1 + (missed p White + missed q Black)
one_served c None None = omega arith
one_served c None (Some y) = omega (arith, at_most_one (is_same y.colour c))
one_served c (Some x) None = omega (arith, at_most_one (is_same x.colour c))
one_served c (Some x) (Some y) = colours_served c x.colour y.colour

-- whoever of two gets white
either_way : (facts : Facts) (c : Colour) (a b : ℕ) (granted : Colour)
    → wants facts c a + wants facts c b ≤ 1 + count_of_both facts (misses Preference) (with_colour a b granted)
either_way facts c a b White = one_served c (preference (seat_at facts a).played) (preference (seat_at facts b).played)
either_way facts c a b Black =
    omega (arith, one_served c (preference (seat_at facts b).played) (preference (seat_at facts a).played))

in_order : (facts : Facts) (c : Colour) (a b : ℕ) (first : Bool)
    → wants facts c a + wants facts c b
    ≤ 1 + count_of_both facts (misses Preference) (if first then with_colour a b (colour_of_higher facts a b) else with_colour b a (colour_of_higher facts b a))
in_order facts c a b true = either_way facts c a b (colour_of_higher facts a b)
in_order facts c a b false = omega (arith, either_way facts c b a (colour_of_higher facts b a))

pub pair_misses : (facts : Facts) (c : Colour) (pair : ℕ × ℕ) → in_both (wants facts c) pair ≤ 1 + count_in facts (misses Preference) pair
unfolding count_in
pair_misses facts c pair = in_order facts c pair.0 pair.1 (nat_lt pair.0 pair.1)

-- each pair of a list
each_misses : (facts : Facts) (c : Colour) (pairs : List (ℕ × ℕ)) → AllByRecursion (λ pair. in_both (wants facts c) pair ≤ 1 + count_in facts (misses Preference) pair) pairs
each_misses facts c [] = tt
each_misses facts c (pair ∷ pairs) = (pair_misses facts c pair, each_misses facts c pairs)

module _ (facts : Facts) (reached : Reached) (shape : Shape) (known : List (ℕ × ℕ)) (gone : List ℕ) (a : Arrangement) (within : reached.mdps ≤ length reached.seats) (m : IsIn a (arrangements (frame_of facts reached) shape))
    (others : Beside known (all_pairs reached.seats a)) (left : Beside gone (downfloaters facts reached a)) where
  served : (c : Colour) → surplus_in (wants facts c) reached shape (seated_so facts reached known gone) ≤ sum_by (count_in facts (misses Preference)) others.others
  served c =
      let least = free_served facts reached shape known a within m (wants facts c) (count_in facts (misses Preference))
      (λ seat. at_most_one (option_map_or (λ wish. is_same wish.colour c) (preference (seat_at facts seat).played) false)) gone others left
      (each_misses facts c others.others) in
      omega (arith, least)

  -- the pairs to come miss at least as many as there are free players too many
  pub more_miss : count_in_pairs facts (misses Preference) known + more_in false facts reached shape (seated_so facts reached known gone) ≤ count_in_pairs facts (misses Preference) (all_pairs reached.seats a)
  more_miss =
      omega (arith, served White, served Black, sum_beside (count_in facts (misses Preference)) known (all_pairs reached.seats a) others)
