-- The items of a quality one by one (C.04.3 C.6 to C.19): how two qualities stand in each, and the players whom each counts.
use Rattle.std.specs.Prelude.{◌≡◌, ℕ, ◌<◌, Bool, true, false, List, [], ◌∷◌, ◌++◌, map, filter, flat_map, reverse}
use Rattle.std.specs.declared.cmp.Ordering.TheVariants.{Less, Equal}
use Rattle.trf16_report.specs.declared.cell.Colour.{Colour}
use Rattle.trf16_report.specs.declared.cell.Colour.TheVariants.{White, Black}
use Rattle.dutch_arrangements.specs.Prelude.{Candidate}
use Rattle.dutch_player.specs.declared.float.Float.TheVariants.{Up, Down}
use Rattle.dutch_player.specs.Prelude.{colours, SeatFacts, Facts, seat_at}
use Rattle.dutch_bracket.specs.declared.colours_missed.Miss.TheVariants.{Wide, Third, Preference, StrongPreference}
use Rattle.dutch_bracket.specs.declared.seated.Floater.{Floater}
use Rattle.dutch_bracket.specs.declared.item.Item.{Item}
use Rattle.dutch_bracket.specs.declared.item.Item.TheVariants.{Psd, NextBracket, WideDifferences, ThirdColours, MissedPreferences, MissedStrong, DownAgain, UpAgain, DownAgainBefore, UpAgainBefore, DownAgainBy, UpAgainBy, DownAgainBeforeBy, UpAgainBeforeBy}
use Rattle.dutch_bracket.specs.Quality.{Quality, again, compared_in, has_topscorer, highest_first, misses}
use Rattle.dutch_bracket.specs.Reached.{Reached}
use Rattle.dutch_bracket.specs.Seated.{Seated, by_seats, going_down, going_up}

-- the number of an item's article: C.6 to C.19
abbrev pub article : Item → ℕ
article Psd = 6
article NextBracket = 7
article WideDifferences = 8
article ThirdColours = 9
article MissedPreferences = 10
article MissedStrong = 11
article DownAgain = 12
article UpAgain = 13
article DownAgainBefore = 14
article UpAgainBefore = 15
article DownAgainBy = 16
article UpAgainBy = 17
article DownAgainBeforeBy = 18
article UpAgainBeforeBy = 19

-- two qualities have one value in an item [with first_difference]
abbrev pub AreSameIn : Item → Quality → Quality → Type 0
AreSameIn item a b = compared_in item a b ≡ Equal

-- one quality stands in front of another in an item [with compared_in]
abbrev pub IsInFrontIn : Item → Quality → Quality → Type 0
IsInFrontIn item a b = compared_in item a b ≡ Less

-- an item is the first in which two qualities differ: they do in it, and not in any that counts before it [with first_difference]
pub record DifferFirstIn (item : Item) (a b : Quality) : Type 0 where
  pub differ : ¬ AreSameIn item a b
  pub before : (other : Item) → article other < article item → AreSameIn other a b

-- a seat, if something holds
abbrev pub only_if : Bool → ℕ → List ℕ
only_if true seat = seat ∷ []
only_if false seat = []

-- those of the players with white and with black of whom something holds, with the colour that each gets
abbrev pub those_of_both : Facts → (SeatFacts → Colour → Bool) → ℕ × ℕ → List ℕ
those_of_both facts holds both = only_if (holds (seat_at facts both.0) White) both.0 ++ only_if (holds (seat_at facts both.1) Black) both.1

-- the players of a pair of whom something holds, with the colour that each gets (E)
unfoldable pub those_in : Facts → (SeatFacts → Colour → Bool) → ℕ × ℕ → List ℕ
those_in facts holds pair = those_of_both facts holds (colours facts pair.0 pair.1)

-- the players in pairs of whom something holds
abbrev pub those_in_pairs : Facts → (SeatFacts → Colour → Bool) → List (ℕ × ℕ) → List ℕ
those_in_pairs facts holds pairs = flat_map (those_in facts holds) pairs

-- C.8, C.9: the players in pairs with a topscorer of whom something holds
abbrev pub those_with_topscorers : Facts → (SeatFacts → Colour → Bool) → List (ℕ × ℕ) → List ℕ
those_with_topscorers facts holds pairs = those_in_pairs facts holds (filter (has_topscorer facts) pairs)

-- the seats of some who move
abbrev pub seats_of : List Floater → List ℕ
seats_of floaters = map (λ floater. floater.seat) floaters

-- the players of a candidate whom one of C.8 to C.15 counts; the other items count no players [C.8 to C.15, E]
abbrev pub counted : Facts → Seated → Item → List ℕ
counted facts candidate WideDifferences = those_with_topscorers facts (misses Wide) candidate.pairs
counted facts candidate ThirdColours = those_with_topscorers facts (misses Third) candidate.pairs
counted facts candidate MissedPreferences = those_in_pairs facts (misses Preference) candidate.pairs
counted facts candidate MissedStrong = those_in_pairs facts (misses StrongPreference) candidate.pairs
counted facts candidate DownAgain = seats_of (again facts Down 1 (going_down facts candidate))
counted facts candidate UpAgain = seats_of (again facts Up 1 (going_up facts candidate))
counted facts candidate DownAgainBefore = seats_of (again facts Down 2 (going_down facts candidate))
counted facts candidate UpAgainBefore = seats_of (again facts Up 2 (going_up facts candidate))
counted facts candidate item = []

-- seats by rank: the smallest number first
abbrev pub by_rank : List ℕ → List ℕ
by_rank seats = reverse (highest_first seats)

-- the players whom an item counts of a candidate of a bracket, by rank [with counted]
abbrev pub who_counts : Facts → Reached → Candidate → Item → List ℕ
who_counts facts reached candidate item = by_rank (counted facts (by_seats facts reached.seats candidate) item)

-- how many players an item says that it counts; the other items count no players [with counted]
abbrev pub players_counted : Item → Quality → ℕ
players_counted WideDifferences q = q.wide_differences
players_counted ThirdColours q = q.third_colours
players_counted MissedPreferences q = q.missed_preferences
players_counted MissedStrong q = q.missed_strong
players_counted DownAgain q = q.down_again
players_counted UpAgain q = q.up_again
players_counted DownAgainBefore q = q.down_again_before
players_counted UpAgainBefore q = q.up_again_before
players_counted item q = 0
