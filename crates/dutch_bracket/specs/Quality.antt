-- The quality of a candidate (C.04.3 C.6 to C.19): the items by which candidates of one shape are compared, and which of two is better.
use Rattle.std.specs.Prelude.{ℕ, ◌+◌, Bool, true, false, not, ◌&&◌, ◌||◌, ◌==◌, nat_lt, if◌then◌else◌, List, [], ◌∷◌, ◌++◌, map, filter, length, sum_by, Option, Some, None}
use Rattle.std.specs.declared.cmp.Ordering.{Ordering}
use Rattle.std.specs.Ordering.{nat_cmp, on, then_cmp, flip_args, is_lt, is_ne}
use Rattle.std.specs.Cmp.Lexicographic.{slice_cmp}
use Rattle.std.specs.Option.{option_map_or}
use Rattle.trf16_report.specs.declared.cell.Colour.{Colour}
use Rattle.trf16_report.specs.declared.cell.Colour.TheVariants.{White, Black}
use Rattle.dutch_player.specs.declared.float.Float.{Float}
use Rattle.dutch_player.specs.declared.float.Float.TheVariants.{Up, Down}
use Rattle.dutch_player.specs.declared.preference.Strength.{Strength}
use Rattle.dutch_player.specs.declared.preference.Strength.TheVariants.{Absolute, Strong, Mild}
use Rattle.dutch_player.specs.Prelude.{is_same, last_two, preference, is_topscorer, distance, colours, SeatFacts, Facts, seat_at}
use Rattle.dutch_bracket.specs.declared.seated.Floater.{Floater}
use Rattle.dutch_bracket.specs.declared.item.Item.{Item}
use Rattle.dutch_bracket.specs.declared.item.Item.TheVariants.{Psd, NextBracket, WideDifferences, ThirdColours, MissedPreferences, MissedStrong, DownAgain, UpAgain, DownAgainBefore, UpAgainBefore, DownAgainBy, UpAgainBy, DownAgainBeforeBy, UpAgainBeforeBy}
use Rattle.dutch_bracket.specs.declared.colours_missed.Miss.{Miss}
use Rattle.dutch_bracket.specs.declared.colours_missed.Miss.TheVariants.{Wide, Third, Preference, StrongPreference}
use Rattle.dutch_bracket.specs.Seated.{Seated, difference, difference_down, going_down, going_up}

-- what the items say of a candidate [C.6 to C.19]
pub record Quality : Type 0 where
  -- the differences of pairs and downfloaters, the highest first [C.6]
  pub psd : List ℕ
  -- the most pairs of the next bracket, and in `next_psd` the least PSD with so many [C.7]
  pub next_pairs : ℕ
  -- the least PSD of the next bracket with so many pairs
  pub next_psd : List ℕ
  -- players in pairs with a topscorer who get a colour difference over +2 or under -2 [C.8]
  pub wide_differences : ℕ
  -- players in pairs with a topscorer who get the colour of their last two games again [C.9]
  pub third_colours : ℕ
  -- players in pairs who do not get the colour of their preference [C.10]
  pub missed_preferences : ℕ
  -- players in pairs who do not get the colour of a strong preference [C.11]
  pub missed_strong : ℕ
  -- players who go down and had a downfloat in the last round [C.12]
  pub down_again : ℕ
  -- players who go up and had an upfloat in the last round [C.13]
  pub up_again : ℕ
  -- players who go down and had a downfloat in the round before that [C.14]
  pub down_again_before : ℕ
  -- players who go up and had an upfloat in the round before that [C.15]
  pub up_again_before : ℕ
  -- the differences of the players of C.12, the highest first [C.16]
  pub down_again_by : List ℕ
  -- the differences of the players of C.13, the highest first [C.17]
  pub up_again_by : List ℕ
  -- the differences of the players of C.14, the highest first [C.18]
  pub down_again_before_by : List ℕ
  -- the differences of the players of C.15, the highest first [C.19]
  pub up_again_before_by : List ℕ

-- what the next bracket can be: its number of pairs and the least PSD for it [C.7]
pub record NextValue : Type 0 where
  pub pairs : ℕ
  pub psd : List ℕ

-- a number put behind all that are higher [with psd]
abbrev pub placed : ℕ → List ℕ → List ℕ
placed x [] = x ∷ []
placed x (y ∷ ys) = if nat_lt x y then y ∷ placed x ys else x ∷ y ∷ ys

-- numbers put one by one to their places among some that are there, the highest first [with psd]
abbrev pub placed_all : List ℕ → List ℕ → List ℕ
placed_all front [] = front
placed_all front (x ∷ rest) = placed_all (placed x front) rest

-- numbers in order, the highest first [with psd]
abbrev pub highest_first : List ℕ → List ℕ
highest_first numbers = placed_all [] numbers

-- the differences of all pairs and all downfloaters, the highest first [C.6]
unfoldable pub psd : Facts → Seated → List ℕ
psd facts candidate =
    highest_first (map (difference facts) candidate.pairs ++ map (difference_down facts candidate.lowest) candidate.down)

-- with one colour more a player's own colour difference is over +2 or under -2 [C.8; own]
abbrev pub is_wide : SeatFacts → Colour → Bool
is_wide seat colour = nat_lt 2 (distance (colour ∷ seat.played))

-- a colour is that of the player's own last two games [C.9; own]
abbrev pub is_third : SeatFacts → Colour → Bool
is_third seat colour = option_map_or (is_same colour) (last_two seat.played) false

-- a colour is not that of the player's preference, of whatever strength [C.10; own]
abbrev pub is_missed : SeatFacts → Colour → Bool
is_missed seat colour = option_map_or (λ wanted. not (is_same wanted.colour colour)) (preference seat.played) false

-- A.6: a preference that is strong and not absolute
abbrev pub is_strong : Strength → Bool
is_strong Absolute = false
is_strong Strong = true
is_strong Mild = false

-- a colour is not that of a preference that is strong and not absolute [C.11; own]
abbrev pub is_strong_missed : SeatFacts → Colour → Bool
is_strong_missed seat colour =
    option_map_or (λ wanted. is_strong wanted.strength && not (is_same wanted.colour colour)) (preference seat.played) false

-- one of C.8 to C.11 counts a player who gets a colour [with count_in]
abbrev pub misses : Miss → SeatFacts → Colour → Bool
misses Wide = is_wide
misses Third = is_third
misses Preference = is_missed
misses StrongPreference = is_strong_missed

-- 1 for yes [with count_in]
abbrev pub one_if : Bool → ℕ
one_if true = 1
one_if false = 0

-- how many of the players with white and with black something holds of, with the colour that each gets
abbrev pub count_of_both : Facts → (SeatFacts → Colour → Bool) → ℕ × ℕ → ℕ
count_of_both facts holds both = one_if (holds (seat_at facts both.0) White) + one_if (holds (seat_at facts both.1) Black)

-- how many players of a pair something holds of, with the colour that each gets [C.8 to C.11, E]
unfoldable pub count_in : Facts → (SeatFacts → Colour → Bool) → ℕ × ℕ → ℕ
count_in facts holds pair = count_of_both facts holds (colours facts pair.0 pair.1)

-- one or both of a pair are topscorers [A.7, C.8, C.9]
abbrev pub has_topscorer : Facts → ℕ × ℕ → Bool
has_topscorer facts pair = is_topscorer facts (seat_at facts pair.0) || is_topscorer facts (seat_at facts pair.1)

-- how many players in pairs something holds of
abbrev pub count_in_pairs : Facts → (SeatFacts → Colour → Bool) → List (ℕ × ℕ) → ℕ
count_in_pairs facts holds pairs = sum_by (count_in facts holds) pairs

-- C.8, C.9: how many players in pairs with a topscorer something holds of
abbrev pub count_with_topscorers : Facts → (SeatFacts → Colour → Bool) → List (ℕ × ℕ) → ℕ
count_with_topscorers facts holds pairs = count_in_pairs facts holds (filter (has_topscorer facts) pairs)

-- an upfloat
abbrev pub is_up : Float → Bool
is_up Up = true
is_up Down = false

-- a downfloat
abbrev pub is_down : Float → Bool
is_down Up = false
is_down Down = true

-- the float of a round is this one [with float_of]
abbrev pub is_float : Float → Option Float → Bool
is_float Up float = option_map_or is_up float false
is_float Down float = option_map_or is_down float false

-- a seat's float in the last round (1) or in the one before it (2); before the first round there is none [A.4; own]
abbrev pub float_of : Facts → ℕ → ℕ → Option Float
float_of facts back seat = if back == 1 then (seat_at facts seat).latest else (seat_at facts seat).earlier

-- of those who move the ones who had this float in the round so far back [C.12 to C.15]
abbrev pub again : Facts → Float → ℕ → List Floater → List Floater
again facts float back floaters = filter (λ floater. is_float float (float_of facts back floater.seat)) floaters

-- the differences of some who move, the highest first [C.16 to C.19]
abbrev pub differences : List Floater → List ℕ
differences floaters = highest_first (map (λ floater. floater.by) floaters)

-- the items of a candidate, for a value of the next bracket [C.6 to C.19]
unfoldable pub quality_with : Facts → Seated → NextValue → Quality
quality_with facts candidate next = record {
  psd = psd facts candidate;
  next_pairs = next.pairs;
  next_psd = next.psd;
  wide_differences = count_with_topscorers facts (misses Wide) candidate.pairs;
  third_colours = count_with_topscorers facts (misses Third) candidate.pairs;
  missed_preferences = count_in_pairs facts (misses Preference) candidate.pairs;
  missed_strong = count_in_pairs facts (misses StrongPreference) candidate.pairs;
  down_again = length (again facts Down 1 (going_down facts candidate));
  up_again = length (again facts Up 1 (going_up facts candidate));
  down_again_before = length (again facts Down 2 (going_down facts candidate));
  up_again_before = length (again facts Up 2 (going_up facts candidate));
  down_again_by = differences (again facts Down 1 (going_down facts candidate));
  up_again_by = differences (again facts Up 1 (going_up facts candidate));
  down_again_before_by = differences (again facts Down 2 (going_down facts candidate));
  up_again_before_by = differences (again facts Up 2 (going_up facts candidate));
}

-- the items in the order in which they count
abbrev pub all_items : List Item
all_items =
    Psd ∷ NextBracket ∷ WideDifferences ∷ ThirdColours ∷ MissedPreferences ∷ MissedStrong ∷ DownAgain ∷ UpAgain ∷ DownAgainBefore ∷ UpAgainBefore
    ∷ DownAgainBy ∷ UpAgainBy ∷ DownAgainBeforeBy ∷ UpAgainBeforeBy ∷ []

-- by a number, the smaller one in front
abbrev pub by_number : (Quality → ℕ) → Quality → Quality → Ordering
by_number value = on value nat_cmp

-- by a list, the smaller one in front: by its first difference or where it ends
abbrev pub by_list : (Quality → List ℕ) → Quality → Quality → Ordering
by_list value = on value (slice_cmp nat_cmp)

-- how two qualities stand by one item: the smaller value is in front; of two lists the smaller at the first difference, or that ends there;
-- of C.7 the one with more pairs, and with as many pairs the smaller PSD [C.6 to C.19; own]
abbrev pub compared_in : Item → Quality → Quality → Ordering
compared_in Psd = by_list (λ q. q.psd)
compared_in NextBracket = then_cmp (on (λ q. q.next_pairs) (flip_args nat_cmp)) (by_list (λ q. q.next_psd))
compared_in WideDifferences = by_number (λ q. q.wide_differences)
compared_in ThirdColours = by_number (λ q. q.third_colours)
compared_in MissedPreferences = by_number (λ q. q.missed_preferences)
compared_in MissedStrong = by_number (λ q. q.missed_strong)
compared_in DownAgain = by_number (λ q. q.down_again)
compared_in UpAgain = by_number (λ q. q.up_again)
compared_in DownAgainBefore = by_number (λ q. q.down_again_before)
compared_in UpAgainBefore = by_number (λ q. q.up_again_before)
compared_in DownAgainBy = by_list (λ q. q.down_again_by)
compared_in UpAgainBy = by_list (λ q. q.up_again_by)
compared_in DownAgainBeforeBy = by_list (λ q. q.down_again_before_by)
compared_in UpAgainBeforeBy = by_list (λ q. q.up_again_before_by)

-- two qualities differ in an item
abbrev pub differs : Item → Quality → Quality → Bool
differs item a b = is_ne (compared_in item a b)

-- the first of some items in which two qualities differ
abbrev pub first_that_differs : List Item → Quality → Quality → Option Item
first_that_differs [] a b = None
first_that_differs (item ∷ items) a b = if differs item a b then Some item else first_that_differs items a b

-- the first of all items in which two qualities differ [C.6 to C.19]
abbrev pub first_difference : Quality → Quality → Option Item
first_difference = first_that_differs all_items

-- one quality is better than another: at the first item in which they differ it stands in front [C.6 to C.19]
unfoldable pub is_better : Quality → Quality → Bool
is_better a b = option_map_or (λ item. is_lt (compared_in item a b)) (first_difference a b) false
