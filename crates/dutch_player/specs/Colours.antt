-- Who gets which colour (C.04.3 E).
use Rattle.std.specs.Prelude.{ℕ, ◌+◌, ◌-◌, ◌%◌, Bool, ◌&&◌, ◌||◌, ◌==◌, nat_lt, if◌then◌else◌, List, [], ◌∷◌, Option, Some, None}
use Rattle.trf16_report.specs.declared.cell.Colour.{Colour}
use Rattle.trf16_report.specs.declared.cell.Colour.TheVariants.{White, Black}
use Rattle.dutch_player.specs.declared.preference.Strength.{Strength}
use Rattle.dutch_player.specs.declared.preference.Strength.TheVariants.{Absolute, Strong, Mild}
use Rattle.dutch_player.specs.declared.preference.Pref.{Pref}
use Rattle.dutch_player.specs.declared.colour_rule.ColourRule.{ColourRule}
use Rattle.dutch_player.specs.declared.colour_rule.ColourRule.TheVariants.{BothPreferences, StrongerPreference, Alternation, HigherRank, InitialColour}
use Rattle.dutch_player.specs.declared.colours.Decision.{Decision}
use Rattle.dutch_player.specs.Preferences.{other, is_same, whites, blacks, preference}
use Rattle.dutch_player.specs.Meetings.{is_absolute}
use Rattle.dutch_player.specs.Facts.{SeatFacts, Facts, seat_at}

-- absolute is stronger than strong, and strong than mild
abbrev pub grade : Strength → ℕ
grade Absolute = 2
grade Strong = 1
grade Mild = 0

-- how far a colour difference is from 0
abbrev pub distance : List Colour → ℕ
distance played = (whites played - blacks played) + (blacks played - whites played)

-- a preference is stronger than another: absolute than strong, and strong than mild; of two absolute ones that of the player whose
-- colour difference is further from 0 [E.2]
abbrev pub is_stronger : Pref → List Colour → Pref → List Colour → Bool
is_stronger mine played theirs their_played =
    nat_lt (grade theirs.strength) (grade mine.strength)
    || (is_absolute mine.strength && is_absolute theirs.strength && nat_lt (distance their_played) (distance played))

-- seen from the last game back, at the first place where one had white and the other black, each gets the other colour [E.3]
abbrev pub alternate_colour : List Colour → List Colour → Option Colour
alternate_colour [] theirs = None
alternate_colour (mine ∷ before) [] = None
alternate_colour (mine ∷ before) (theirs ∷ their_before) = if is_same mine theirs then alternate_colour before their_before else Some (other mine)

-- how the colours of two are decided: the first rule that decides, and the colour that the higher ranked of them gets by it
abbrev pub by : ColourRule → Colour → Decision
by rule colour = record { rule = rule; colour = colour }

-- E.3: the colours alternate, if there is a game from which they can; else E.4: the higher ranked gets what they want
abbrev pub by_history : Option Colour → Colour → Decision
by_history (Some alternate) wanted = by Alternation alternate
by_history None wanted = by HigherRank wanted

-- the decision where both prefer the same colour: the stronger preference is granted, else the colours alternate, else the higher ranked
-- player's is granted [E.2 to E.4]
abbrev pub by_strength : List Colour → List Colour → Pref → Pref → Decision
by_strength high low wanted theirs =
    if is_stronger wanted high theirs low then by StrongerPreference wanted.colour
    else (if is_stronger theirs low wanted high then by StrongerPreference (other wanted.colour)
    else by_history (alternate_colour high low) wanted.colour)

-- the colour of the higher ranked where nobody has a preference: the initial colour if their start rank is odd, else the other one [E.5]
abbrev pub by_start : Colour → ℕ → Colour
by_start initial start = if start % 2 == 1 then initial else other initial

-- two preferences that are not for the same colour are both granted, and so is one alone; else `by_strength` or `by_start` decides [with
-- decision_between]
abbrev pub by_preferences : Colour → SeatFacts → SeatFacts → Option Pref → Option Pref → Decision
by_preferences initial high low (Some wanted) (Some theirs) =
    if is_same wanted.colour theirs.colour then by_strength high.played low.played wanted theirs else by BothPreferences wanted.colour
by_preferences initial high low (Some wanted) None = by BothPreferences wanted.colour
by_preferences initial high low None (Some theirs) = by BothPreferences (other theirs.colour)
by_preferences initial high low None None = by InitialColour (by_start initial high.start)

-- the colour that the higher ranked gets by them
abbrev pub granted : Colour → SeatFacts → SeatFacts → Option Pref → Option Pref → Colour
granted initial high low wanted theirs = (by_preferences initial high low wanted theirs).colour

-- the first rule that decides the colours of two, and the colour that the higher ranked, who comes first, gets by it [E]
abbrev pub decision_between : Colour → SeatFacts → SeatFacts → Decision
decision_between initial high low = by_preferences initial high low (preference high.played) (preference low.played)

-- the same of two seats
abbrev pub decision_of : Facts → ℕ → ℕ → Decision
decision_of facts high low = decision_between facts.initial (seat_at facts high) (seat_at facts low)

-- E: the colour that the higher ranked of two gets
abbrev pub colour_of_higher : Facts → ℕ → ℕ → Colour
colour_of_higher facts high low = (decision_of facts high low).colour

-- who has white, and who has black, if the first gets the given colour
abbrev pub with_colour : ℕ → ℕ → Colour → ℕ × ℕ
with_colour a b White = (a, b)
with_colour a b Black = (b, a)

-- the seat with white and the seat with black by that decision, of two in any order; the smaller seat ranks higher [E]
abbrev pub colours : Facts → ℕ → ℕ → ℕ × ℕ
colours facts a b = if nat_lt a b then with_colour a b (colour_of_higher facts a b) else with_colour b a (colour_of_higher facts b a)

-- the rule of that decision, E.1 to E.5, of two in any order [E]
abbrev pub colour_rule : Facts → ℕ → ℕ → ColourRule
colour_rule facts a b = if nat_lt a b then (decision_of facts a b).rule else (decision_of facts b a).rule
