-- What holds of every field (C.04.3 A.6, C.1, C.3, E).
use Rattle.std.specs.Prelude.{◌≡◌, ℕ, ◌+◌, ◌<◌, ◌≤◌, true, false, nat_eq, List, map, All, Contains, Option, Some, None}
use Rattle.std.specs.List.{IsDistinct}
use Rattle.trf16_report.specs.Prelude.{Sheet, known, rounds_played, absent}
use Rattle.trf16_report.specs.declared.cell.Colour.{Colour}
use Rattle.dutch_player.specs.declared.colour_rule.ColourRule.TheVariants.{BothPreferences, HigherRank, InitialColour}
use Rattle.dutch_player.specs.declared.preference.Strength.TheVariants.{Absolute}
use Rattle.dutch_player.specs.declared.preference.Pref.{Pref}
use Rattle.dutch_player.specs.Preferences.{preference}
use Rattle.dutch_player.specs.Facts.{Facts, seat_at, total_of}
use Rattle.dutch_player.specs.Meetings.{may_meet}
use Rattle.dutch_player.specs.Colours.{with_colour, colours, colour_rule}

-- the first of two gets a colour against the second [with TellsRule]
abbrev pub Gets : Facts → ℕ → ℕ → Colour → Type 0
Gets facts a b colour = colours facts a b ≡ with_colour a b colour

-- if two may meet and have absolute preferences for different colours, both get what they prefer [A.6, C.3, E.1]
abbrev pub GrantsBoth : Facts → ℕ → ℕ → Type 0
GrantsBoth facts a b = (p q : Pref) → may_meet facts a b ≡ true
    → preference (seat_at facts a).played ≡ Some p → preference (seat_at facts b).played ≡ Some q
    → p.strength ≡ Absolute → q.strength ≡ Absolute → (p.colour ≡ q.colour → ⊥)
    → (colours facts a b ≡ with_colour a b p.colour) × (colours facts a b ≡ with_colour b a q.colour)

-- what a rule tells of two: by E.1 whoever prefers a colour gets it, by E.4 the higher ranked gets the colour that they prefer, and by E.5
-- nobody prefers one [E.1, E.4, E.5]
pub record TellsRule (facts : Facts) (a b : ℕ) : Type 0 where
  pub granted : colour_rule facts a b ≡ BothPreferences → (wish : Pref) → preference (seat_at facts a).played ≡ Some wish → Gets facts a b wish.colour
  pub higher : colour_rule facts a b ≡ HigherRank → a < b → (wish : Pref) → preference (seat_at facts a).played ≡ Some wish → Gets facts a b wish.colour
  pub nobody : colour_rule facts a b ≡ InitialColour → (preference (seat_at facts a).played ≡ None) × (preference (seat_at facts b).played ≡ None)

-- the start ranks of the present players, by rank [with IsFieldOf]
abbrev pub start_ranks : Facts → List ℕ
start_ranks facts = map (λ seat. seat.start) facts.seats

-- start ranks count from 1: on a board 0 stands for nobody [with IsFieldOf]
abbrev pub CountFromOne : Facts → Type 0
CountFromOne facts = All (λ start. 0 < start) (start_ranks facts)

-- the seats are the players of a report who are present, all of them and each once; the round that is to be paired is the next one, and
-- within the total that is asked for or that the report names [A.2, A.3; own]
pub record IsFieldOf (sheet : Sheet) (asked : Option ℕ) (facts : Facts) : Type 0 where
  pub players : All (λ start. known sheet start ≡ true) (start_ranks facts)
  pub present : All (λ start. absent sheet start ≡ false) (start_ranks facts)
  pub all : (start : ℕ) → known sheet start ≡ true → absent sheet start ≡ false → Contains (start_ranks facts) start
  pub once : IsDistinct nat_eq (start_ranks facts)
  pub from_one : CountFromOne facts
  pub next : facts.round ≡ rounds_played sheet + 1
  pub total : total_of sheet asked ≡ Some facts.total
  pub within : facts.round ≤ facts.total
