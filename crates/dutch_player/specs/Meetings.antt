-- Who may meet whom (C.04.3 A.7, C.1, C.3).
use Rattle.std.specs.Prelude.{ℕ, ◌-◌, Bool, true, false, not, ◌&&◌, ◌||◌, ◌==◌, nat_lt, Option, Some}
use Rattle.std.specs.List.{list_any}
use Rattle.dutch_player.specs.declared.preference.Strength.{Strength}
use Rattle.dutch_player.specs.declared.preference.Strength.TheVariants.{Absolute, Strong, Mild}
use Rattle.dutch_player.specs.declared.preference.Pref.{Pref}
use Rattle.dutch_player.specs.Preferences.{is_same, preference}
use Rattle.dutch_player.specs.Facts.{SeatFacts, Facts, seat_at}

-- before the last round, a player has more half points than rounds were paired, and so over half of the points that could be had
-- [A.7]
abbrev pub is_topscorer : Facts → SeatFacts → Bool
is_topscorer facts a = (facts.round == facts.total) && nat_lt (facts.round - 1) a.score

-- C.1: a game that was played of the one names the other
abbrev pub has_met : SeatFacts → SeatFacts → Bool
has_met a b = list_any (λ start. start == b.start) a.opponents

-- the two have played a game with each other [C.1]
abbrev pub have_met : SeatFacts → SeatFacts → Bool
have_met a b = has_met a b || has_met b a

-- a line XXP of the report names the one together with the other (our own choice: such a line goes with C.1)
abbrev pub is_kept_from : SeatFacts → SeatFacts → Bool
is_kept_from a b = list_any (λ start. start == b.start) a.apart

-- a line XXP names both [own]
abbrev pub are_apart : SeatFacts → SeatFacts → Bool
are_apart a b = is_kept_from a b || is_kept_from b a

-- A.6: an absolute preference
abbrev pub is_absolute : Strength → Bool
is_absolute Absolute = true
is_absolute Strong = false
is_absolute Mild = false

-- both preferences are absolute, and for the same colour
abbrev pub clash : Option Pref → Option Pref → Bool
clash (Some a) (Some b) = is_absolute a.strength && is_absolute b.strength && is_same a.colour b.colour
clash _ _ = false

-- the colours of two allow that they meet: two players, neither of whom is a topscorer, do not if both have absolute preferences
-- for the same colour [C.3]
abbrev pub colours_allow : Facts → SeatFacts → SeatFacts → Bool
colours_allow facts a b = is_topscorer facts a || is_topscorer facts b || not (clash (preference a.played) (preference b.played))

-- two may meet: they have not met, no line XXP names both, and their colours allow it [C.1, C.3; own]
abbrev pub may_meet : Facts → ℕ → ℕ → Bool
may_meet facts a b =
    not (have_met (seat_at facts a) (seat_at facts b) || are_apart (seat_at facts a) (seat_at facts b)) && colours_allow facts (seat_at facts a) (seat_at facts b)
