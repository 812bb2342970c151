-- Colour preferences (C.04.3 A.6), from the colours of a player's games, the last game first.
use Rattle.std.specs.Prelude.{ℕ, ◌+◌, Bool, true, false, nat_lt, if◌then◌else◌, List, [], ◌∷◌, Option, Some, None, count_by, ℤ, pos, ◌-ℤ◌}
use Rattle.trf16_report.specs.declared.cell.Colour.{Colour}
use Rattle.trf16_report.specs.declared.cell.Colour.TheVariants.{White, Black}
use Rattle.dutch_player.specs.declared.preference.Strength.{Strength}
use Rattle.dutch_player.specs.declared.preference.Strength.TheVariants.{Absolute, Strong, Mild}
use Rattle.dutch_player.specs.declared.preference.Pref.{Pref}

-- the colour that the opponent of a player with this one has
abbrev pub other : Colour → Colour
other White = Black
other Black = White

-- white, and not black
abbrev pub is_white : Colour → Bool
is_white White = true
is_white Black = false

-- black, and not white
abbrev pub is_black : Colour → Bool
is_black White = false
is_black Black = true

-- two colours are the same
abbrev pub is_same : Colour → Colour → Bool
is_same White c = is_white c
is_same Black c = is_black c

-- how many games were played with white
abbrev pub whites : List Colour → ℕ
whites played = count_by is_white played

-- how many games were played with black
abbrev pub blacks : List Colour → ℕ
blacks played = count_by is_black played

-- the colour difference: games with white minus games with black [A.6]
abbrev pub difference : List Colour → ℤ
difference played = pos (whites played) -ℤ pos (blacks played)

-- the colour of the last two games, if there are two and both have it [A.6]
abbrev pub last_two : List Colour → Option Colour
last_two [] = None
last_two (last ∷ []) = None
last_two (last ∷ before ∷ rest) = if is_same last before then Some last else None

-- a preference of a strength for a colour
abbrev pub for : Strength → Colour → Pref
for strength colour = record { strength = strength; colour = colour }

-- for the colour that the last game did not have; without games there is no preference [with preference]
abbrev pub mild : List Colour → Option Pref
mild [] = None
mild (last ∷ rest) = Some (for Mild (other last))

-- strong for black with a difference of +1 and for white with -1; else `mild` [with preference]
abbrev pub strong_or_mild : List Colour → Option Pref
strong_or_mild played =
    if nat_lt (blacks played) (whites played) then Some (for Strong Black)
    else (if nat_lt (whites played) (blacks played) then Some (for Strong White) else mild played)

-- absolute for the colour that neither of the last two games had; else `strong_or_mild` [with preference]
abbrev pub after_last_two : List Colour → Option Colour → Option Pref
after_last_two played (Some colour) = Some (for Absolute (other colour))
after_last_two played None = strong_or_mild played

-- a player's preference: absolute for black with a difference over +1 and for white with one under -1, whatever the last games say; else
-- `after_last_two` [A.6; own]
abbrev pub preference : List Colour → Option Pref
preference played =
    if nat_lt (blacks played + 1) (whites played) then Some (for Absolute Black)
    else (if nat_lt (whites played + 1) (blacks played) then Some (for Absolute White) else after_last_two played (last_two played))
