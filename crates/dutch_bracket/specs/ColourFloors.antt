-- How many players miss their colour preference at least, whatever pairs are added to a beginning (C.04.3 C.10, C.11).
use Rattle.std.specs.Prelude.{ℕ, ◌+◌, ◌-◌, ◌*◌, ◌==◌, Bool, true, false, not, ◌&&◌, List, [], ◌∷◌, filter, length, max, Option, Some}
use Rattle.std.specs.List.{list_any}
use Rattle.std.specs.Option.{option_map_or}
use Rattle.trf16_report.specs.declared.cell.Colour.{Colour}
use Rattle.trf16_report.specs.declared.cell.Colour.TheVariants.{White, Black}
use Rattle.dutch_arrangements.specs.declared.bracket.Shape.{Shape}
use Rattle.dutch_arrangements.specs.Prelude.{Arrangement, left_of, residents_of, remainder_pairs}
use Rattle.dutch_player.specs.declared.preference.Pref.{Pref}
use Rattle.dutch_player.specs.declared.preference.Strength.{Strength}
use Rattle.dutch_player.specs.declared.preference.Strength.TheVariants.{Absolute, Strong, Mild}
use Rattle.dutch_player.specs.Prelude.{is_same, preference, Facts, seat_at}
use Rattle.dutch_bracket.specs.declared.colours_missed.Miss.TheVariants.{Wide, Third, Preference}
use Rattle.dutch_bracket.specs.Quality.{one_if, misses, count_in, count_with_topscorers}
use Rattle.dutch_bracket.specs.Reached.{Reached, frame_of, numbers_meet}
use Rattle.dutch_bracket.specs.Seated.{seat_of}
use Rattle.dutch_bracket.specs.Beginnings.{free, most_served}

-- A.6: a preference that is absolute or strong
abbrev pub is_firm : Strength → Bool
is_firm Absolute = true
is_firm Strong = true
is_firm Mild = false

-- 1 for a seat whose preference is this colour [own]
abbrev pub wants : Facts → Colour → ℕ → ℕ
wants facts colour seat = one_if (option_map_or (λ wanted. is_same wanted.colour colour) (preference (seat_at facts seat).played) false)

-- 1 for a seat whose preference is this colour, and absolute or strong [with wants]
abbrev pub wants_firmly : Facts → Colour → ℕ → ℕ
wants_firmly facts colour seat =
    one_if (option_map_or (λ wanted. is_firm wanted.strength && is_same wanted.colour colour) (preference (seat_at facts seat).played) false)

-- what a pair adds to C.8 and C.9
abbrev pub adds_top : Facts → ℕ × ℕ → ℕ
adds_top facts pair = count_with_topscorers facts (misses Wide) (pair ∷ []) + count_with_topscorers facts (misses Third) (pair ∷ [])

-- how many of the free players whose preference is a colour are more than can be served: each pair to make serves one of them, and
-- each downfloater needs no colour
abbrev pub surplus : Facts → Reached → Shape → Arrangement → Colour → ℕ
surplus facts reached shape b colour = free (wants facts colour) reached b - most_served reached shape b

-- the same of firm preferences
abbrev pub surplus_firm : Facts → Reached → Shape → Arrangement → Colour → ℕ
surplus_firm facts reached shape b colour = free (wants_firmly facts colour) reached b - most_served reached shape b

-- C.10: how many more than those of its pairs miss in each arrangement with a beginning
abbrev pub more_missed : Facts → Reached → Shape → Arrangement → ℕ
more_missed facts reached shape b = max (surplus facts reached shape b White) (surplus facts reached shape b Black)

-- C.11: the same, if C.8 and C.9 are those of the beginning
abbrev pub more_missed_strong : Facts → Reached → Shape → Arrangement → ℕ
more_missed_strong facts reached shape b = max (surplus_firm facts reached shape b White) (surplus_firm facts reached shape b Black)

-- a list from behind as many as another has
abbrev pub beyond : List ℕ → List ℕ → List ℕ
beyond [] xs = xs
beyond (y ∷ part) [] = []
beyond (y ∷ part) (x ∷ xs) = beyond part xs

-- two preferences are for one colour, so that one of the two misses theirs
abbrev pub collide : Option Pref → Option Pref → Bool
collide (Some a) (Some b) = is_same a.colour b.colour
collide _ _ = false

-- neither of two numbers misses a preference, and they may meet [with wants]
unfoldable pub suits : Facts → Reached → ℕ → ℕ → Bool
suits facts reached x y =
    (count_in facts (misses Preference) (seat_of reached.seats x, seat_of reached.seats y) == 0) && numbers_meet facts reached x y

-- the players whom S1R still has to pair
abbrev pub rest_of_s1r : Arrangement → List ℕ
rest_of_s1r b = beyond b.s2r b.s1r

-- and those with whom it can pair them
abbrev pub pool : Facts → Reached → Arrangement → List ℕ
pool facts reached b = left_of (left_of (left_of (residents_of (frame_of facts reached)) b.s2) b.s1r) b.s2r

-- of those who wait how many suit nobody of the pool
unfoldable pub lonely_first : Facts → Reached → Arrangement → ℕ
lonely_first facts reached b = length (filter (λ x. not (list_any (suits facts reached x) (pool facts reached b))) (rest_of_s1r b))

-- of the pool how many suit nobody who waits
unfoldable pub lonely_second : Facts → Reached → Arrangement → ℕ
lonely_second facts reached b = length (filter (λ y. not (list_any (λ x. suits facts reached x y) (rest_of_s1r b))) (pool facts reached b))

-- the residents who go down with a shape [with psd_with]
abbrev pub residents_down : Reached → Shape → ℕ
residents_down reached shape = (length reached.seats - reached.mdps - shape.mdps) - 2 * remainder_pairs shape

-- C.10: lonely players miss, but for residents of the pool who go down
unfoldable pub lonely : Facts → Reached → Shape → Arrangement → ℕ
lonely facts reached shape b = max (lonely_first facts reached b) (lonely_second facts reached b - residents_down reached shape)
