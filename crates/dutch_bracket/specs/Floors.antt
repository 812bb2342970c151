-- The quality that no candidate with a beginning is better than (C.04.3 C.6 to C.19).
use Rattle.std.specs.Prelude.{◌≡◌, ℕ, ◌+◌, ◌≤◌, false, List, length}
use Rattle.dutch_arrangements.specs.Prelude.{Arrangement}
use Rattle.dutch_player.specs.declared.float.Float.TheVariants.{Up, Down}
use Rattle.dutch_player.specs.Prelude.{Facts}
use Rattle.dutch_bracket.specs.declared.colours_missed.Miss.TheVariants.{Wide, Third}
use Rattle.dutch_bracket.specs.NextBracket.{is_lower}
use Rattle.dutch_bracket.specs.Quality.{Quality, NextValue, misses, count_with_topscorers, again, differences, quality_with}
use Rattle.dutch_bracket.specs.Reached.{Reached}
use Rattle.dutch_bracket.specs.Seated.{Seated, going_down, going_up}
use Rattle.dutch_bracket.specs.Beginnings.{fixed}
use Rattle.dutch_bracket.specs.ColourFloors.{more_missed, more_missed_strong}

-- C.8, C.9, C.12 to C.19: what the pairs of a beginning make is the least that an arrangement with it can make
pub record NotBelow (facts : Facts) (k : Seated) (q : Quality) : Type 0 where
  pub wide : count_with_topscorers facts (misses Wide) k.pairs ≤ q.wide_differences
  pub third : count_with_topscorers facts (misses Third) k.pairs ≤ q.third_colours
  pub down_again : length (again facts Down 1 (going_down facts k)) ≤ q.down_again
  pub up_again : length (again facts Up 1 (going_up facts k)) ≤ q.up_again
  pub down_again_before : length (again facts Down 2 (going_down facts k)) ≤ q.down_again_before
  pub up_again_before : length (again facts Up 2 (going_up facts k)) ≤ q.up_again_before
  pub down_again_by : is_lower q.down_again_by (differences (again facts Down 1 (going_down facts k))) ≡ false
  pub up_again_by : is_lower q.up_again_by (differences (again facts Up 1 (going_up facts k))) ≡ false
  pub down_again_before_by : is_lower q.down_again_before_by (differences (again facts Down 2 (going_down facts k))) ≡ false
  pub up_again_before_by : is_lower q.up_again_before_by (differences (again facts Up 2 (going_up facts k))) ≡ false

-- a quality is nowhere in front of another; at C.11 only if C.8 and C.9 are the same
pub record IsFloor (f q : Quality) : Type 0 where
  pub psd : is_lower q.psd f.psd ≡ false
  pub next_pairs : q.next_pairs ≤ f.next_pairs
  pub next_psd : q.next_pairs ≡ f.next_pairs → is_lower q.next_psd f.next_psd ≡ false
  pub wide : f.wide_differences ≤ q.wide_differences
  pub third : f.third_colours ≤ q.third_colours
  pub missed : f.missed_preferences ≤ q.missed_preferences
  pub strong : q.wide_differences ≡ f.wide_differences → q.third_colours ≡ f.third_colours → f.missed_strong ≤ q.missed_strong
  pub down_again : f.down_again ≤ q.down_again
  pub up_again : f.up_again ≤ q.up_again
  pub down_again_before : f.down_again_before ≤ q.down_again_before
  pub up_again_before : f.up_again_before ≤ q.up_again_before
  pub down_again_by : is_lower q.down_again_by f.down_again_by ≡ false
  pub up_again_by : is_lower q.up_again_by f.up_again_by ≡ false
  pub down_again_before_by : is_lower q.down_again_before_by f.down_again_before_by ≡ false
  pub up_again_before_by : is_lower q.up_again_before_by f.up_again_before_by ≡ false

-- what no candidate is better than of which this is known: a PSD and a value of the next bracket, the items of what is known, and so many
-- more who miss a preference, or a strong one
unfoldable pub floor_over : Facts → List ℕ → NextValue → ℕ → ℕ → Seated → Quality
floor_over facts psd next more_missed more_missed_strong known =
    let k = quality_with facts known next in
    record k { psd = psd; missed_preferences = k.missed_preferences + more_missed; missed_strong = k.missed_strong + more_missed_strong }

-- the same if a beginning is known: the pairs that are fixed
abbrev pub floor_with : Facts → Reached → List ℕ → NextValue → ℕ → ℕ → Arrangement → Quality
floor_with facts reached psd next more_missed more_missed_strong b = floor_over facts psd next more_missed more_missed_strong (fixed facts reached b)
