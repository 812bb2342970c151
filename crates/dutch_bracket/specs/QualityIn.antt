-- The items of a quality, as they stand in its fields.
use Rattle.dutch_bracket.specs.declared.quality.Quality.{Quality as Fields}
use Rattle.dutch_player.specs.Prelude.{Facts}
use Rattle.dutch_bracket.specs.Seated.{Seated}
use Rattle.dutch_bracket.specs.Quality.{Quality, NextValue, quality_with}

-- a quality by what stands in its fields [own]
abbrev pub quality_in : Fields → Quality
quality_in q = record {
  psd = q.psd.items;
  next_pairs = q.next_pairs.0;
  next_psd = q.next_psd.items;
  wide_differences = q.wide_differences;
  third_colours = q.third_colours;
  missed_preferences = q.missed_preferences;
  missed_strong = q.missed_strong;
  down_again = q.down_again;
  up_again = q.up_again;
  down_again_before = q.down_again_before;
  up_again_before = q.up_again_before;
  down_again_by = q.down_again_by.items;
  up_again_by = q.up_again_by.items;
  down_again_before_by = q.down_again_before_by.items;
  up_again_before_by = q.up_again_before_by.items;
}

-- what a quality says of the next bracket [with quality_in]
abbrev pub next_in : Quality → NextValue
next_in q = record { pairs = q.next_pairs; psd = q.next_psd }

-- a quality with what is said of the next bracket [with quality_in]
abbrev pub with_next : NextValue → Quality → Quality
with_next next q = record q { next_pairs = next.pairs; next_psd = next.psd }

-- a quality with what a candidate by seats makes of those who go down or up again: C.12 to C.19 [with quality_in]
unfoldable pub with_floats : Facts → Seated → Quality → Quality
with_floats facts candidate q =
    let k = quality_with facts candidate (next_in q) in
    record k {
      psd = q.psd;
      wide_differences = q.wide_differences;
      third_colours = q.third_colours;
      missed_preferences = q.missed_preferences;
      missed_strong = q.missed_strong;
    }
