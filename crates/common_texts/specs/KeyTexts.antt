-- The values of the keys that break ties, as text.
use Rattle.std.specs.Prelude.{ℕ, ◌/◌, ◌%◌, ◌==◌, if◌then◌else◌, List, ◌++◌, Option, Some, None, codes}
use Rattle.std.specs.Fmt.{decimal}
use Rattle.tables.specs.declared.key.Key.{Key}
use Rattle.tables.specs.declared.key.Key.TheVariants.{Direct, Buchholz, SonnebornBerger}
use Rattle.common_texts.specs.Texts.{halves_text}

-- the decimals of quarters of a point
abbrev pub quarter_text : ℕ → List ℕ
quarter_text quarter = if quarter == 0 then codes ".00" else (if quarter == 1 then codes ".25" else (if quarter == 2 then codes ".50" else codes ".75"))

-- quarters of a point as points with two decimals
abbrev pub quarters_text : ℕ → List ℕ
quarters_text quarters = decimal (quarters / 4) ++ quarter_text (quarters % 4)

-- the value of a key: in half points, or in quarters for Sonneborn-Berger
abbrev pub value_text : Key → Option ℕ → List ℕ
value_text key None = codes "-"
value_text Direct (Some value) = halves_text value
value_text Buchholz (Some value) = halves_text value
value_text SonnebornBerger (Some value) = quarters_text value
