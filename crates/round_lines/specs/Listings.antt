-- The lines of a listing of candidates, and how it ends.
use Rattle.std.specs.Prelude.{◌≡◌, ℕ, ◌<◌, ◌≤◌, List, ◌++◌, length, take, codes}
use Rattle.std.specs.List.{flat_map}
use Rattle.dutch_arrangements.specs.Prelude.{Arrangement}
use Rattle.dutch_sequence.specs.declared.steps.Budget.{Budget}
use Rattle.common_texts.specs.Prelude.{undecided_text}
use Rattle.round_lines.specs.declared.listing.Ending.{Ending}
use Rattle.round_lines.specs.declared.listing.Ending.TheVariants.{AtEnd, AtCount, Stopped}

-- the lines of the first `count` of some candidates, by how the listing ends: all came and they are fewer; as many came; or it had used so
-- many steps as it may, before as many came [own]
abbrev pub IsListing : (Arrangement → List ℕ) → List Arrangement → ℕ → ℕ → Ending → List ℕ → Type 0
IsListing line coming count steps AtEnd text = (length coming < count) × (text ≡ flat_map line coming)
IsListing line coming count steps AtCount text = (count ≤ length coming) × (text ≡ flat_map line (take count coming))
IsListing line coming count steps (Stopped used) text =
    (used ≡ steps) × ((k : ℕ) × (k < count) × (k ≤ length coming) × (text ≡ flat_map line (take k coming)))

-- a text that is so is put behind what is there [with IsListing]
abbrev pub Puts : List ℕ → List ℕ → (List ℕ → Type 0) → Type 0
Puts old new IsSo = (text : List ℕ) × (new ≡ old ++ text) × IsSo text

-- a listing is stopped only where all steps of its budget are used [with IsListing]
abbrev pub StopsAtLimit : Ending → Budget → Type 0
StopsAtLimit AtEnd budget = Unit {0}
StopsAtLimit AtCount budget = Unit {0}
StopsAtLimit (Stopped used) budget = budget.used ≡ budget.limit

-- the last line of a listing [with IsListing]
abbrev pub ending_text : ℕ → Ending → List ℕ
ending_text number AtEnd = codes "end\n"
ending_text number AtCount = codes "more\n"
ending_text number (Stopped used) = undecided_text number used
