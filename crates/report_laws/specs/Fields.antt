-- Reports whose next rounds are paired from the same.
use Rattle.std.specs.Prelude.{◌≡◌, ℕ, Option, MatchOption, Ok}
use Rattle.trf16_report.specs.declared.cell.Colour.{Colour}
use Rattle.trf16_report.specs.Prelude.{Sheet}
use Rattle.dutch_player.specs.Facts.{Facts, facts_of}

-- a report is found, and what its next round is paired from, or why it cannot be, is what it is of another report, whatever total of rounds
-- and initial colour are asked for [own]
abbrev pub GivesFieldOf : Option Sheet → Sheet → Type 0
GivesFieldOf found report = MatchOption found ⊥ (λ view. (asked : Option ℕ) (initial : Option Colour) → facts_of view asked initial ≡ facts_of report asked initial)

-- a report is found, and its next round is paired from some facts, if a total of rounds and an initial colour are asked for, or none [own]
abbrev pub GivesFacts : Option Sheet → Option ℕ → Option Colour → Facts → Type 0
GivesFacts found asked initial facts = MatchOption found ⊥ (λ view. facts_of view asked initial ≡ Ok facts)
