-- Whom the boards of a round name, and who stands in its brackets.
use Rattle.std.specs.Prelude.{ℕ, Bool, List, IsPermutation}
use Rattle.std.specs.List.{list_any}
use Rattle.trf16_report.specs.Prelude.{named_by}
use Rattle.dutch_arrangements.specs.Prelude.{is_member}
use Rattle.dutch_player.specs.Prelude.{Facts, start_ranks}
use Rattle.dutch_rounds.specs.Round.{Visit}

-- some boards name each present player, once, and nobody else [A.3; own]
abbrev pub NameEverybodyOnce : Facts → List (ℕ × ℕ) → Type 0
NameEverybodyOnce facts boards = IsPermutation (start_ranks facts) (named_by boards)

-- a seat stands in one of some brackets that were reached [with NameEverybodyOnce]
abbrev pub is_reached : List Visit → ℕ → Bool
is_reached visits seat = list_any (λ visit. is_member seat visit.bracket.seats) visits
