-- Whether a round has other boards in a report than those that it is paired with.
use Rattle.std.specs.Prelude.{ℕ, Bool, false, not, ◌&&◌, ◌==◌, nat_le, nat_lt, List, Option, Some, None}
use Rattle.std.specs.List.{flat_map, list_all, list_any}
use Rattle.dutch_player.specs.Prelude.{Facts}
use Rattle.dutch_rounds.specs.Prelude.{boards, own_pairs}
use Rattle.dutch_rounds.specs.Stage.{Stage}
use Rattle.tables.specs.Prelude.{boards_of}
use Rattle.trf16_report.specs.Prelude.{Sheet, rounds_played}

-- the boards of a round that is paired: of the pairs that its brackets keep, and of who has the bye [with has_other_boards]
abbrev pub boards_paired : Facts → List Stage → List ℕ → List (ℕ × ℕ)
boards_paired facts stages bye = boards facts (record { pairs = flat_map own_pairs stages; bye = bye })

-- two boards are one: the same player has white, and the same has black
abbrev pub are_one : ℕ × ℕ → ℕ × ℕ → Bool
are_one board other = (board.0 == other.0) && (board.1 == other.1)

-- each of some boards is among others
abbrev pub are_among : List (ℕ × ℕ) → List (ℕ × ℕ) → Bool
are_among others some = list_all (λ board. list_any (are_one board) others) some

-- two rounds have the same boards, in whatever order
abbrev pub are_same : List (ℕ × ℕ) → List (ℕ × ℕ) → Bool
are_same some others = are_among others some && are_among some others

-- a round was paired in a report
abbrev pub was_paired : Sheet → ℕ → Bool
was_paired sheet round = nat_lt 0 round && nat_le round (rounds_played sheet)

-- a round that is asked for was paired in a report, and has there not the boards that it is paired with, in whatever order [own]
abbrev pub has_other_boards : Sheet → Option ℕ → List (ℕ × ℕ) → Bool
has_other_boards sheet None paired = false
has_other_boards sheet (Some round) paired = was_paired sheet round && not (are_same (boards_of sheet round) paired)
