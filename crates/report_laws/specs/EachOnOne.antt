-- Who stands on the boards of a round.
use Rattle.std.specs.Prelude.{◌≡◌, ℕ, ◌<◌, Bool, false, ◌&&◌, ◌||◌, ◌==◌, List, Some, count_by}
use Rattle.trf16_report.specs.declared.cell.Bye.TheVariants.{Allocated}
use Rattle.trf16_report.specs.declared.cell.Cell.TheVariants.{Bye}
use Rattle.trf16_report.specs.Prelude.{Sheet, cell_in, is_paired, opponent_in_cell}

-- whether a player stands on a board, with white or with black
abbrev pub has : ℕ → ℕ × ℕ → Bool
has start board = (board.0 == start) || (board.1 == start)

-- whether a board is that of two players, whoever has white
abbrev pub is_of : ℕ → ℕ → ℕ × ℕ → Bool
is_of one other board = ((board.0 == one) && (board.1 == other)) || ((board.0 == other) && (board.1 == one))

-- whether a board is that of a player who has the bye
abbrev pub is_bye_of : ℕ → ℕ × ℕ → Bool
is_bye_of start board = (board.0 == start) && (board.1 == 0)

-- who names an opponent in the round stands on one board, which is that of the two; who has the pairing-allocated bye stands on one board,
-- which says so; and no other player stands on any (0 is no player) [own]
pub record EachOnOne (sheet : Sheet) (round : ℕ) (boards : List (ℕ × ℕ)) : Type 0 where
  pub pairs : (start opponent : ℕ) → opponent_in_cell (cell_in sheet start round) ≡ Some opponent
      → (count_by (has start) boards ≡ 1) × (count_by (is_of start opponent) boards ≡ 1)
  pub byes : (start : ℕ) → cell_in sheet start round ≡ Bye Allocated → (count_by (has start) boards ≡ 1) × (count_by (is_bye_of start) boards ≡ 1)
  pub nobody_else : (start : ℕ) → 0 < start → is_paired (cell_in sheet start round) ≡ false → count_by (has start) boards ≡ 0
