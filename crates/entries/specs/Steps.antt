-- What the inner functions make of the players, one step at a time.
use Rattle.std.specs.Prelude.{◌≡◌, ℕ, ◌<◌, ◌≤◌, List, IfSome}
use Rattle.std.specs.List.{AllByRecursion}
use Rattle.trf16_report.specs.Prelude.{Entry}
use Rattle.trf16_report.specs.declared.limits.TheConstants.{MOST_ROUNDS}
use Rattle.entries.specs.Entered.{player_resummed, player_with_new}
use Rattle.entries.specs.declared.entry.NewCell.{NewCell}
use Rattle.entries.specs.declared.entry.NewCells.{NewCells}
use Rattle.entries.specs.declared.entering.Change.{Change}
use Rattle.entries.specs.declared.entering.Change.TheVariants.{Cells, Points}

-- a new cell is one of a round that a report may have
abbrev pub IsInReport : NewCell → Type 0
IsInReport new = (0 < new.slot.round) × (new.slot.round ≤ MOST_ROUNDS)

-- each of some new cells is
abbrev pub AreWithin : List NewCell → Type 0
AreWithin = AllByRecursion IsInReport

-- the one or two cells of an entry are those of a round
pub record AreOfRound (round : ℕ) (new : NewCells) : Type 0 where
  pub first : new.first.slot.round ≡ round
  pub second : IfSome new.second (λ second. second.slot.round ≡ round)

-- a player with some new cells, or with summed points; so many rounds were paired, and the pairing-allocated bye gives so many half points
abbrev pub player_changed : Change → ℕ → ℕ → Entry → Entry
player_changed (Cells all) bye rounds entry = player_with_new all.now entry
player_changed Points bye rounds entry = player_resummed bye rounds entry

-- new cells are those of rounds that a report may have
abbrev pub IsWithin : Change → Type 0
IsWithin (Cells all) = AreWithin all.now
IsWithin Points = Unit {0}
