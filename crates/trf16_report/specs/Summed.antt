-- A report whose points fields are not compared, and a report with each of them summed.
use Rattle.std.specs.Prelude.{◌≡◌, ◌⊎◌, ℕ, List, [], ◌∷◌, map, take, sum_by, Some, Result, Ok, Err}
use Rattle.trf16_report.specs.Answering.{cells_fit}
use Rattle.trf16_report.specs.Outcomes.{◌>>=◌}
use Rattle.trf16_report.specs.Sheet.{Entry, Sheet, half_points, rounds_played}
use Rattle.trf16_report.specs.Verdict.{laid_out}
use Rattle.trf16_report.specs.declared.fault.Fault.{Fault}
use Rattle.trf16_report.specs.declared.fault.Fault.TheVariants.{Points}

-- ---- the verdict without its last rule

-- the rounds of all players, in the order of their lines, whatever their points fields say [with verdict_unsummed]
unfoldable pub all_cells_fit : Sheet → List Entry → Result (Unit {0}) Fault
all_cells_fit sheet [] = Ok tt
all_cells_fit sheet (entry ∷ rest) = do
  _ ← cells_fit sheet entry.start 1 entry.cells
  all_cells_fit sheet rest

-- the verdict without its last rule: the points fields are read, and not compared [own]
unfoldable pub verdict_unsummed : List ℕ → ℕ → Result Sheet Fault
verdict_unsummed bytes bye = do
  sheet ← laid_out bytes bye
  _ ← all_cells_fit sheet sheet.players
  Ok sheet

-- a verdict is another one, or else it is that the points field of a player is no sum of their points [with verdict_unsummed]
abbrev pub IsButForPoints : Result Sheet Fault → Result Sheet Fault → Type 0
IsButForPoints verdict other = (verdict ≡ other) ⊎ ((start : ℕ) × (verdict ≡ Err (Points start)))

-- ---- sums

-- a player whose points field is the sum over so many rounds, where the pairing-allocated bye gives so many half points
abbrev pub entry_summed : ℕ → ℕ → Entry → Entry
entry_summed bye rounds entry = record entry { points = Some (sum_by (half_points bye) (take rounds entry.cells)) }

-- a report in which each points field, blank or not, is the sum over the rounds that were paired [own]
abbrev pub summed : Sheet → Sheet
summed sheet = record sheet { players = map (entry_summed sheet.bye (rounds_played sheet)) sheet.players }
