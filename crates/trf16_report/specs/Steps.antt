-- What the inner functions cut off a text, one step at a time.
use Rattle.std.specs.Prelude.{◌≡◌, ℕ, ◌+◌, ◌-◌, ◌<◌, ◌≤◌, Bool, ◌&&◌, ◌==◌, nat_lt, min, if◌then◌else◌, List, [], ◌∷◌, length, take, drop, map, slice_index, Option, option_map, Result}
use Rattle.trf16_report.specs.Lines.{columns, joined}
use Rattle.std.specs.Str.{byte}
use Rattle.trf16_report.specs.Sheet.{Sheet}
use Rattle.trf16_report.specs.Outcomes.{◌>>=◌}
use Rattle.trf16_report.specs.Verdict.{carried_line, without_players, lines_onto, has_too_many_rounds, sized}
use Rattle.trf16_report.specs.declared.fault.Fault.{Fault}
use Rattle.trf16_report.specs.BeforeRound.{line_back}

-- what stands behind the end of a line that ends in front
abbrev pub behind_end : List ℕ → List ℕ
behind_end [] = []
behind_end (b ∷ []) = []
behind_end (b ∷ c ∷ rest) = if (b == byte "\r") && (c == byte "\n") then rest else c ∷ rest

-- a column begins at this byte, and this many stand in front of it
pub record IsStart (utf8 : Bool) (bytes : List ℕ) (before at : ℕ) : Type 0 where
  pub within : at ≤ length bytes
  pub front : take at bytes ≡ joined (take before (columns utf8 bytes))
  pub back : columns utf8 (drop at bytes) ≡ drop before (columns utf8 bytes)

-- where a column begins, of which k stand in front: the first places are listed, `next` is the one behind them, and each further column
-- begins a byte behind the one before it, up to the end of the line
abbrev pub place : List ℕ → ℕ → ℕ → ℕ → ℕ
place starts next end k = if nat_lt k (length starts) then slice_index starts k else min end (next + (k - length starts))

-- the first `count` of these places are where columns begin, one after the other
abbrev pub AllStart : Bool → List ℕ → List ℕ → ℕ → ℕ → Type 0
AllStart utf8 bytes starts next count = (k : ℕ) → k < count → IsStart utf8 bytes k (place starts next (length bytes) k)

-- a line as it is carried: not where it is a player's; and if absences are bare, of a line XXZ the kind alone
abbrev pub carried_as : Bool → Bool → List ℕ → Option (List ℕ)
carried_as bare utf8 line = if bare then option_map (line_back utf8) (carried_line utf8 line) else carried_line utf8 line

-- a report whose players are still to be read, with its lines carried so
abbrev pub lines_carried : Bool → Bool → List (List ℕ) → ℕ → Sheet
lines_carried bare utf8 all bye = record (without_players utf8 all bye) { carried = map (carried_as bare utf8) all }

-- a report with what all lines of a text add to it, unless its size is refused
unfoldable pub whole_report : Sheet → List (List ℕ) → Result Sheet Fault
whole_report sheet all = lines_onto sheet 1 all >>= λ next. sized next (has_too_many_rounds sheet.utf8 all)
