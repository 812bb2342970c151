-- The tie-break keys: direct encounter, Buchholz and Sonneborn-Berger.
use Rattle.std.specs.Prelude.{ℕ, ◌*◌, Bool, false, ◌&&◌, ◌||◌, ◌==◌, nat_eq, nat_lt, if◌then◌else◌, List, length, map, filter, Option, Some, None, sum_by}
use Rattle.std.specs.List.{list_all, list_any}
use Rattle.std.specs.Option.{option_eq}
use Rattle.std.specs.Cmp.Lexicographic.{pointwise}
use Rattle.trf16_report.specs.declared.cell.Cell.{Cell}
use Rattle.trf16_report.specs.declared.cell.Cell.TheVariants.{Game}
use Rattle.trf16_report.specs.Prelude.{Sheet, cell_in, game_points, half_points}
use Rattle.tables.specs.declared.key.Key.{Key}
use Rattle.tables.specs.declared.key.Key.TheVariants.{Direct, Buchholz, SonnebornBerger}
use Rattle.tables.specs.Games.{rounds_of, have_met, opponent_score}

-- a row of the standings: start rank, score in half points, and the values of the keys in their order [own]
pub record RowFacts : Type 0 where
  pub start : ℕ
  pub score : ℕ
  pub values : List (Option ℕ)

-- Buchholz, in half points: the sum of the opponents' scores, virtual ones included [tie-breaks]
abbrev pub buchholz : Sheet → ℕ → ℕ
buchholz sheet start = sum_by (opponent_score sheet start) (rounds_of sheet)

-- Sonneborn-Berger, in quarters of a point: the sum of the opponents' scores, each times what the player got in the round [tie-breaks]
abbrev pub sonneborn_berger : Sheet → ℕ → ℕ
sonneborn_berger sheet start = sum_by (λ round. opponent_score sheet start round * half_points sheet.bye (cell_in sheet start round)) (rounds_of sheet)

-- rows with the same score and the same values so far [tie-breaks]
abbrev pub is_level : RowFacts → RowFacts → Bool
is_level a b = (a.score == b.score) && pointwise (option_eq nat_eq) a.values b.values

-- the start ranks of those who are level with a row, its own among them
abbrev pub group_of : List RowFacts → RowFacts → List ℕ
group_of rows row = map (λ other. other.start) (filter (is_level row) rows)

-- whether all of a group have met each other
abbrev pub have_all_met : Sheet → List ℕ → Bool
have_all_met sheet group = list_all (λ a. list_all (λ b. (a == b) || have_met sheet a b) group) group

-- a game that was played against one of a group
abbrev pub is_against : List ℕ → Cell → Bool
is_against group (Game opponent colour rated got) = list_any (λ other. other == opponent) group
is_against group _ = false

-- the half points of a game against one of a group; of every other round none
abbrev pub points_against : List ℕ → Cell → ℕ
points_against group cell = if is_against group cell then game_points cell else 0

-- the half points of a player from their games against a group
abbrev pub points_among : Sheet → List ℕ → ℕ → ℕ
points_among sheet group start = sum_by (λ round. points_against group (cell_in sheet start round)) (rounds_of sheet)

-- direct encounter: in a group of two or more who have all met each other, the half points of the games among them; in any other group none
-- [tie-breaks; own]
abbrev pub direct_in : Sheet → List ℕ → ℕ → Option ℕ
direct_in sheet group start = if nat_lt 1 (length group) && have_all_met sheet group then Some (points_among sheet group start) else None

-- the value of a key for a row, given rows that have the values of the keys before it [tie-breaks]
abbrev pub value_of : Sheet → List RowFacts → Key → RowFacts → Option ℕ
value_of sheet rows Direct row = direct_in sheet (group_of rows row) row.start
value_of sheet rows Buchholz row = Some (buchholz sheet row.start)
value_of sheet rows SonnebornBerger row = Some (sonneborn_berger sheet row.start)
