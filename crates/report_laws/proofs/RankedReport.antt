-- What does not look at the rank columns is the same in a report with the players' places.
use Rattle.std.proofs.Common.{◌≡◌, ◌∙◌, ℕ, cond, ◌==◌, List, [], ◌∷◌, map, Result, Ok, Some, refl, ap}
use Rattle.std.specs.Prelude.{max}
use Rattle.std.specs.Option.{option_map_or}
use Rattle.tables.specs.declared.fault.TieFault.{TieFault}
use Rattle.tables.specs.declared.key.Key.{Key}
use Rattle.tables.specs.Prelude.{RowFacts, has_standings, rows_of, standings_of}
use Rattle.tables.proofs.SameGames.{HasSameGames, rows_same}
use Rattle.trf16_report.specs.Outcomes.{◌>>=◌}
use Rattle.trf16_report.specs.declared.cell.Cell.{Cell}
use Rattle.trf16_report.specs.Prelude.{Entry, Sheet, cells_of, first_unfinished, last_paired, last_paired_of, starts_of, unfinished_of}
use Rattle.ranks.specs.Prelude.{entry_ranked, with_places, with_ranks}

module _ (rows : List RowFacts) where
  starts_kept : (entries : List Entry) → starts_of (map (entry_ranked rows) entries) ≡ starts_of entries
  starts_kept [] = refl
  starts_kept (entry ∷ entries) = ap (λ (starts : List ℕ). entry.start ∷ starts) (starts_kept entries)

  cells_kept : (entries : List Entry) (start : ℕ) → cells_of (map (entry_ranked rows) entries) start ≡ cells_of entries start
  cells_kept [] start = refl
  cells_kept (entry ∷ entries) start = ap (λ (cells : List Cell). cond (entry.start == start) entry.cells cells) (cells_kept entries start)

  rounds_kept : (entries : List Entry) → last_paired_of (map (entry_ranked rows) entries) ≡ last_paired_of entries
  rounds_kept [] = refl
  rounds_kept (entry ∷ entries) = ap (λ n. max (last_paired entry.cells) n) (rounds_kept entries)

  unfinished_kept : (entries : List Entry) → unfinished_of (map (entry_ranked rows) entries) ≡ unfinished_of entries
  unfinished_kept [] = refl
  unfinished_kept (entry ∷ entries) =
      ap (λ later. option_map_or (λ round. Some (entry.start, round)) (first_unfinished 1 entry.cells) later) (unfinished_kept entries)

  again : (entries : List Entry) → map (entry_ranked rows) (map (entry_ranked rows) entries) ≡ map (entry_ranked rows) entries
  again [] = refl
  again (entry ∷ entries) = ap (λ (es : List Entry). entry_ranked rows entry ∷ es) (again entries)

same_games : (rows : List RowFacts) (sheet : Sheet) → HasSameGames (with_places rows sheet) sheet
same_games rows sheet = record {
  starts = starts_kept rows sheet.players;
  cells = cells_kept rows sheet.players;
  rounds = rounds_kept rows sheet.players;
  bye = refl;
}

has_standings_kept : (rows : List RowFacts) (sheet : Sheet) → has_standings (with_places rows sheet) ≡ has_standings sheet
unfolding has_standings
has_standings_kept rows sheet = rw (unfinished_kept rows sheet.players) refl

pub standings_kept : (sheet : Sheet) (keys other : List Key) → standings_of (with_ranks keys sheet) other ≡ standings_of sheet other
unfolding standings_of
standings_kept sheet keys other =
    let ranked = with_ranks keys sheet in
    ap (λ (first : Result (Unit {0}) TieFault). first >>= (λ _. Ok (rows_of ranked other))) (has_standings_kept (rows_of sheet keys) sheet)
    ∙ ap (λ (rows : List RowFacts). has_standings sheet >>= (λ _. Ok rows)) (rows_same ranked sheet (same_games (rows_of sheet keys) sheet) other)

pub ranked_twice : (sheet : Sheet) (keys : List Key) → with_ranks keys (with_ranks keys sheet) ≡ with_ranks keys sheet
ranked_twice sheet keys =
    let rows = rows_of sheet keys in
    ap (λ (found : List RowFacts). with_places found (with_places rows sheet)) (rows_same (with_places rows sheet) sheet (same_games rows sheet) keys)
    ∙ ap (λ (entries : List Entry). record sheet { players = entries }) (again rows sheet.players)
