-- Two reports whose players have the same start ranks and cells have the same rows.
use Rattle.std.proofs.Common.{◌≡◌, ◌∙◌, ℕ, ◌-◌, ◌*◌, Bool, ◌||◌, ◌&&◌, ◌==◌, nat_lt, if◌then◌else◌, List, [], ◌∷◌, length, map, refl, sym, ap, Option, Some, None}
use Rattle.std.specs.Prelude.{sum_by, take}
use Rattle.std.specs.List.{list_all, list_any, range_with_len}
use mathlib.Core.Path.{fun_ext}
use Rattle.trf16_report.specs.declared.cell.Cell.{Cell}
use Rattle.trf16_report.specs.declared.cell.Cell.TheVariants.{Blank, Bye, Game, Forfeit, Unfinished}
use Rattle.trf16_report.specs.Prelude.{Entry, Sheet, cell_at, cell_in, cells_of, half_points, points_upto, rounds_played, starts_of}
use Rattle.tables.specs.declared.key.Key.{Key}
use Rattle.tables.specs.declared.key.Key.TheVariants.{Direct, Buchholz, SonnebornBerger}
use Rattle.tables.specs.Prelude.{RowFacts, buchholz, direct_in, group_of, have_all_met, have_met, is_game_with, opponent_score, points_against, points_among, rows_in_order, rounds_of, row_of, rows_of, score, score_met, sonneborn_berger, value_of, virtual_score, with_key, with_keys, with_value}

-- the players of two reports have the same start ranks and cells
pub record HasSameGames (s t : Sheet) : Type 0 where
  pub starts : starts_of s.players ≡ starts_of t.players
  pub cells : (start : ℕ) → cells_of s.players start ≡ cells_of t.players start
  pub rounds : rounds_played s ≡ rounds_played t
  pub bye : s.bye ≡ t.bye

module _ (s t : Sheet) (same : HasSameGames s t) where
  cell_same : (a round : ℕ) → cell_in s a round ≡ cell_in t a round
  cell_same a round = ap (λ (cells : List Cell). cell_at cells round) (same.cells a)

  half_same : (a round : ℕ) → half_points s.bye (cell_in s a round) ≡ half_points t.bye (cell_in t a round)
  half_same a round = ap (λ bye. half_points bye (cell_in s a round)) same.bye ∙ ap (half_points t.bye) (cell_same a round)

  rounds_same : rounds_of s ≡ rounds_of t
  rounds_same = ap (λ n. range_with_len 1 n) same.rounds

  points_same : (a upto : ℕ) → points_upto s a upto ≡ points_upto t a upto
  points_same a upto =
      ap (λ bye. sum_by (half_points bye) (take upto (cells_of s.players a))) same.bye
      ∙ ap (λ (cells : List Cell). sum_by (half_points t.bye) (take upto cells)) (same.cells a)

  score_same : (a : ℕ) → score s a ≡ score t a
  score_same a = ap (points_upto s a) same.rounds ∙ points_same a (rounds_played t)

  virtual_same : (a round : ℕ) → virtual_score s a round ≡ virtual_score t a round
  virtual_same a round = rw (points_same a (round - 1), half_same a round, same.rounds) refl

  met_same : (a round : ℕ) (cell : Cell) → score_met s a round cell ≡ score_met t a round cell
  met_same a round Blank = virtual_same a round
  met_same a round (Bye kind) = virtual_same a round
  met_same a round (Game opponent colour rated got) = score_same opponent
  met_same a round (Forfeit opponent colour won) = virtual_same a round
  met_same a round (Unfinished opponent colour) = virtual_same a round

  opponent_same : (a round : ℕ) → opponent_score s a round ≡ opponent_score t a round
  opponent_same a round = ap (score_met s a round) (cell_same a round) ∙ met_same a round (cell_in t a round)

  buchholz_same : (a : ℕ) → buchholz s a ≡ buchholz t a
  buchholz_same a =
      ap (λ (rounds : List ℕ). sum_by (opponent_score s a) rounds) rounds_same
      ∙ ap (λ (f : ℕ → ℕ). sum_by f (rounds_of t)) (fun_ext (opponent_same a))

  sonneborn_same : (a : ℕ) → sonneborn_berger s a ≡ sonneborn_berger t a
  sonneborn_same a =
      ap (λ (rounds : List ℕ). sum_by (λ round. opponent_score s a round * half_points s.bye (cell_in s a round)) rounds) rounds_same
      ∙ ap (λ (f : ℕ → ℕ). sum_by f (rounds_of t))
      (fun_ext (λ round.
      ap (λ n. n * half_points s.bye (cell_in s a round)) (opponent_same a round) ∙ ap (λ n. opponent_score t a round * n) (half_same a round)))

  have_met_same : (a b : ℕ) → have_met s a b ≡ have_met t a b
  have_met_same a b =
      ap (λ (rounds : List ℕ). list_any (λ round. is_game_with b (cell_in s a round)) rounds) rounds_same
      ∙ ap (λ (f : ℕ → Bool). list_any f (rounds_of t)) (fun_ext (λ round. ap (is_game_with b) (cell_same a round)))

  all_met_same : (group : List ℕ) → have_all_met s group ≡ have_all_met t group
  all_met_same group =
      ap (λ (f : ℕ → Bool). list_all f group)
      (fun_ext (λ a. ap (λ (g : ℕ → Bool). list_all g group) (fun_ext (λ b. ap (λ met. (a == b) || met) (have_met_same a b)))))

  among_same : (group : List ℕ) (a : ℕ) → points_among s group a ≡ points_among t group a
  among_same group a =
      ap (λ (rounds : List ℕ). sum_by (λ round. points_against group (cell_in s a round)) rounds) rounds_same
      ∙ ap (λ (f : ℕ → ℕ). sum_by f (rounds_of t)) (fun_ext (λ round. ap (points_against group) (cell_same a round)))

  direct_same : (group : List ℕ) (a : ℕ) → direct_in s group a ≡ direct_in t group a
  direct_same group a =
      ap (λ met. if nat_lt 1 (length group) && met then Some (points_among s group a) else None) (all_met_same group)
      ∙ ap (λ n. if nat_lt 1 (length group) && have_all_met t group then Some n else None) (among_same group a)

  value_same : (rows : List RowFacts) (key : Key) (row : RowFacts) → value_of s rows key row ≡ value_of t rows key row
  value_same rows Direct row = direct_same (group_of rows row) row.start
  value_same rows Buchholz row = ap (λ n. Some n) (buchholz_same row.start)
  value_same rows SonnebornBerger row = ap (λ n. Some n) (sonneborn_same row.start)

  key_same : (key : Key) (rows : List RowFacts) → with_key s key rows ≡ with_key t key rows
  key_same key rows =
      ap (λ (f : RowFacts → RowFacts). map f rows) (fun_ext (λ row. ap (with_value row) (value_same rows key row)))

  keys_same : (keys : List Key) (rows : List RowFacts) → with_keys s keys rows ≡ with_keys t keys rows
  keys_same [] rows = refl
  keys_same (key ∷ rest) rows = ap (with_keys s rest) (key_same key rows) ∙ keys_same rest (with_key t key rows)

  -- a row before any key, by the start rank
  abbrev first_row : Sheet → ℕ → RowFacts
  first_row sheet start = record { start = start; score = score sheet start; values = [] }

  by_start : (sheet : Sheet) (entries : List Entry) → map (row_of sheet) entries ≡ map (first_row sheet) (starts_of entries)
  by_start sheet [] = refl
  by_start sheet (entry ∷ entries) = ap (λ (rows : List RowFacts). row_of sheet entry ∷ rows) (by_start sheet entries)

  row_same : (start a b : ℕ) → a ≡ b → ◌≡◌ {A = RowFacts} (record { start = start; score = a; values = [] }) (record { start = start; score = b; values = [] })
  row_same start a b e = rw e refl

  first_same : map (row_of s) s.players ≡ map (row_of t) t.players
  first_same =
      by_start s s.players ∙ ap (λ (starts : List ℕ). map (first_row s) starts) same.starts
      ∙ ap (λ (f : ℕ → RowFacts). map f (starts_of t.players))
      (fun_ext (λ start. row_same start (score s start) (score t start) (score_same start)))
      ∙ sym (by_start t t.players)

  pub rows_same : (keys : List Key) → rows_of s keys ≡ rows_of t keys
  rows_same keys =
      ap rows_in_order (ap (with_keys s keys) first_same ∙ keys_same keys (map (row_of t) t.players))
