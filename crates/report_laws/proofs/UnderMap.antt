-- What a report says under a map of start ranks that tells its players apart: the same of each player.
use Rattle.std.proofs.Common.{◌≡◌, ℕ, zero, suc, ◌+◌, ◌<◌, Bool, true, false, not, ◌&&◌, ◌||◌, ◌==◌, cond, ◌-◌, List, [], ◌∷◌, ◌++◌, take, map, Option, Some, None, refl, sym, ap, ◌∙◌}
use Rattle.std.specs.Prelude.{codes, sum_by, option_map}
use Rattle.std.specs.List.{flat_map, list_any}
use Rattle.std.specs.Option.{option_map_or}
use Rattle.std.proofs.Math.ListN.{get_or-map}
use Rattle.std.proofs.lemmas.Bool.{eqb-true, eqb-false, eq-eqb, ne_eqb, true≢false}
use Rattle.std.proofs.lemmas.List.Sums.{sum_by-cons}
use Rattle.trf16_report.specs.Prelude.{columns, words_of, number_of, is_word, is_kind, is_named, names_absent, names_both, Entry, Sheet, known, cell_at, cell_in, cells_of, is_paired, last_paired, last_paired_of, rounds_played, half_points, points_upto, some_carried, is_absence, is_named_absent, absent, apart, name_of, name_in, player_of, rating_of, renumbered_by, renumbered_cell, renumbered_entry, renumbered_line, names_start_ranks}
use Rattle.trf16_report.specs.declared.cell.Bye.TheVariants.{Half, Full, Allocated, Zero}
use Rattle.trf16_report.specs.declared.cell.Cell.{Cell}
use Rattle.trf16_report.specs.declared.cell.Cell.TheVariants.{Blank, Bye, Game, Forfeit, Unfinished}
use Rattle.trf16_laws.proofs.WrittenNumbers.{number_of-decimal}
use Rattle.trf16_writer.proofs.NewStartRanks.{has_player}
use Rattle.report_laws.proofs.RenumberedLine.{word_for, new_words, kind_same, words_named}

-- a map of start ranks: no two players have one new number, nobody else has one, and each has four digits at most
pub record IsMap (players : List Entry) (new : ℕ → ℕ) : Type 0 where
  pub once : (a b : ℕ) → has_player players a ≡ true → has_player players b ≡ true → new a ≡ new b → a ≡ b
  pub some : (a : ℕ) → has_player players a ≡ true → (new a == 0) ≡ false
  pub none : (a : ℕ) → has_player players a ≡ false → new a ≡ 0
  pub small : (a : ℕ) → new a < 10000

module _ (all : List Entry) (new : ℕ → ℕ) (m : IsMap all new) where
  pub eq-new : (a b : ℕ) → has_player all a ≡ true → has_player all b ≡ true → (new a == new b) ≡ (a == b)
  eq-new a b is is' = by (a == b) refl
    where
      by : (same : Bool) → (a == b) ≡ same → (new a == new b) ≡ same
      by true e = eq-eqb (new a) (new b) (ap new (eqb-true a b e))
      by false e = ne_eqb (new a) (new b) (λ s. eqb-false a b e (m.once a b is is' s))

  -- some of the players
  abbrev pub AreOfAll : List Entry → Type 0
  AreOfAll xs = (b : ℕ) → has_player xs b ≡ true → has_player all b ≡ true

  head_of : (x : Entry) (xs : List Entry) → AreOfAll (x ∷ xs) → has_player all x.start ≡ true
  head_of x xs are = are x.start (ap (λ b. b || has_player xs x.start) (eq-eqb x.start x.start refl))

  or_true : (b : Bool) → (b || true) ≡ true
  or_true true = refl
  or_true false = refl

  rest_of : (x : Entry) (xs : List Entry) → AreOfAll (x ∷ xs) → AreOfAll xs
  rest_of x xs are b is = are b (ap (λ t. (x.start == b) || t) is ∙ or_true (x.start == b))

  pub player_under : (xs : List Entry) (a : ℕ) → AreOfAll xs → has_player all a ≡ true
      → player_of (map (renumbered_entry new) xs) (new a) ≡ option_map (renumbered_entry new) (player_of xs a)
  player_under [] a are is = refl
  player_under (x ∷ xs) a are is =
      rw (eq-new x.start a (head_of x xs are) is) (by (x.start == a) (player_under xs a (rest_of x xs are) is))
    where
      by : (here : Bool) → player_of (map (renumbered_entry new) xs) (new a) ≡ option_map (renumbered_entry new) (player_of xs a)
          → cond here (Some (renumbered_entry new x)) (player_of (map (renumbered_entry new) xs) (new a)) ≡ option_map (renumbered_entry new) (cond here (Some x) (player_of xs a))
      by true later = refl
      by false later = later

  pub cells_under : (xs : List Entry) (a : ℕ) → AreOfAll xs → has_player all a ≡ true
      → cells_of (map (renumbered_entry new) xs) (new a) ≡ map (renumbered_cell new) (cells_of xs a)
  cells_under [] a are is = refl
  cells_under (x ∷ xs) a are is =
      rw (eq-new x.start a (head_of x xs are) is) (by (x.start == a) (cells_under xs a (rest_of x xs are) is))
    where
      by : (here : Bool) → cells_of (map (renumbered_entry new) xs) (new a) ≡ map (renumbered_cell new) (cells_of xs a)
          → cond here (map (renumbered_cell new) x.cells) (cells_of (map (renumbered_entry new) xs) (new a)) ≡ map (renumbered_cell new) (cond here x.cells (cells_of xs a))
      by true later = refl
      by false later = later

  pub has_under : (xs : List Entry) (a : ℕ) → AreOfAll xs → has_player all a ≡ true → has_player (map (renumbered_entry new) xs) (new a) ≡ has_player xs a
  has_under [] a are is = refl
  has_under (x ∷ xs) a are is = rw (eq-new x.start a (head_of x xs are) is, has_under xs a (rest_of x xs are) is) refl

  -- ---- cells

  paired_under : (cell : Cell) → is_paired (renumbered_cell new cell) ≡ is_paired cell
  paired_under Blank = refl
  paired_under (Bye Half) = refl
  paired_under (Bye Full) = refl
  paired_under (Bye Allocated) = refl
  paired_under (Bye Zero) = refl
  paired_under (Game opponent colour rated got) = refl
  paired_under (Forfeit opponent colour won) = refl
  paired_under (Unfinished opponent colour) = refl

  last_under : (cells : List Cell) → last_paired (map (renumbered_cell new) cells) ≡ last_paired cells
  last_under [] = refl
  last_under (cell ∷ cells) = rw (last_under cells, paired_under cell) refl

  pub played_under : (xs : List Entry) → last_paired_of (map (renumbered_entry new) xs) ≡ last_paired_of xs
  played_under [] = refl
  played_under (x ∷ xs) = rw (last_under x.cells, played_under xs) refl

  points_under : (bye : ℕ) (cell : Cell) → half_points bye (renumbered_cell new cell) ≡ half_points bye cell
  points_under bye Blank = refl
  points_under bye (Bye kind) = refl
  points_under bye (Game opponent colour rated got) = refl
  points_under bye (Forfeit opponent colour won) = refl
  points_under bye (Unfinished opponent colour) = refl

  pub sum_under : (bye k : ℕ) (cells : List Cell) → sum_by (half_points bye) (take k (map (renumbered_cell new) cells)) ≡ sum_by (half_points bye) (take k cells)
  sum_under bye zero cells = refl
  sum_under bye (suc k) [] = refl
  sum_under bye (suc k) (cell ∷ cells) =
      sum_by-cons (half_points bye) (renumbered_cell new cell) (take k (map (renumbered_cell new) cells))
      ∙ ap (λ n. n + sum_by (half_points bye) (take k (map (renumbered_cell new) cells))) (points_under bye cell)
      ∙ ap (λ n. half_points bye cell + n) (sum_under bye k cells)
      ∙ sym (sum_by-cons (half_points bye) cell (take k cells))

  absence_under : (cell : Cell) → is_absence (renumbered_cell new cell) ≡ is_absence cell
  absence_under Blank = refl
  absence_under (Bye Half) = refl
  absence_under (Bye Full) = refl
  absence_under (Bye Allocated) = refl
  absence_under (Bye Zero) = refl
  absence_under (Game opponent colour rated got) = refl
  absence_under (Forfeit opponent colour won) = refl
  absence_under (Unfinished opponent colour) = refl

  -- ---- numbers on lines

  or_none : (b : Bool) → (b || false) ≡ b
  or_none true = refl
  or_none false = refl

  word_named : (a n : ℕ) → has_player all a ≡ true → is_named (word_for (new n)) (new a) ≡ (n == a)
  word_named a n is = by (has_player all n) refl
    where
      shown : (k : ℕ) → k < 10000 → (k == 0) ≡ false → is_named (word_for k) (new a) ≡ (k == new a)
      shown zero lt other = absurd (true≢false other)
      shown (suc k) lt other = rw (number_of-decimal (suc k) lt) (or_none (suc k == new a))

      by : (player : Bool) → has_player all n ≡ player → is_named (word_for (new n)) (new a) ≡ (n == a)
      by true e = shown (new n) (m.small n) (m.some n e) ∙ eq-new n a e is
      by false e = rw (m.none n e) (sym (ne_eqb n a (λ s. true≢false (sym is ∙ ap (has_player all) (sym s) ∙ e))))

  named_append : (xs ys : List (List ℕ)) (a : ℕ) → is_named (xs ++ ys) a ≡ (is_named xs a || is_named ys a)
  named_append [] ys a = refl
  named_append (x ∷ xs) ys a = by (option_map_or (λ n. n == a) (number_of x) false) (named_append xs ys a)
    where
      by : (here : Bool) → is_named (xs ++ ys) a ≡ (is_named xs a || is_named ys a) → (here || is_named (xs ++ ys) a) ≡ ((here || is_named xs a) || is_named ys a)
      by true later = refl
      by false later = later

  pub named_under : (ws : List (List ℕ)) (a : ℕ) → has_player all a ≡ true → is_named (flat_map (new_words new) ws) (new a) ≡ is_named ws a
  named_under [] a is = refl
  named_under (w ∷ ws) a is = by (number_of w) (named_under ws a is)
    where
      by : (o : Option ℕ) → is_named (flat_map (new_words new) ws) (new a) ≡ is_named ws a
          → is_named (option_map_or (λ n. word_for (new n)) o [] ++ flat_map (new_words new) ws) (new a) ≡ (option_map_or (λ n. n == a) o false || is_named ws a)
      by None later = later
      by (Some n) later = named_append (word_for (new n)) (flat_map (new_words new) ws) (new a) ∙ rw (word_named a n is, later) refl

  -- ---- the whole report

  abbrev pub under : Sheet → Sheet
  under sheet = renumbered_by new sheet

  one_kind : (capitals : List ℕ) (utf8 : Bool) (line : List ℕ) → is_kind capitals (columns utf8 (renumbered_line utf8 new line)) ≡ is_kind capitals (columns utf8 line)
  one_kind capitals utf8 line = ap (λ (kind : List ℕ). is_word kind capitals) (kind_same new m.small utf8 line)

  some_under : (test test' : List (List ℕ) → Bool) (utf8 : Bool) (lines : List (Option (List ℕ)))
      → ((line : List ℕ) → test' (columns utf8 (renumbered_line utf8 new line)) ≡ test (columns utf8 line))
      → list_any (λ line. option_map_or (λ bytes. test' (columns utf8 bytes)) line false) (map (option_map (renumbered_line utf8 new)) lines)
      ≡ list_any (λ line. option_map_or (λ bytes. test (columns utf8 bytes)) line false) lines
  some_under test test' utf8 [] same = refl
  some_under test test' utf8 (None ∷ lines) same = some_under test test' utf8 lines same
  some_under test test' utf8 (Some line ∷ lines) same = rw (same line, some_under test test' utf8 lines same) refl

  -- a line that names start ranks names the new ones
  words_new : (utf8 : Bool) (line : List ℕ) (a : ℕ) → has_player all a ≡ true → names_start_ranks (columns utf8 line) ≡ true
      → is_named (words_of (columns utf8 (renumbered_line utf8 new line))) (new a) ≡ is_named (words_of (columns utf8 line)) a
  words_new utf8 line a is h = ap (λ (ws : List (List ℕ)). is_named ws (new a)) (words_named new m.small utf8 line h) ∙ named_under (words_of (columns utf8 line)) a is

  absent_line : (utf8 : Bool) (line : List ℕ) (a : ℕ) → has_player all a ≡ true
      → names_absent (new a) (columns utf8 (renumbered_line utf8 new line)) ≡ names_absent a (columns utf8 line)
  absent_line utf8 line a is = rw (one_kind (codes "XXZ") utf8 line) (by (is_kind (codes "XXZ") (columns utf8 line)) refl)
    where
      by : (z : Bool) → is_kind (codes "XXZ") (columns utf8 line) ≡ z
          → (z && is_named (words_of (columns utf8 (renumbered_line utf8 new line))) (new a)) ≡ (z && is_named (words_of (columns utf8 line)) a)
      by true e = words_new utf8 line a is (ap (λ b. b || is_kind (codes "XXP") (columns utf8 line)) e)
      by false e = refl

  both_line : (utf8 : Bool) (line : List ℕ) (a b : ℕ) → has_player all a ≡ true → has_player all b ≡ true
      → names_both (new a) (new b) (columns utf8 (renumbered_line utf8 new line)) ≡ names_both a b (columns utf8 line)
  both_line utf8 line a b is is' = rw (one_kind (codes "XXP") utf8 line) (by (is_kind (codes "XXP") (columns utf8 line)) refl)
    where
      by : (p : Bool) → is_kind (codes "XXP") (columns utf8 line) ≡ p
          → (p && (is_named (words_of (columns utf8 (renumbered_line utf8 new line))) (new a) && is_named (words_of (columns utf8 (renumbered_line utf8 new line))) (new b)))
          ≡ (p && (is_named (words_of (columns utf8 line)) a && is_named (words_of (columns utf8 line)) b))
      by true e =
          let names : names_start_ranks (columns utf8 line) ≡ true = ap (λ t. is_kind (codes "XXZ") (columns utf8 line) || t) e ∙ or_true (is_kind (codes "XXZ") (columns utf8 line)) in
          rw (words_new utf8 line a is names, words_new utf8 line b is' names) refl
      by false e = refl

module _ (sheet : Sheet) (new : ℕ → ℕ) (m : IsMap sheet.players new) where
  every : (b : ℕ) → has_player sheet.players b ≡ true → has_player sheet.players b ≡ true
  every b is = is

  pub cell_kept : (a round : ℕ) → known sheet a ≡ true → cell_in (renumbered_by new sheet) (new a) round ≡ renumbered_cell new (cell_in sheet a round)
  cell_kept a round is =
      ap (λ (cells : List Cell). cell_at cells round) (cells_under sheet.players new m sheet.players a every is)
      ∙ get_or-map (renumbered_cell new) (cells_of sheet.players a) (round - 1) Blank

  pub points_kept : (a upto : ℕ) → known sheet a ≡ true → points_upto (renumbered_by new sheet) (new a) upto ≡ points_upto sheet a upto
  points_kept a upto is =
      ap (λ (cells : List Cell). sum_by (half_points sheet.bye) (take upto cells)) (cells_under sheet.players new m sheet.players a every is)
      ∙ sum_under sheet.players new m sheet.bye upto (cells_of sheet.players a)

  rounds_kept : rounds_played (renumbered_by new sheet) ≡ rounds_played sheet
  rounds_kept = played_under sheet.players new m sheet.players

  pub absent_kept : (a : ℕ) → known sheet a ≡ true → absent (renumbered_by new sheet) (new a) ≡ absent sheet a
  absent_kept a is =
      ap (λ b. b || is_absence (cell_in (renumbered_by new sheet) (new a) (rounds_played (renumbered_by new sheet) + 1)))
      (some_under sheet.players new m (names_absent a) (names_absent (new a)) sheet.utf8 sheet.carried (λ line. absent_line sheet.players new m sheet.utf8 line a is))
      ∙ ap (λ n. is_named_absent sheet a || is_absence (cell_in (renumbered_by new sheet) (new a) (n + 1))) rounds_kept
      ∙ ap (λ c. is_named_absent sheet a || is_absence c) (cell_kept a (rounds_played sheet + 1) is)
      ∙ ap (λ b. is_named_absent sheet a || b) (absence_under sheet.players new m (cell_in sheet a (rounds_played sheet + 1)))

  pub apart_kept : (a b : ℕ) → known sheet a ≡ true → known sheet b ≡ true → apart (renumbered_by new sheet) (new a) (new b) ≡ apart sheet a b
  apart_kept a b is is' =
      ap (λ t. not t && some_carried (names_both (new a) (new b)) (renumbered_by new sheet)) (eq-new sheet.players new m a b is is')
      ∙ ap (λ t. not (a == b) && t)
      (some_under sheet.players new m (names_both a b) (names_both (new a) (new b)) sheet.utf8 sheet.carried (λ line. both_line sheet.players new m sheet.utf8 line a b is is'))

  pub name_kept : (a : ℕ) → known sheet a ≡ true → name_in (renumbered_by new sheet) (new a) ≡ name_in sheet a
  name_kept a is =
      ap (λ o. option_map_or (name_of sheet.utf8) o []) (player_under sheet.players new m sheet.players a every is) ∙ by (player_of sheet.players a)
    where
      by : (o : Option Entry) → option_map_or (name_of sheet.utf8) (option_map (renumbered_entry new) o) [] ≡ option_map_or (name_of sheet.utf8) o []
      by None = refl
      by (Some x) = refl

  pub rating_kept : (a : ℕ) → known sheet a ≡ true
      → option_map (rating_of sheet.utf8) (player_of (renumbered_by new sheet).players (new a)) ≡ option_map (rating_of sheet.utf8) (player_of sheet.players a)
  rating_kept a is =
      ap (λ (o : Option Entry). option_map (rating_of sheet.utf8) o) (player_under sheet.players new m sheet.players a every is) ∙ by (player_of sheet.players a)
    where
      by : (o : Option Entry) → option_map (rating_of sheet.utf8) (option_map (renumbered_entry new) o) ≡ option_map (rating_of sheet.utf8) o
      by None = refl
      by (Some x) = refl
