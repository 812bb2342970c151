-- The players of a report under a map of start ranks: what the reading asks of them holds as before.
--
-- Whoever a cell names is a player, by the rules on two players, so each opponent has a new number. The map tells the players apart, so a
-- cell of a player is answered by the cell of the same opponent; colours, results and points stay.
use Rattle.std.proofs.Common.{◌≡◌, ℕ, zero, suc, ◌+◌, ◌-◌, ◌<◌, ◌≤◌, Bool, true, false, ◌&&◌, ◌||◌, ◌==◌, nat_lt, cond, List, [], ◌∷◌, length, take, map, refl, sym, ap, ◌∙◌, arith, Option, Some, None, Result, Ok, Err}
use Rattle.std.specs.Prelude.{codes, sum_by, option_map}
use Rattle.std.specs.List.{AllByRecursion, list_all, list_any}
use Rattle.std.specs.Option.{option_map_or}
use Rattle.std.proofs.Math.ListN.{get_or-map}
use Rattle.std.proofs.lemmas.Bool.{and_from, eqb-true, eqb-false, eq-eqb, ne_eqb, lt-ltb, le-leb}
use Rattle.std.proofs.lemmas.List.{length-map}
use Rattle.std.proofs.lemmas.List.Sums.{sum_by-cons}
use Rattle.trf16_report.specs.Prelude.{columns, without_last, is_kind, Entry, Sheet, known, cell_at, cell_in, cells_of, is_paired, last_paired, last_paired_of, rounds_played, half_points, game_points, opponent_in_cell, colour_in_cell, is_forfeit, are_of_one_class, has_other_points, pair_fits, cell_fits, cells_fit, points_fit, player_fits, players_fit, is_blank_cell, new_start, renumbered_by, renumbered_cell, renumbered_entry, renumbered_line}
use Rattle.trf16_report.specs.declared.cell.Bye.TheVariants.{Half, Full, Allocated, Zero}
use Rattle.trf16_report.specs.declared.cell.Cell.{Cell}
use Rattle.trf16_report.specs.declared.cell.Cell.TheVariants.{Blank, Bye, Game, Forfeit, Unfinished}
use Rattle.trf16_report.specs.declared.fault.Fault.{Fault}
use Rattle.trf16_report.specs.declared.fault.Fault.TheVariants.{Points}
use Rattle.trf16_report.specs.declared.limits.TheConstants.{MOST_PLAYERS}
use Rattle.trf16_writer.proofs.BoardLemmas.{eq-self}
use Rattle.trf16_laws.proofs.MeetingLemmas.{PairFits, cell_is}
use Rattle.trf16_laws.proofs.PairedRound.{fits-none}
use Rattle.trf16_report.proofs.StepLemmas.{then_ok}
use Rattle.trf16_laws.proofs.WrittenCells.{is_sound}
use Rattle.trf16_laws.proofs.WrittenFields.{are_small}
use Rattle.trf16_laws.proofs.WrittenPlayers.{IsSoundEntry}
use Rattle.trf16_laws.proofs.WrittenReport.{are_all_small, are_all_sound}
use Rattle.trf16_writer.proofs.NewStartRanks.{new_within, new_once, new_most}
use Rattle.report_laws.proofs.NumberedLine.{same_kind}

abbrev fits : Result (Unit {0}) Fault
fits = Ok (tt {0})

-- ---- the map

-- a map of start ranks tells the players apart, and each of them has a number of at most four digits
pub record TellsApart (sheet : Sheet) (new : ℕ → ℕ) : Type 0 where
  pub same : (a b : ℕ) → known sheet a ≡ true → known sheet b ≡ true → (new a == new b) ≡ (a == b)
  pub some : (a : ℕ) → known sheet a ≡ true → 0 < new a
  pub small : (a : ℕ) → new a < 10000

pub tells_apart : (sheet : Sheet) → length sheet.players ≤ MOST_PLAYERS → TellsApart sheet (new_start sheet)
tells_apart sheet few = record {
  same = λ a b is is'. by a b is is' (a == b) refl;
  some = λ a is. (new_within sheet a is).0;
  small = λ a. let most : new_start sheet a ≤ length sheet.players = new_most sheet a in omega arith;
}
  where
    by : (a b : ℕ) → known sheet a ≡ true → known sheet b ≡ true → (b' : Bool) → (a == b) ≡ b' → (new_start sheet a == new_start sheet b) ≡ b'
    by a b is is' true e = eq-eqb (new_start sheet a) (new_start sheet b) (ap (new_start sheet) (eqb-true a b e))
    by a b is is' false e = ne_eqb (new_start sheet a) (new_start sheet b) (λ s. eqb-false a b e (new_once sheet a b is is' s))

or_true : (b : Bool) → (b || true) ≡ true
or_true true = refl
or_true false = refl

abbrev pub has_start : List Entry → ℕ → Bool
has_start entries start = list_any (λ (entry : Entry). entry.start == start) entries

-- what holds of each start rank of some players holds of each of them
pub each_has : (P : ℕ → Type 0) (entries : List Entry) → ((a : ℕ) → has_start entries a ≡ true → P a) → AllByRecursion (λ (entry : Entry). P entry.start) entries
each_has P [] all = tt
each_has P (entry ∷ rest) all = (
  all entry.start (rw (eq-self entry.start) refl),
  each_has P rest (λ a is. all a (ap (λ b. (entry.start == a) || b) is ∙ or_true (entry.start == a))),
)

-- ---- cells

module _ (new : ℕ → ℕ) where
  abbrev TellsFrom : ℕ → List Entry → Type 0
  TellsFrom a entries = AllByRecursion (λ (entry : Entry). (new entry.start == new a) ≡ (entry.start == a)) entries

  pub known_new : (entries : List Entry) (a : ℕ) → TellsFrom a entries → has_start (map (renumbered_entry new) entries) (new a) ≡ has_start entries a
  known_new [] a tells = refl
  known_new (entry ∷ rest) a tells = rw (tells.0, known_new rest a tells.1) refl

  cells_new : (entries : List Entry) (a : ℕ) → TellsFrom a entries → cells_of (map (renumbered_entry new) entries) (new a) ≡ map (renumbered_cell new) (cells_of entries a)
  cells_new [] a tells = refl
  cells_new (entry ∷ rest) a tells = rw tells.0 (by (entry.start == a) (cells_new rest a tells.1))
    where
      by : (here : Bool) → cells_of (map (renumbered_entry new) rest) (new a) ≡ map (renumbered_cell new) (cells_of rest a)
          → cond here (map (renumbered_cell new) entry.cells) (cells_of (map (renumbered_entry new) rest) (new a)) ≡ map (renumbered_cell new) (cond here entry.cells (cells_of rest a))
      by true later = refl
      by false later = later

  opponent_new : (cell : Cell) → opponent_in_cell (renumbered_cell new cell) ≡ option_map new (opponent_in_cell cell)
  opponent_new Blank = refl
  opponent_new (Bye bye) = refl
  opponent_new (Game opponent colour rated got) = refl
  opponent_new (Forfeit opponent colour won) = refl
  opponent_new (Unfinished opponent colour) = refl

  colour_new : (cell : Cell) → colour_in_cell (renumbered_cell new cell) ≡ colour_in_cell cell
  colour_new Blank = refl
  colour_new (Bye bye) = refl
  colour_new (Game opponent colour rated got) = refl
  colour_new (Forfeit opponent colour won) = refl
  colour_new (Unfinished opponent colour) = refl

  forfeit_new : (cell : Cell) → is_forfeit (renumbered_cell new cell) ≡ is_forfeit cell
  forfeit_new Blank = refl
  forfeit_new (Bye bye) = refl
  forfeit_new (Game opponent colour rated got) = refl
  forfeit_new (Forfeit opponent colour won) = refl
  forfeit_new (Unfinished opponent colour) = refl

  blank_new : (cell : Cell) → is_blank_cell (renumbered_cell new cell) ≡ is_blank_cell cell
  blank_new Blank = refl
  blank_new (Bye bye) = refl
  blank_new (Game opponent colour rated got) = refl
  blank_new (Forfeit opponent colour won) = refl
  blank_new (Unfinished opponent colour) = refl

  paired_new : (cell : Cell) → is_paired (renumbered_cell new cell) ≡ is_paired cell
  paired_new Blank = refl
  paired_new (Bye Half) = refl
  paired_new (Bye Full) = refl
  paired_new (Bye Allocated) = refl
  paired_new (Bye Zero) = refl
  paired_new (Game opponent colour rated got) = refl
  paired_new (Forfeit opponent colour won) = refl
  paired_new (Unfinished opponent colour) = refl

  game_new : (cell : Cell) → game_points (renumbered_cell new cell) ≡ game_points cell
  game_new Blank = refl
  game_new (Bye bye) = refl
  game_new (Game opponent colour rated got) = refl
  game_new (Forfeit opponent colour won) = refl
  game_new (Unfinished opponent colour) = refl

  half_new : (bye : ℕ) (cell : Cell) → half_points bye (renumbered_cell new cell) ≡ half_points bye cell
  half_new bye Blank = refl
  half_new bye (Bye kind) = refl
  half_new bye (Game opponent colour rated got) = refl
  half_new bye (Forfeit opponent colour won) = refl
  half_new bye (Unfinished opponent colour) = refl

  class_new : (mine theirs : Cell) → are_of_one_class (renumbered_cell new mine) (renumbered_cell new theirs) ≡ are_of_one_class mine theirs
  class_new Blank theirs = refl
  class_new (Bye bye) theirs = refl
  class_new (Game opponent colour true got) Blank = refl
  class_new (Game opponent colour true got) (Bye bye) = refl
  class_new (Game opponent colour true got) (Game opponent' colour' true got') = refl
  class_new (Game opponent colour true got) (Game opponent' colour' false got') = refl
  class_new (Game opponent colour true got) (Forfeit opponent' colour' won) = refl
  class_new (Game opponent colour true got) (Unfinished opponent' colour') = refl
  class_new (Game opponent colour false got) Blank = refl
  class_new (Game opponent colour false got) (Bye bye) = refl
  class_new (Game opponent colour false got) (Game opponent' colour' true got') = refl
  class_new (Game opponent colour false got) (Game opponent' colour' false got') = refl
  class_new (Game opponent colour false got) (Forfeit opponent' colour' won) = refl
  class_new (Game opponent colour false got) (Unfinished opponent' colour') = refl
  class_new (Forfeit opponent colour won) Blank = refl
  class_new (Forfeit opponent colour won) (Bye bye) = refl
  class_new (Forfeit opponent colour won) (Game opponent' colour' rated got) = refl
  class_new (Forfeit opponent colour won) (Forfeit opponent' colour' won') = refl
  class_new (Forfeit opponent colour won) (Unfinished opponent' colour') = refl
  class_new (Unfinished opponent colour) Blank = refl
  class_new (Unfinished opponent colour) (Bye bye) = refl
  class_new (Unfinished opponent colour) (Game opponent' colour' rated got) = refl
  class_new (Unfinished opponent colour) (Forfeit opponent' colour' won) = refl
  class_new (Unfinished opponent colour) (Unfinished opponent' colour') = refl

  pair_new : (start round : ℕ) (mine theirs : Cell) → PairFits mine theirs → pair_fits start round (renumbered_cell new mine) (renumbered_cell new theirs) ≡ fits
  unfolding pair_fits
  pair_new start round mine theirs pair =
      rw (
        colour_new mine,
        colour_new theirs,
        forfeit_new mine,
        forfeit_new theirs,
        pair.colours,
        class_new mine theirs,
        pair.class,
        game_new mine,
        game_new theirs,
        le-leb (game_points mine + game_points theirs) 2 pair.points,
      ) refl

  -- ---- the cells of a player

  last_new : (cells : List Cell) → last_paired (map (renumbered_cell new) cells) ≡ last_paired cells
  last_new [] = refl
  last_new (cell ∷ rest) = rw (last_new rest, paired_new cell) refl

  played_new : (entries : List Entry) → last_paired_of (map (renumbered_entry new) entries) ≡ last_paired_of entries
  played_new [] = refl
  played_new (entry ∷ rest) = rw (last_new entry.cells, played_new rest) refl

  sum_new : (bye : ℕ) (cells : List Cell) → sum_by (half_points bye) (map (renumbered_cell new) cells) ≡ sum_by (half_points bye) cells
  sum_new bye [] = refl
  sum_new bye (cell ∷ rest) =
      sum_by-cons (half_points bye) (renumbered_cell new cell) (map (renumbered_cell new) rest)
      ∙ rw (half_new bye cell, sum_new bye rest) (sym (sum_by-cons (half_points bye) cell rest))

  take_new : (n : ℕ) (cells : List Cell) → take n (map (renumbered_cell new) cells) ≡ map (renumbered_cell new) (take n cells)
  take_new zero cells = refl
  take_new (suc n) [] = refl
  take_new (suc n) (cell ∷ rest) = ap (λ (cells : List Cell). renumbered_cell new cell ∷ cells) (take_new n rest)

  blanks_new : (cells : List Cell) → list_all is_blank_cell (map (renumbered_cell new) cells) ≡ list_all is_blank_cell cells
  blanks_new [] = refl
  blanks_new (cell ∷ rest) = rw (blank_new cell, blanks_new rest) refl

  cut_new : (cells : List Cell) → without_last is_blank_cell (map (renumbered_cell new) cells) ≡ map (renumbered_cell new) (without_last is_blank_cell cells)
  cut_new [] = refl
  cut_new (cell ∷ rest) = rw (blank_new cell, blanks_new rest, cut_new rest) (by (is_blank_cell cell && list_all is_blank_cell rest))
    where
      by : (b : Bool) → cond b [] (renumbered_cell new cell ∷ map (renumbered_cell new) (without_last is_blank_cell rest))
          ≡ map (renumbered_cell new) (cond b [] (cell ∷ without_last is_blank_cell rest))
      by true = refl
      by false = refl

-- ---- the rules on players

module _ (sheet : Sheet) (new : ℕ → ℕ) (m : TellsApart sheet new) where
  abbrev after : Sheet
  after = renumbered_by new sheet

  tells : (a : ℕ) → known sheet a ≡ true → TellsFrom new a sheet.players
  tells a is = each_has (λ b. (new b == new a) ≡ (b == a)) sheet.players (λ b is'. m.same b a is' is)

  known_after : (a : ℕ) → known sheet a ≡ true → known after (new a) ≡ true
  known_after a is = known_new new sheet.players a (tells a is) ∙ is

  cell_after : (a round : ℕ) → known sheet a ≡ true → cell_in after (new a) round ≡ renumbered_cell new (cell_in sheet a round)
  cell_after a round is =
      ap (λ (cells : List Cell). cell_at cells round) (cells_new new sheet.players a (tells a is))
      ∙ get_or-map (renumbered_cell new) (cells_of sheet.players a) (round - 1) Blank

  cell_fits-new : (start round : ℕ) (mine : Cell) → known sheet start ≡ true → cell_fits sheet start round mine ≡ fits → cell_fits after (new start) round (renumbered_cell new mine) ≡ fits
  unfolding cell_fits
  cell_fits-new start round mine is fit = by (opponent_in_cell mine) refl
    where
      by : (o : Option ℕ) → opponent_in_cell mine ≡ o → cell_fits after (new start) round (renumbered_cell new mine) ≡ fits
      by None e = fits-none after (new start) round (renumbered_cell new mine) (opponent_new new mine ∙ ap (option_map new) e)
      by (Some opponent) e =
          let c = cell_is sheet start round opponent mine e fit in
          let theirs = cell_in sheet opponent round in
          let names : opponent_in_cell (renumbered_cell new mine) ≡ Some (new opponent) = opponent_new new mine ∙ ap (option_map new) e in
          let other : (new opponent == new start) ≡ false = m.same opponent start c.player is ∙ ne_eqb opponent start c.another in
          let back : opponent_in_cell (renumbered_cell new theirs) ≡ Some (new start) = opponent_new new theirs ∙ ap (option_map new) c.both_ways in
          rw (names, known_after opponent c.player, other, cell_after opponent round c.player, back, eq-self (new start))
          (pair_new new (new start) round mine theirs c.pair)

  cells_fit-new : (start n : ℕ) (cells : List Cell) → known sheet start ≡ true → cells_fit sheet start n cells ≡ fits → cells_fit after (new start) n (map (renumbered_cell new) cells) ≡ fits
  unfolding cells_fit
  cells_fit-new start n [] is fit = refl
  cells_fit-new start n (cell ∷ rest) is fit =
      let step = then_ok (cell_fits sheet start n cell) (λ _. cells_fit sheet start (n + 1) rest) (tt {0}) fit in
      rw (cell_fits-new start n cell is step.1) (cells_fit-new start (n + 1) rest is step.2)

  -- each opponent is a player, and so has a new number
  sound_new : (start n : ℕ) (cells : List Cell) → cells_fit sheet start n cells ≡ fits → list_all is_sound (map (renumbered_cell new) cells) ≡ true
  unfolding cells_fit
  sound_new start n [] fit = refl
  sound_new start n (cell ∷ rest) fit =
      let step = then_ok (cell_fits sheet start n cell) (λ _. cells_fit sheet start (n + 1) rest) (tt {0}) fit in
      and_from (is_sound (renumbered_cell new cell)) (list_all is_sound (map (renumbered_cell new) rest))
      (ap (λ (o : Option ℕ). option_map_or (λ k. nat_lt 0 k && nat_lt k 10000) o true) (opponent_new new cell) ∙ by (opponent_in_cell cell) refl step.1)
      (sound_new start (n + 1) rest step.2)
    where
      by : (o : Option ℕ) → opponent_in_cell cell ≡ o → cell_fits sheet start n cell ≡ fits → option_map_or (λ k. nat_lt 0 k && nat_lt k 10000) (option_map new o) true ≡ true
      by None e here = refl
      by (Some opponent) e here =
          let c = cell_is sheet start n opponent cell e here in
          and_from (nat_lt 0 (new opponent)) (nat_lt (new opponent) 10000)
          (lt-ltb 0 (new opponent) (m.some opponent c.player)) (lt-ltb (new opponent) 10000 (m.small opponent))

  -- ---- points

  some_new : (capitals : List ℕ) (all : List (Option (List ℕ)))
      → list_any (λ line. option_map_or (λ bytes. is_kind capitals (columns sheet.utf8 bytes)) line false) (map (option_map (renumbered_line sheet.utf8 new)) all)
      ≡ list_any (λ line. option_map_or (λ bytes. is_kind capitals (columns sheet.utf8 bytes)) line false) all
  some_new capitals [] = refl
  some_new capitals (None ∷ all) = some_new capitals all
  some_new capitals (Some line ∷ all) = rw (same_kind new m.small sheet.utf8 line capitals, some_new capitals all) refl

  other_points : has_other_points after ≡ has_other_points sheet
  other_points = some_new (codes "XXS") sheet.carried

  points_fit-new : (entry : Entry) → points_fit sheet entry ≡ fits → points_fit after (renumbered_entry new entry) ≡ fits
  unfolding points_fit
  points_fit-new entry fit = by entry.points fit
    where
      front : sum_by (half_points sheet.bye) (take (rounds_played after) (map (renumbered_cell new) entry.cells)) ≡ sum_by (half_points sheet.bye) (take (rounds_played sheet) entry.cells)
      front =
          ap (λ n. sum_by (half_points sheet.bye) (take n (map (renumbered_cell new) entry.cells))) (played_new new sheet.players)
          ∙ ap (λ (cells : List Cell). sum_by (half_points sheet.bye) cells) (take_new new (rounds_played sheet) entry.cells)
          ∙ sum_new new sheet.bye (take (rounds_played sheet) entry.cells)

      decide : (b : Bool) → cond b (Ok tt) (Err (Points entry.start)) ≡ fits → cond b (Ok tt) (Err (Points (new entry.start))) ≡ fits
      decide true e = refl
      decide false e = absurd (cc)

      by : (o : Option ℕ)
          → option_map_or (λ points.
          cond ((points == sum_by (half_points sheet.bye) (take (rounds_played sheet) entry.cells)) || (points == sum_by (half_points sheet.bye) entry.cells)
          || (has_other_points sheet && nat_lt points 200)) (Ok tt) (Err (Points entry.start))) o (Ok (tt {0})) ≡ fits
          → option_map_or (λ points.
          cond ((points == sum_by (half_points sheet.bye) (take (rounds_played after) (map (renumbered_cell new) entry.cells)))
          || (points == sum_by (half_points sheet.bye) (map (renumbered_cell new) entry.cells))
          || (has_other_points after && nat_lt points 200)) (Ok tt) (Err (Points (new entry.start)))) o (Ok (tt {0})) ≡ fits
      by None e = refl
      by (Some points) e =
          rw (front, sum_new new sheet.bye entry.cells, other_points)
          (decide ((points == sum_by (half_points sheet.bye) (take (rounds_played sheet) entry.cells)) || (points == sum_by (half_points sheet.bye) entry.cells)
          || (has_other_points sheet && nat_lt points 200)) e)

  -- ---- all players

  -- what a player with a new start rank is
  abbrev pub IsGood : Entry → Type 0
  IsGood entry = IsSoundEntry sheet.utf8 (renumbered_entry new entry) × are_small entry.points

  sound_entry : (entry : Entry) → known sheet entry.start ≡ true → IsSoundEntry sheet.utf8 entry → cells_fit sheet entry.start 1 entry.cells ≡ fits
      → IsSoundEntry sheet.utf8 (renumbered_entry new entry)
  sound_entry entry is s fit = record {
    start = m.small entry.start;
    some = ne_eqb (new entry.start) 0 (λ e. let lt : 0 < new entry.start = m.some entry.start is in omega arith);
    left = s.left;
    right = s.right;
    sound = sound_new entry.start 1 entry.cells fit;
    few = let same : length (map (renumbered_cell new) entry.cells) ≡ length entry.cells = length-map entry.cells (renumbered_cell new) in omega (arith, s.few);
    cut = cut_new new entry.cells ∙ ap (map (renumbered_cell new)) s.cut;
  }

  -- players who fit, fit with their new start ranks
  record Fit (entries : List Entry) : Type 0 where
    rules : players_fit after (map (renumbered_entry new) entries) ≡ fits
    good : AllByRecursion IsGood entries

  fit_new : (entries : List Entry) → AllByRecursion (λ (entry : Entry). known sheet entry.start ≡ true) entries → are_all_sound sheet.utf8 entries → are_all_small entries
      → players_fit sheet entries ≡ fits → Fit entries
  unfolding players_fit player_fits
  fit_new [] all sound small fit = record { rules = refl; good = tt }
  fit_new (entry ∷ rest) all sound small fit =
      let outer = then_ok (player_fits sheet entry) (λ _. players_fit sheet rest) (tt {0}) fit in
      let inner = then_ok (cells_fit sheet entry.start 1 entry.cells) (λ _. points_fit sheet entry) (tt {0}) outer.1 in
      let later = fit_new rest all.1 sound.1 small.1 outer.2 in
      let cells : cells_fit after (new entry.start) 1 (map (renumbered_cell new) entry.cells) ≡ fits = cells_fit-new entry.start 1 entry.cells all.0 inner.1 in
      let points : points_fit after (renumbered_entry new entry) ≡ fits = points_fit-new entry inner.2 in
      record {
        rules = rw (cells, points) later.rules;
        good = ((sound_entry entry all.0 sound.0 inner.1, small.0), later.good);
      }

  pub players_new : are_all_sound sheet.utf8 sheet.players → are_all_small sheet.players → players_fit sheet sheet.players ≡ fits
      → (players_fit after after.players ≡ fits) × AllByRecursion IsGood sheet.players
  players_new sound small fit =
      let all = fit_new sheet.players (each_has (λ a. known sheet a ≡ true) sheet.players (λ a is. is)) sound small fit in
      (all.rules, all.good)
