-- Each game without a result is noted, and no other: line by line, by what each line adds to a report that is read.
use Rattle.std.proofs.Common.{◌≡◌, ◌⊎◌, inl, inr, ℕ, zero, suc, ◌+◌, ◌-◌, ◌<◌, ◌≤◌, Bool, true, false, ◌&&◌, ◌||◌, ◌==◌}
use Rattle.std.proofs.Common.{cond, List, [], ◌∷◌, ◌++◌, map, Option, None, Some, Ok, refl, sym, ap, ◌∙◌, arith}
use Rattle.std.specs.Prelude.{codes, option_and_then, option_map, is_some, not}
use Rattle.std.specs.Bool.{then_some}
use Rattle.std.specs.List.{cons_option, list_any}
use Rattle.std.specs.Option.{option_map_or}
use Rattle.std.specs.Str.{is_utf8}
use Rattle.std.proofs.lemmas.Bool.{cases_lt, cases_Bool, or_parts, true≢false, eq-eqb, ne_eqb}
use Rattle.std.proofs.lemmas.List.Folds.{list_any-append}
use Rattle.trf16_report.specs.Prelude.{columns, lines, without_marks, words_of, Entry, Sheet, cell_at, cell_in, cells_of, game_points, outcome_points, known, rounds_played, is_blank, is_blank_cell, is_kind, is_named_absent, is_paired, is_unfinished, is_player, last_paired, lines_onto, player_at, player_of, without_players, verdict, number_of}
use Rattle.trf16_report.proofs.StepLemmas.{same_ok}
use Rattle.trf16_writer.proofs.AcceptedReport.{accepted, first_onto}
use Rattle.std.proofs.lemmas.List.{append_assoc, append-nil}
use Rattle.trf16_report.proofs.LineSteps.{line_keeps, line_adds}
use Rattle.trf16_laws.proofs.WrittenPlayers.{player_is}
use Rattle.trf16_report.specs.declared.cell.Cell.{Cell}
use Rattle.trf16_report.specs.declared.cell.Cell.TheVariants.{Blank, Bye, Game, Forfeit, Unfinished}
use Rattle.report_notes.specs.Games.{start_in, played_last}
use Rattle.report_notes.specs.Noted.{Noted, NoPlayer, PlayedLast, UnknownKind, BlankBefore, OnePlayer, ManyRounds, BeforeName, LongName, EarlyPoints, InRound, BehindColumn, NoGame, Byes, NobodyPresent, StartRanks, RoundsUnknown}
use Rattle.report_notes.specs.Notes.{absent_notes, begins_blank, carried_notes, closing_notes, count_notes, extension_notes, goes_on_behind, has_many_rounds, is_known, kind_in, last_column, line_notes, name_notes, name_runs_on, names_one, note_if, notes_from, notes_of, number_notes, other_count, person_notes, player_notes, points_come_early, rating_notes, rounds_notes, same_notes, stands_before_name, strangers}
use Rattle.report_notes.specs.PlayerRounds.{bars_bye, bye_note, cell_note, cells_before, few_points, is_allocated, is_filled, is_game_against, meeting_note, of_rounds, opponent_of_game, points_note, round_notes}
use Rattle.report_notes.specs.Rounds.{are_all_absent, can_be_played, has_no_game, nobody_notes, report_round_notes, report_rounds_notes, several_byes, total_notes}
use Rattle.report_notes.specs.Ratings.{first_above, late_above, rated_above, start_ranks_notes}
use Rattle.report_notes.specs.Doubles.{same_before}
use Rattle.report_notes.specs.declared.doubles.Identity.{Identity}
use Rattle.report_notes.specs.declared.doubles.Identity.TheVariants.{Name, FideNumber}
use Rattle.report_laws.specs.Notes.{lacks_result, tells_no_result}
use Rattle.report_notes.specs.declared.note.RoundNote.{RoundNote}
use Rattle.report_notes.specs.declared.note.RoundNote.TheVariants.{NoResult, MeetsAgain, AnotherBye, HalfPoint, NoPoint, NoCell}
use Rattle.report_notes.specs.declared.ratings.RatedAbove.{RatedAbove}
use Rattle.trf16_laws.proofs.PairedRound.{not_paired}
use Rattle.report_laws.proofs.CellLemmas.{not_unfinished}
use Rattle.report_laws.proofs.PutBoards.{last-one}

-- a game without a result is in a round that was paired
within : (sheet : Sheet) (start round : ℕ) → 0 < round → is_unfinished (cell_in sheet start round) ≡ true → round ≤ rounds_played sheet
within sheet start round positive unfinished = by (cases_lt (rounds_played sheet) round)
  where
    by : (rounds_played sheet < round) ⊎ (round ≤ rounds_played sheet) → round ≤ rounds_played sheet
    by (inl far) =
        let upto : last_paired (cells_of sheet.players start) ≤ rounds_played sheet = last-one sheet.players start in
        let no : is_paired (cell_in sheet start round) ≡ false = not_paired (round - 1) (cells_of sheet.players start) (omega arith) in
        absurd (true≢false (sym unfinished ∙ not_unfinished (cell_in sheet start round) no))
    by (inr near) = near

-- ---- a round

abbrev is_no_result : RoundNote → Bool
is_no_result NoResult = true
is_no_result _ = false

-- ---- what lines add

-- the players that some lines add, and that columns stay what they are
record Grows (sheet final : Sheet) : Type 0 where
  later : List Entry
  players : final.players ≡ sheet.players ++ later
  utf8 : final.utf8 ≡ sheet.utf8

grows : (sheet final : Sheet) (n : ℕ) (all : List (List ℕ)) → lines_onto sheet n all ≡ Ok final → Grows sheet final
unfolding lines_onto
grows sheet final n [] e =
    let same = same_ok sheet final e in
    record { later = []; players = sym (ap (λ (s : Sheet). s.players) same) ∙ sym (append-nil sheet.players); utf8 = sym (ap (λ (s : Sheet). s.utf8) same) }
grows sheet final n (l ∷ rest) e =
    let first = first_onto sheet final n l rest e in
    let more = grows first.0 final (n + 1) rest first.2 in
    elim (cases_Bool (is_player (columns sheet.utf8 l))) [
      | inl named ↦
          let adds = line_adds sheet n (columns sheet.utf8 l) first.0 named first.1 in
          record {
            later = adds.0 ∷ more.later;
            players = more.players ∙ ap (λ (s : Sheet). s.players ++ more.later) (sym adds.2) ∙ append_assoc sheet.players (adds.0 ∷ []) more.later;
            utf8 = more.utf8 ∙ ap (λ (s : Sheet). s.utf8) (sym adds.2);
          }
      | inr other ↦
          let keeps = line_keeps (λ entry. entry) sheet n (columns sheet.utf8 l) first.0 other first.1 in
          record {
            later = more.later;
            players = more.players ∙ ap (λ (ps : List Entry). ps ++ more.later) keeps.players;
            utf8 = more.utf8 ∙ keeps.utf8;
          }
    ]

module _ (line round : ℕ) where
  -- whether some notes tell that the game of that round in that line has no result
  abbrev tells : List Noted → Bool
  tells notes = list_any (tells_no_result line round) notes

  two : (xs ys : List Noted) → tells (xs ++ ys) ≡ (tells xs || tells ys)
  two xs ys = list_any-append (tells_no_result line round) xs ys

  -- notes that are not of that kind
  none_first : (xs ys : List Noted) → tells xs ≡ false → tells (xs ++ ys) ≡ tells ys
  none_first xs ys e = two xs ys ∙ rw e refl

  none_behind : (xs ys : List Noted) → tells ys ≡ false → tells (xs ++ ys) ≡ tells xs
  none_behind xs ys e = two xs ys ∙ rw e (by (tells xs))
    where
      by : (b : Bool) → (b || false) ≡ b
      by true = refl
      by false = refl

  none_if : (b : Bool) (note : Noted) → tells_no_result line round note ≡ false → tells (note_if b note) ≡ false
  none_if true note e = rw e refl
  none_if false note e = refl

  -- a note of a round that is another one is passed over
  other_note : (n r : ℕ) (note : RoundNote) → is_no_result note ≡ false → tells_no_result line round (InRound n r note) ≡ false
  other_note n r NoResult e = absurd (true≢false e)
  other_note n r (MeetsAgain player) e = refl
  other_note n r AnotherBye e = refl
  other_note n r HalfPoint e = refl
  other_note n r NoPoint e = refl
  other_note n r NoCell e = refl

  other : (n r : ℕ) (note : Option RoundNote) (rest : List RoundNote) → option_map_or is_no_result note false ≡ false
      → tells (map (InRound n r) (cons_option note rest)) ≡ tells (map (InRound n r) rest)
  other n r None rest e = refl
  other n r (Some note) rest e = rw (other_note n r note e) refl

  never-some : (b : Bool) (note : RoundNote) → is_no_result note ≡ false → option_map_or is_no_result (then_some b note) false ≡ false
  never-some true note e = e
  never-some false note e = refl

  never-meeting : (opponent : Option ℕ) (met : ℕ → Bool)
      → option_map_or is_no_result (option_and_then (λ player. then_some (met player) (MeetsAgain player)) opponent) false ≡ false
  never-meeting None met = refl
  never-meeting (Some player) met = never-some (met player) (MeetsAgain player) refl

  never-few : (points : ℕ) → option_map_or is_no_result (few_points points) false ≡ false
  never-few zero = refl
  never-few (suc zero) = refl
  never-few (suc (suc more)) = refl

  never-points : (sheet : Sheet) (cell : Cell) (r : ℕ) → option_map_or is_no_result (points_note sheet cell r) false ≡ false
  never-points sheet (Game opponent colour rated got) r = never-few (outcome_points got + game_points (cell_in sheet opponent r))
  never-points sheet Blank r = refl
  never-points sheet (Bye kind) r = refl
  never-points sheet (Forfeit opponent colour won) r = refl
  never-points sheet (Unfinished opponent colour) r = refl

  -- of a round of a player in line n
  in_round : (sheet : Sheet) (n start r : ℕ) → tells (map (InRound n r) (round_notes sheet start r)) ≡ ((n == line) && (r == round) && is_unfinished (cell_in sheet start r))
  in_round sheet n start r =
      let cells = cells_of sheet.players start in
      let cell = cell_note sheet start cells r in
      let points = points_note sheet (cell_at cells r) r in
      let bye = bye_note cells r in
      let meeting = meeting_note cells r in
      let behind : tells (map (InRound n r) (cons_option meeting (cons_option bye (cons_option points (cons_option cell []))))) ≡ false =
      other n r meeting (cons_option bye (cons_option points (cons_option cell []))) (never-meeting (opponent_of_game (cell_at cells r)) (λ player. list_any (is_game_against player) (cells_before r cells)))
      ∙ other n r bye (cons_option points (cons_option cell [])) (never-some (is_allocated (cell_at cells r) && list_any bars_bye (cells_before r cells)) AnotherBye refl)
      ∙ other n r points (cons_option cell []) (never-points sheet (cell_at cells r) r)
      ∙ other n r cell [] (never-some ((r == rounds_played sheet) && (is_blank_cell (cell_at cells r) && (list_any is_filled (cells_before r cells) && not (is_named_absent sheet start)))) NoCell refl) in
      by (is_unfinished (cell_at cells r)) (cons_option meeting (cons_option bye (cons_option points (cons_option cell [])))) behind
    where
      same : (x y : Bool) → ((x && y) || false) ≡ (x && y && true)
      same true true = refl
      same true false = refl
      same false true = refl
      same false false = refl

      none : (x y : Bool) → false ≡ (x && y && false)
      none true true = refl
      none true false = refl
      none false true = refl
      none false false = refl

      by : (b : Bool) (rest : List RoundNote) → tells (map (InRound n r) rest) ≡ false
          → tells (map (InRound n r) (cons_option (then_some b NoResult) rest)) ≡ ((n == line) && (r == round) && b)
      by true rest e = rw e (same (n == line) (r == round))
      by false rest e = e ∙ none (n == line) (r == round)

  -- ---- the rounds of a player

  absent : (x b : Bool) (r : ℕ) → (r ≡ round → ⊥) → (x && (r == round) && b) ≡ false
  absent x b r other = rw (ne_eqb r round other) (by x)
    where
      by : (x : Bool) → (x && false && b) ≡ false
      by true = refl
      by false = refl

  module _ (sheet : Sheet) (n start : ℕ) where
    abbrev has : ℕ → List Noted
    has r = map (InRound n r) (round_notes sheet start r)

    -- the round is in front of some, or behind them
    not_in_rounds : (before more : ℕ) → (round ≤ before) ⊎ (before + more < round) → tells (of_rounds has before more) ≡ false
    not_in_rounds before zero out = refl
    not_in_rounds before (suc more) out =
        two (has (before + 1)) (of_rounds has (before + 1) more)
        ∙ rw (in_round sheet n start (before + 1) ∙ absent (n == line) (is_unfinished (cell_in sheet start (before + 1))) (before + 1) (differs out)) (not_in_rounds (before + 1) more (later out))
      where
        differs : (round ≤ before) ⊎ (before + suc more < round) → before + 1 ≡ round → ⊥
        differs (inl front) e = omega arith
        differs (inr behind) e = omega arith

        later : (round ≤ before) ⊎ (before + suc more < round) → (round ≤ before + 1) ⊎ (before + 1 + more < round)
        later (inl front) = inl (omega arith)
        later (inr behind) = inr (omega arith)

    in_rounds : (before more : ℕ) → before < round → round ≤ before + more
        → tells (of_rounds has before more) ≡ ((n == line) && is_unfinished (cell_in sheet start round))
    in_rounds before zero above upto = absurd (omega arith)
    in_rounds before (suc more) above upto = two (has (before + 1)) (of_rounds has (before + 1) more) ∙ by (cases_lt (before + 1) round) (λ later. in_rounds (before + 1) more later (omega arith))
      where
        here : (x b : Bool) → ((x && true && b) || false) ≡ (x && b)
        here true true = refl
        here true false = refl
        here false true = refl
        here false false = refl

        by : (before + 1 < round) ⊎ (round ≤ before + 1)
            → (before + 1 < round → tells (of_rounds has (before + 1) more) ≡ ((n == line) && is_unfinished (cell_in sheet start round)))
            → (tells (has (before + 1)) || tells (of_rounds has (before + 1) more)) ≡ ((n == line) && is_unfinished (cell_in sheet start round))
        by (inl later) others =
            rw (in_round sheet n start (before + 1) ∙ absent (n == line) (is_unfinished (cell_in sheet start (before + 1))) (before + 1) (λ e. omega arith)) (others later)
        by (inr upto') others =
            let same : before + 1 ≡ round = omega arith in
            ap (λ b. b || tells (of_rounds has (before + 1) more)) (in_round sheet n start (before + 1))
            ∙ ap (λ b. ((n == line) && ((before + 1) == round) && is_unfinished (cell_in sheet start (before + 1))) || b) (not_in_rounds (before + 1) more (inl (omega arith)))
            ∙ ap (λ b. ((n == line) && b && is_unfinished (cell_in sheet start (before + 1))) || false) (eq-eqb (before + 1) round same)
            ∙ here (n == line) (is_unfinished (cell_in sheet start (before + 1)))
            ∙ ap (λ (r : ℕ). (n == line) && is_unfinished (cell_in sheet start r)) same

    player_rounds : 0 < round → tells (rounds_notes sheet n start 0) ≡ ((n == line) && is_unfinished (cell_in sheet start round))
    player_rounds positive = by (cases_lt (rounds_played sheet) round)
      where
        none : (x b : Bool) → b ≡ false → false ≡ (x && b)
        none true b e = sym e
        none false b e = refl

        finished : (b : Bool) → is_unfinished (cell_in sheet start round) ≡ b → rounds_played sheet < round → b ≡ false
        finished true e far = let upto = within sheet start round positive e in absurd (omega arith)
        finished false e far = refl

        by : (rounds_played sheet < round) ⊎ (round ≤ rounds_played sheet) → tells (rounds_notes sheet n start 0) ≡ ((n == line) && is_unfinished (cell_in sheet start round))
        by (inl far) =
            not_in_rounds 0 (rounds_played sheet - 0) (inr (omega arith))
            ∙ none (n == line) (is_unfinished (cell_in sheet start round)) (finished (is_unfinished (cell_in sheet start round)) refl far)
        by (inr near) = in_rounds 0 (rounds_played sheet - 0) positive (omega arith)

  -- ---- a line

  no_rating : (n : ℕ) (above : Option RatedAbove) → tells (rating_notes n above) ≡ false
  no_rating n None = refl
  no_rating n (Some above) = refl

  no_same : (n : ℕ) (what : Identity) (player : Option ℕ) → tells (same_notes n what player) ≡ false
  no_same n what None = refl
  no_same n what (Some player) = refl

  no_person : (sheet : Sheet) (n : ℕ) (columns : List (List ℕ)) (entry : Option Entry) → tells (person_notes sheet n columns entry) ≡ false
  no_person sheet n columns entry =
      let number = same_notes n FideNumber (option_and_then (same_before sheet FideNumber) entry) in
      let rating = rating_notes n (option_and_then (late_above sheet) entry) in
      let long = note_if (name_runs_on columns) (LongName n) in
      let name = same_notes n Name (option_and_then (same_before sheet Name) entry) in
      let front = note_if (stands_before_name columns) (BeforeName n) in
      none_first front (name ++ (long ++ (rating ++ number))) (none_if (stands_before_name columns) (BeforeName n) refl)
      ∙ none_first name (long ++ (rating ++ number)) (no_same n Name (option_and_then (same_before sheet Name) entry))
      ∙ none_first long (rating ++ number) (none_if (name_runs_on columns) (LongName n) refl)
      ∙ none_first rating number (no_rating n (option_and_then (late_above sheet) entry))
      ∙ no_same n FideNumber (option_and_then (same_before sheet FideNumber) entry)

  in_player : (sheet : Sheet) (n : ℕ) (columns : List (List ℕ)) → 0 < round
      → tells (player_notes sheet n columns) ≡ ((n == line) && is_unfinished (cell_in sheet (start_in columns) round))
  in_player sheet n columns positive =
      let rounds = rounds_notes sheet n (start_in columns) 0 in
      let behind = note_if (goes_on_behind sheet columns) (BehindColumn n (last_column sheet)) in
      let cells = rounds ++ behind in
      let early = note_if (points_come_early sheet columns) (EarlyPoints n) in
      let entry = player_of sheet.players (start_in columns) in
      none_first (person_notes sheet n columns entry) (early ++ cells) (no_person sheet n columns entry)
      ∙ none_first early cells (none_if (points_come_early sheet columns) (EarlyPoints n) refl)
      ∙ none_behind rounds behind (none_if (goes_on_behind sheet columns) (BehindColumn n (last_column sheet)) refl)
      ∙ player_rounds sheet n (start_in columns) positive

  no_number : (sheet : Sheet) (n : ℕ) (number : Option ℕ) → tells (number_notes sheet n number) ≡ false
  no_number sheet n None = refl
  no_number sheet n (Some number) = by (not (known sheet number)) (played_last sheet number)
    where
      by : (stranger late : Bool) → tells (cond stranger (NoPlayer n number ∷ []) (cond late (PlayedLast n number ∷ []) [])) ≡ false
      by true late = refl
      by false true = refl
      by false false = refl

  no_absent : (sheet : Sheet) (n : ℕ) (all : List (List ℕ)) → tells (absent_notes sheet n all) ≡ false
  no_absent sheet n [] = refl
  no_absent sheet n (word ∷ rest) = none_first (number_notes sheet n (number_of word)) (absent_notes sheet n rest) (no_number sheet n (number_of word)) ∙ no_absent sheet n rest

  no_strangers : (n : ℕ) (numbers : List ℕ) → tells (map (NoPlayer n) numbers) ≡ false
  no_strangers n [] = refl
  no_strangers n (number ∷ rest) = no_strangers n rest

  no_names : (sheet : Sheet) (n : ℕ) (all : List (List ℕ)) (alone : Bool) → tells (name_notes sheet n all alone) ≡ false
  no_names sheet n all true = none_first (map (NoPlayer n) (strangers sheet all)) (OnePlayer n ∷ []) (no_strangers n (strangers sheet all))
  no_names sheet n all false = none_first (map (NoPlayer n) (strangers sheet all)) [] (no_strangers n (strangers sheet all))

  no_count : (sheet : Sheet) (n : ℕ) (said : Option ℕ) → tells (count_notes sheet n said) ≡ false
  no_count sheet n None = refl
  no_count sheet n (Some said) = refl

  no_extension : (sheet : Sheet) (n : ℕ) (columns : List (List ℕ)) → tells (extension_notes sheet n columns) ≡ false
  no_extension sheet n columns = by (is_kind (codes "XXZ") columns) (is_kind (codes "XXP") columns) (is_kind (codes "XXR") columns) (is_kind (codes "062") columns)
    where
      by : (z p r c : Bool) → tells (cond z (absent_notes sheet n (words_of columns)) (cond p (name_notes sheet n (words_of columns) (names_one (words_of columns)))
          (cond r (note_if (has_many_rounds sheet) (ManyRounds n)) (cond c (count_notes sheet n (other_count sheet (words_of columns))) [])))) ≡ false
      by true p r c = no_absent sheet n (words_of columns)
      by false true r c = no_names sheet n (words_of columns) (names_one (words_of columns))
      by false false true c = none_if (has_many_rounds sheet) (ManyRounds n) refl
      by false false false true = no_count sheet n (other_count sheet (words_of columns))
      by false false false false = refl

  no_carried : (sheet : Sheet) (n : ℕ) (bytes : List ℕ) → tells (carried_notes sheet n bytes) ≡ false
  no_carried sheet n bytes = by (is_blank bytes) (not (is_known (kind_in sheet.utf8 bytes))) (begins_blank bytes)
    where
      by : (blank strange front : Bool) → tells (cond blank [] (cond strange (UnknownKind n (kind_in sheet.utf8 bytes) ∷ [])
          (cond front (BlankBefore n (kind_in sheet.utf8 bytes) ∷ []) (extension_notes sheet n (columns sheet.utf8 bytes))))) ≡ false
      by true strange front = refl
      by false true front = refl
      by false false true = refl
      by false false false = no_extension sheet n (columns sheet.utf8 bytes)

  -- ---- behind the lines

  no_report_round : (sheet : Sheet) (r : ℕ) → tells (report_round_notes sheet r) ≡ false
  no_report_round sheet r = by (has_no_game sheet r) (several_byes sheet r)
    where
      by : (no_game : Bool) (byes : Option ℕ) → tells (cons_option (then_some no_game (NoGame r)) (cons_option (option_map (Byes r) byes) [])) ≡ false
      by true None = refl
      by true (Some players) = refl
      by false None = refl
      by false (Some players) = refl

  no_report_rounds : (sheet : Sheet) (before more : ℕ) → tells (of_rounds (report_round_notes sheet) before more) ≡ false
  no_report_rounds sheet before zero = refl
  no_report_rounds sheet before (suc more) =
      none_first (report_round_notes sheet (before + 1)) (of_rounds (report_round_notes sheet) (before + 1) more) (no_report_round sheet (before + 1))
      ∙ no_report_rounds sheet (before + 1) more

  no_total : (sheet : Sheet) → tells (total_notes sheet) ≡ false
  no_total sheet = by (not (is_some sheet.total))
    where
      by : (unknown : Bool) → tells (cons_option (then_some unknown RoundsUnknown) []) ≡ false
      by true = refl
      by false = refl

  no_nobody : (sheet : Sheet) → tells (nobody_notes sheet) ≡ false
  no_nobody sheet = by (can_be_played sheet (rounds_played sheet + 1) && are_all_absent sheet)
    where
      by : (nobody : Bool) → tells (cons_option (then_some nobody (NobodyPresent (rounds_played sheet + 1))) []) ≡ false
      by true = refl
      by false = refl

  no_first_above : (sheet : Sheet) (entries : List Entry) → tells (first_above sheet entries) ≡ false
  no_first_above sheet [] = refl
  no_first_above sheet (entry ∷ rest) = by (rated_above sheet entry) (no_first_above sheet rest)
    where
      by : (above : Option RatedAbove) → tells (first_above sheet rest) ≡ false
          → tells (option_map_or (λ (above : RatedAbove). StartRanks above.rating entry.start above.player ∷ []) above (first_above sheet rest)) ≡ false
      by None others = others
      by (Some above) others = refl

  no_start_ranks : (sheet : Sheet) → tells (start_ranks_notes sheet) ≡ false
  no_start_ranks sheet = by (rounds_played sheet == 0)
    where
      by : (first : Bool) → tells (cond first (first_above sheet sheet.players) []) ≡ false
      by true = no_first_above sheet sheet.players
      by false = refl

  no_closing : (sheet : Sheet) → tells (closing_notes sheet) ≡ false
  no_closing sheet =
      let behind = start_ranks_notes sheet ++ total_notes sheet in
      none_first (report_rounds_notes sheet 0) (nobody_notes sheet ++ behind) (no_report_rounds sheet 0 (rounds_played sheet - 0))
      ∙ none_first (nobody_notes sheet) behind (no_nobody sheet)
      ∙ none_first (start_ranks_notes sheet) (total_notes sheet) (no_start_ranks sheet)
      ∙ no_total sheet

  -- ---- all lines

  -- whether one of some players lacks a result
  abbrev lacks : List Entry → Bool
  lacks entries = list_any (lacks_result line round) entries

  -- players who stand in front, and one behind them with another start rank
  behind_others : (front : List Entry) (entry : Entry) (later : List Entry) → list_any (λ (e : Entry). e.start == entry.start) front ≡ false
      → cells_of (front ++ entry ∷ later) entry.start ≡ entry.cells
  behind_others [] entry later fresh = rw (eq-eqb entry.start entry.start refl) refl
  behind_others (first ∷ front) entry later fresh =
      let both = or_parts (first.start == entry.start) (list_any (λ (e : Entry). e.start == entry.start) front) fresh in
      rw both.0 (behind_others front entry later both.1)

  -- a player's line tells what its player lacks
  of_player : (sheet final : Sheet) (n : ℕ) (cols : List (List ℕ)) (entry : Entry) (later : List Entry) → 0 < round
      → player_at sheet n cols ≡ Ok entry → final.players ≡ sheet.players ++ entry ∷ later
      → tells (player_notes final n cols) ≡ lacks_result line round entry
  of_player sheet final n cols entry later positive e all =
      let p = player_is sheet n cols entry e in
      let start : start_in cols ≡ entry.start = ap (λ (o : Option ℕ). option_map_or (λ (s : ℕ). s) o 0) p.number in
      let cells : cells_of final.players (start_in cols) ≡ entry.cells =
      ap (cells_of final.players) start ∙ ap (λ (ps : List Entry). cells_of ps entry.start) all ∙ behind_others sheet.players entry later p.fresh in
      in_player final n cols positive
      ∙ ap (λ (m : ℕ). (m == line) && is_unfinished (cell_in final (start_in cols) round)) p.numbered
      ∙ ap (λ (cs : List Cell). (entry.line == line) && is_unfinished (cell_at cs round)) cells

  onto : (a b c : Bool) → (a || (b || c)) ≡ ((a || b) || c)
  onto true b c = refl
  onto false b c = refl

  nothing_more : (b : Bool) → b ≡ (b || false)
  nothing_more true = refl
  nothing_more false = refl

  one : (front : List Entry) (entry : Entry) → lacks (front ++ entry ∷ []) ≡ (lacks front || lacks_result line round entry)
  one front entry = list_any-append (lacks_result line round) front (entry ∷ []) ∙ ap (λ b. lacks front || b) (sym (nothing_more (lacks_result line round entry)))

  -- what the players of some lines lack is what is told of the lines
  of_lines : (sheet final : Sheet) (n : ℕ) (all : List (List ℕ)) → 0 < round → final.utf8 ≡ sheet.utf8 → lines_onto sheet n all ≡ Ok final
      → lacks final.players ≡ (lacks sheet.players || tells (notes_from final n all))
  unfolding lines_onto
  of_lines sheet final n [] positive utf8 e = ap (λ (s : Sheet). lacks s.players) (sym (same_ok sheet final e)) ∙ nothing_more (lacks sheet.players)
  of_lines sheet final n (l ∷ rest) positive utf8 e =
      let first = first_onto sheet final n l rest e in
      let split = sym (two (line_notes final n l) (notes_from final (n + 1) rest)) in
      elim (cases_Bool (is_player (columns sheet.utf8 l))) [
        | inl named ↦
            let adds = line_adds sheet n (columns sheet.utf8 l) first.0 named first.1 in
            let same : first.0.utf8 ≡ sheet.utf8 = ap (λ (s : Sheet). s.utf8) (sym adds.2) in
            let more = grows first.0 final (n + 1) rest first.2 in
            let players : final.players ≡ sheet.players ++ adds.0 ∷ more.later =
            more.players ∙ ap (λ (s : Sheet). s.players ++ more.later) (sym adds.2) ∙ append_assoc sheet.players (adds.0 ∷ []) more.later in
            let told : tells (line_notes final n l) ≡ lacks_result line round adds.0 =
            ap (λ (u : Bool). tells (cond (is_player (columns u l)) (player_notes final n (columns u l)) (carried_notes final n l))) utf8
            ∙ ap (λ (b : Bool). tells (cond b (player_notes final n (columns sheet.utf8 l)) (carried_notes final n l))) named
            ∙ of_player sheet final n (columns sheet.utf8 l) adds.0 more.later positive adds.1 players in
            of_lines first.0 final (n + 1) rest positive (utf8 ∙ sym same) first.2
            ∙ ap (λ (s : Sheet). lacks s.players || tells (notes_from final (n + 1) rest)) (sym adds.2)
            ∙ ap (λ (b : Bool). b || tells (notes_from final (n + 1) rest)) (one sheet.players adds.0)
            ∙ sym (onto (lacks sheet.players) (lacks_result line round adds.0) (tells (notes_from final (n + 1) rest)))
            ∙ ap (λ (b : Bool). lacks sheet.players || (b || tells (notes_from final (n + 1) rest))) (sym told)
            ∙ ap (λ (b : Bool). lacks sheet.players || b) split
        | inr other ↦
            let keeps = line_keeps (λ entry. entry) sheet n (columns sheet.utf8 l) first.0 other first.1 in
            let told : tells (line_notes final n l) ≡ false =
            ap (λ (u : Bool). tells (cond (is_player (columns u l)) (player_notes final n (columns u l)) (carried_notes final n l))) utf8
            ∙ ap (λ (b : Bool). tells (cond b (player_notes final n (columns sheet.utf8 l)) (carried_notes final n l))) other
            ∙ no_carried final n l in
            of_lines first.0 final (n + 1) rest positive (utf8 ∙ sym keeps.utf8) first.2
            ∙ ap (λ (ps : List Entry). lacks ps || tells (notes_from final (n + 1) rest)) keeps.players
            ∙ ap (λ (b : Bool). lacks sheet.players || (b || tells (notes_from final (n + 1) rest))) (sym told)
            ∙ ap (λ (b : Bool). lacks sheet.players || b) split
      ]

-- the lines of an accepted report tell which games lack a result
pub each_is_noted : (bytes : List ℕ) (bye : ℕ) (sheet : Sheet) → verdict bytes bye ≡ Ok sheet → (line round : ℕ) → 0 < round
    → list_any (tells_no_result line round) (notes_of sheet bytes) ≡ list_any (lacks_result line round) sheet.players
each_is_noted bytes bye sheet e line round positive =
    let utf8 = is_utf8 (without_marks bytes) in
    let all = lines (without_marks bytes) in
    let r = (accepted bytes bye sheet e).0 in
    none_behind line round (notes_from sheet 1 all) (closing_notes sheet) (no_closing line round sheet)
    ∙ sym (of_lines line round (without_players utf8 all bye) sheet 1 all positive (grows (without_players utf8 all bye) sheet 1 all r.read).utf8 r.read)
