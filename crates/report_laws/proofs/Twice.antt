-- A report that is renumbered twice is the report that is renumbered once.
--
-- The new start ranks are in the order by which they are given (`same_order`), so the new start rank of a new one is the same
-- (`new_twice`). Under two maps one after the other a report is what it is under both together (`lines_twice`, `entries_twice`).
use Rattle.std.proofs.Common.{◌≡◌, ◌⊎◌, inl, inr, ℕ, zero, suc, ◌+◌, ◌<◌, ◌≤◌, Bool, true, false, ◌||◌, ◌==◌, nat_eq, nat_lt, cond, List, [], ◌∷◌, ◌++◌, length, map, Option, Some, None, Ok, refl, sym, ap, ◌∙◌, append-nil, arith}
use Rattle.std.specs.Prelude.{codes, count_by, option_map}
use Rattle.std.specs.List.{AllByRecursion, IsDistinct, flat_map}
use Rattle.std.specs.Option.{option_map_or}
use Rattle.std.specs.Str.{is_utf8}
use Rattle.std.proofs.lemmas.Bool.{eqb-true, eq-eqb, lt-ltb, le-ltb, cases_lt}
use Rattle.std.proofs.lemmas.Bool.Decides.{nat_tests}
use Rattle.std.proofs.lemmas.List.Sums.{sum_by-cons}
use Rattle.std.proofs.lemmas.Grind.{flat_map-append}
use mathlib.Core.Path.{fun_ext}
use Rattle.trf16_report.specs.Prelude.{columns, lines, without_marks, has_too_many_rounds, verdict, text, words_of, number_of, is_word, Entry, Sheet, known, starts_of, player_of, rating_of, higher_titles, goes_before, new_start, renumbered, renumbered_by, renumbered_cell, renumbered_entry, renumbered_line, renumbered_word, number_behind, names_start_ranks}
use Rattle.trf16_report.specs.declared.cell.Cell.{Cell}
use Rattle.trf16_report.specs.declared.cell.Cell.TheVariants.{Blank, Bye, Game, Forfeit, Unfinished}
use Rattle.trf16_report.specs.declared.limits.TheConstants.{MOST_PLAYERS}
use Rattle.trf16_laws.proofs.WrittenNumbers.{number_of-decimal}
use Rattle.trf16_writer.proofs.AcceptedReport.{accepted, sized_is}
use Rattle.trf16_writer.proofs.NewStartRanks.{has_player, player_known, new_lt, new_is, new_none, all_of}
use Rattle.report_laws.proofs.RenumberedLine.{word_for, new_words, kind_same, words_named}
use Rattle.report_laws.proofs.UnderMap.{IsMap, player_under}
use Rattle.report_laws.proofs.NewMap.{is_map}

-- ---- the order stays

less_same : (n m : ℕ) → n ≡ m → nat_lt n m ≡ false
less_same n m e = le-ltb n m (omega arith)

order_by : (s s' : ℕ) (n n' : ℕ) → (s < s' → n < n') → (s' < s → n' < n) → (s ≡ s' → n ≡ n') → nat_lt n n' ≡ nat_lt s s'
order_by s s' n n' up down same = by (cases_lt s s') (cases_lt s' s)
  where
    by : (s < s') ⊎ (s' ≤ s) → (s' < s) ⊎ (s ≤ s') → nat_lt n n' ≡ nat_lt s s'
    by (inl lt) other = lt-ltb n n' (up lt) ∙ sym (lt-ltb s s' lt)
    by (inr le) (inl lt) = let less : n' < n = down lt in le-ltb n n' (omega arith) ∙ sym (le-ltb s s' le)
    by (inr le) (inr le') = let e : s ≡ s' = omega arith in less_same n n' (same e) ∙ sym (less_same s s' e)

same_order : (utf8 : Bool) (new : ℕ → ℕ) (o x : Entry) → (goes_before utf8 o x ≡ true → new o.start < new x.start)
    → (goes_before utf8 x o ≡ true → new x.start < new o.start) → goes_before utf8 (renumbered_entry new o) (renumbered_entry new x) ≡ goes_before utf8 o x
same_order utf8 new o x up down = by (rating_of utf8 o == rating_of utf8 x) refl (higher_titles utf8 o == higher_titles utf8 x) refl
  where
    turned : (a b : ℕ) → (a == b) ≡ true → (b == a) ≡ true
    turned a b e = eq-eqb b a (sym (eqb-true a b e))

    by : (rated : Bool) → (rating_of utf8 o == rating_of utf8 x) ≡ rated → (titled : Bool) → (higher_titles utf8 o == higher_titles utf8 x) ≡ titled
        → cond rated (cond titled (nat_lt (new o.start) (new x.start)) (nat_lt (higher_titles utf8 o) (higher_titles utf8 x))) (nat_lt (rating_of utf8 x) (rating_of utf8 o))
        ≡ cond rated (cond titled (nat_lt o.start x.start) (nat_lt (higher_titles utf8 o) (higher_titles utf8 x))) (nat_lt (rating_of utf8 x) (rating_of utf8 o))
    by true a true b = order_by o.start x.start (new o.start) (new x.start)
        (λ lt. up (rw (a, b) (lt-ltb o.start x.start lt)))
        (λ lt. down (rw (turned (rating_of utf8 o) (rating_of utf8 x) a, turned (higher_titles utf8 o) (higher_titles utf8 x) b) (lt-ltb x.start o.start lt)))
        (ap new)
    by true a false b = refl
    by false a titled b = refl

-- ---- the new start rank of a new one

module _ (sheet : Sheet) (few : length sheet.players ≤ MOST_PLAYERS) (distinct : IsDistinct nat_eq (starts_of sheet.players)) where
  m : IsMap sheet.players (new_start sheet)
  m = is_map sheet few

  count_same : (x : Entry) (xs : List Entry) → player_of sheet.players x.start ≡ Some x → AllByRecursion (λ (entry : Entry). player_of sheet.players entry.start ≡ Some entry) xs
      → count_by (λ other. goes_before sheet.utf8 other (renumbered_entry (new_start sheet) x)) (map (renumbered_entry (new_start sheet)) xs)
      ≡ count_by (λ other. goes_before sheet.utf8 other x) xs
  count_same x [] is are = refl
  count_same x (o ∷ xs) is are =
      sum_by-cons (λ other. cond (goes_before sheet.utf8 other (renumbered_entry (new_start sheet) x)) 1 0) (renumbered_entry (new_start sheet) o) (map (renumbered_entry (new_start sheet)) xs)
      ∙ ap (λ b. cond b 1 0 + count_by (λ other. goes_before sheet.utf8 other (renumbered_entry (new_start sheet) x)) (map (renumbered_entry (new_start sheet)) xs))
      (same_order sheet.utf8 (new_start sheet) o x (new_lt sheet o.start x.start o x are.0 is) (new_lt sheet x.start o.start x o is are.0))
      ∙ ap (λ n. cond (goes_before sheet.utf8 o x) 1 0 + n) (count_same x xs is are.1)
      ∙ sym (sum_by-cons (λ other. cond (goes_before sheet.utf8 other x) 1 0) o xs)

  every : (b : ℕ) → has_player sheet.players b ≡ true → has_player sheet.players b ≡ true
  every b is = is

  or_true : (b : Bool) → (b || true) ≡ true
  or_true true = refl
  or_true false = refl

  no_zero : (xs : List Entry) → ((b : ℕ) → has_player xs b ≡ true → has_player sheet.players b ≡ true) → has_player (map (renumbered_entry (new_start sheet)) xs) 0 ≡ false
  no_zero [] are = refl
  no_zero (x ∷ xs) are =
      rw (
        m.some x.start (are x.start (ap (λ b. b || has_player xs x.start) (eq-eqb x.start x.start refl))),
        no_zero xs (λ b is. are b (ap (λ t. (x.start == b) || t) is ∙ or_true (x.start == b))),
      ) refl

  after_zero : new_start (renumbered sheet) 0 ≡ 0
  after_zero = new_none (renumbered sheet) 0 (no_zero sheet.players every)

  start_of : (xs : List Entry) (a : ℕ) (x : Entry) → player_of xs a ≡ Some x → player_of xs x.start ≡ Some x
  start_of xs a x is = ap (player_of xs) (by xs a x is) ∙ is
    where
      is_one : (x y : Entry) → ◌≡◌ {A = Option Entry} (Some x) (Some y) → x ≡ y
      is_one x y e = cc

      by : (xs : List Entry) (a : ℕ) (x : Entry) → player_of xs a ≡ Some x → x.start ≡ a
      by [] a x e = absurd (cc)
      by (y ∷ ys) a x e = step (y.start == a) refl e (by ys a x)
        where
          step : (here : Bool) → (y.start == a) ≡ here → cond here (Some y) (player_of ys a) ≡ Some x → (player_of ys a ≡ Some x → x.start ≡ a) → x.start ≡ a
          step true t e later = ap (λ (z : Entry). z.start) (sym (is_one y x e)) ∙ eqb-true y.start a t
          step false t e later = later e

  pub new_twice : (a : ℕ) → new_start (renumbered sheet) (new_start sheet a) ≡ new_start sheet a
  new_twice a = by (known sheet a) refl
    where
      by : (player : Bool) → known sheet a ≡ player → new_start (renumbered sheet) (new_start sheet a) ≡ new_start sheet a
      by true e =
          let p = player_known sheet.players a e in
          let found : player_of (renumbered sheet).players (new_start sheet a) ≡ Some (renumbered_entry (new_start sheet) p.0) =
          player_under sheet.players (new_start sheet) m sheet.players a every e ∙ ap (λ (o : Option Entry). option_map (renumbered_entry (new_start sheet)) o) p.1 in
          new_is (renumbered sheet) (new_start sheet a) (renumbered_entry (new_start sheet) p.0) found
          ∙ ap (λ n. n + 1) (count_same p.0 sheet.players (start_of sheet.players a p.0 p.1) (all_of sheet.players distinct))
          ∙ sym (new_is sheet a p.0 p.1)
      by false e = let none = new_none sheet a e in ap (new_start (renumbered sheet)) none ∙ after_zero ∙ sym none

-- ---- two maps one after the other

module _ (new after : ℕ → ℕ) (small : (n : ℕ) → new n < 10000) (nothing : after 0 ≡ 0) where
  cell_twice : (cell : Cell) → renumbered_cell after (renumbered_cell new cell) ≡ renumbered_cell (λ n. after (new n)) cell
  cell_twice Blank = refl
  cell_twice (Bye bye) = refl
  cell_twice (Game opponent colour rated got) = refl
  cell_twice (Forfeit opponent colour won) = refl
  cell_twice (Unfinished opponent colour) = refl

  cells_twice : (cells : List Cell) → map (renumbered_cell after) (map (renumbered_cell new) cells) ≡ map (renumbered_cell (λ n. after (new n))) cells
  cells_twice [] = refl
  cells_twice (cell ∷ cells) = rw (cell_twice cell, cells_twice cells) refl

  pub entries_twice : (xs : List Entry) → map (renumbered_entry after) (map (renumbered_entry new) xs) ≡ map (renumbered_entry (λ n. after (new n))) xs
  entries_twice [] = refl
  entries_twice (x ∷ xs) =
      ap (λ (cells : List Cell). record x { start = after (new x.start); cells = cells } ∷ map (renumbered_entry after) (map (renumbered_entry new) xs)) (cells_twice x.cells)
      ∙ ap (λ (rest : List Entry). renumbered_entry (λ n. after (new n)) x ∷ rest) (entries_twice xs)

  word_twice : (n : ℕ) → n < 10000 → flat_map (renumbered_word after) (word_for n) ≡ number_behind (after n)
  word_twice zero lt = sym (ap number_behind nothing)
  word_twice (suc n) lt = rw (number_of-decimal (suc n) lt) (append-nil (number_behind (after (suc n))))

  words_twice : (ws : List (List ℕ)) → flat_map (renumbered_word after) (flat_map (new_words new) ws) ≡ flat_map (renumbered_word (λ n. after (new n))) ws
  words_twice [] = refl
  words_twice (w ∷ ws) = by (number_of w) (words_twice ws)
    where
      by : (o : Option ℕ) → flat_map (renumbered_word after) (flat_map (new_words new) ws) ≡ flat_map (renumbered_word (λ n. after (new n))) ws
          → flat_map (renumbered_word after) (option_map_or (λ n. word_for (new n)) o [] ++ flat_map (new_words new) ws)
          ≡ option_map_or (λ n. number_behind (after (new n))) o [] ++ flat_map (renumbered_word (λ n. after (new n))) ws
      by None later = later
      by (Some n) later =
          flat_map-append (renumbered_word after) (word_for (new n)) (flat_map (new_words new) ws)
          ∙ rw (word_twice (new n) (small n), later) refl

  named_as : (utf8 : Bool) (f : ℕ → ℕ) (line : List ℕ) → names_start_ranks (columns utf8 line) ≡ true
      → renumbered_line utf8 f line ≡ text (columns utf8 line) 1 3 ++ flat_map (renumbered_word f) (words_of (columns utf8 line))
  named_as utf8 f line h = rw h refl

  plain_as : (utf8 : Bool) (f : ℕ → ℕ) (line : List ℕ) → names_start_ranks (columns utf8 line) ≡ false → renumbered_line utf8 f line ≡ line
  plain_as utf8 f line h = rw h refl

  names_same : (utf8 : Bool) (line : List ℕ) → names_start_ranks (columns utf8 (renumbered_line utf8 new line)) ≡ names_start_ranks (columns utf8 line)
  names_same utf8 line = ap (λ (kind : List ℕ). is_word kind (codes "XXZ") || is_word kind (codes "XXP")) (kind_same new small utf8 line)

  line_twice : (utf8 : Bool) (line : List ℕ) → renumbered_line utf8 after (renumbered_line utf8 new line) ≡ renumbered_line utf8 (λ n. after (new n)) line
  line_twice utf8 line = by (names_start_ranks (columns utf8 line)) refl
    where
      by : (names : Bool) → names_start_ranks (columns utf8 line) ≡ names
          → renumbered_line utf8 after (renumbered_line utf8 new line) ≡ renumbered_line utf8 (λ n. after (new n)) line
      by true e =
          named_as utf8 after (renumbered_line utf8 new line) (names_same utf8 line ∙ e)
          ∙ ap (λ (kind : List ℕ). kind ++ flat_map (renumbered_word after) (words_of (columns utf8 (renumbered_line utf8 new line)))) (kind_same new small utf8 line)
          ∙ ap (λ (ws : List (List ℕ)). text (columns utf8 line) 1 3 ++ flat_map (renumbered_word after) ws) (words_named new small utf8 line e)
          ∙ ap (λ (bs : List ℕ). text (columns utf8 line) 1 3 ++ bs) (words_twice (words_of (columns utf8 line)))
          ∙ sym (named_as utf8 (λ n. after (new n)) line e)
      by false e =
          plain_as utf8 after (renumbered_line utf8 new line) (names_same utf8 line ∙ e) ∙ plain_as utf8 new line e ∙ sym (plain_as utf8 (λ n. after (new n)) line e)

  pub lines_twice : (utf8 : Bool) (lines : List (Option (List ℕ)))
      → map (option_map (renumbered_line utf8 after)) (map (option_map (renumbered_line utf8 new)) lines) ≡ map (option_map (renumbered_line utf8 (λ n. after (new n)))) lines
  lines_twice utf8 [] = refl
  lines_twice utf8 (None ∷ lines) = ap (λ (rest : List (Option (List ℕ))). None ∷ rest) (lines_twice utf8 lines)
  lines_twice utf8 (Some line ∷ lines) =
      ap (λ (first : List ℕ). Some first ∷ map (option_map (renumbered_line utf8 after)) (map (option_map (renumbered_line utf8 new)) lines)) (line_twice utf8 line)
      ∙ ap (λ (rest : List (Option (List ℕ))). Some (renumbered_line utf8 (λ n. after (new n)) line) ∷ rest) (lines_twice utf8 lines)

-- ---- the whole report

pub renumbered_twice : (sheet : Sheet) → length sheet.players ≤ MOST_PLAYERS → IsDistinct nat_eq (starts_of sheet.players) → renumbered (renumbered sheet) ≡ renumbered sheet
renumbered_twice sheet few distinct =
    let new = new_start sheet in
    let after = new_start (renumbered sheet) in
    let m = is_map sheet few in
    let nothing : after 0 ≡ 0 = after_zero sheet few distinct in
    ap (λ (ls : List (Option (List ℕ))). record sheet { carried = ls; players = map (renumbered_entry after) (map (renumbered_entry new) sheet.players) })
    (lines_twice new after m.small nothing sheet.utf8 sheet.carried)
    ∙ ap (λ (ps : List Entry). record sheet { carried = map (option_map (renumbered_line sheet.utf8 (λ n. after (new n)))) sheet.carried; players = ps })
    (entries_twice new after m.small nothing sheet.players)
    ∙ ap (λ f. renumbered_by f sheet) (fun_ext (new_twice sheet few distinct))

-- an accepted report has no more players than a report may have
few_by : (n : ℕ) → nat_lt MOST_PLAYERS n ≡ false → n ≤ MOST_PLAYERS
few_by n h = grind (arith, nat_tests)

pub few_players : (bytes : List ℕ) (bye : ℕ) (sheet : Sheet) → verdict bytes bye ≡ Ok sheet → length sheet.players ≤ MOST_PLAYERS
few_players bytes bye sheet e =
    let utf8 = is_utf8 (without_marks bytes) in
    let all = lines (without_marks bytes) in
    let r = (accepted bytes bye sheet e).0 in
    few_by (length sheet.players) (sized_is sheet sheet (has_too_many_rounds utf8 all) r.size).few
