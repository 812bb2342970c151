-- Places told by new start ranks, and a report with new start ranks whose players have other texts.
use Rattle.std.proofs.Common.{◌≡◌, ◌∙◌, ℕ, ◌+◌, Bool, ◌==◌, true, false, cond, List, [], ◌∷◌, length, map, Option, Some, None, refl, sym, ap, arith}
use Rattle.std.specs.Prelude.{count_by, option_map}
use Rattle.std.specs.Option.{option_map_or}
use Rattle.std.proofs.lemmas.List.{length-map}
use Rattle.std.proofs.lemmas.List.Sums.{sum_by-cons}
use mathlib.Core.Path.{fun_ext}
use Rattle.tables.specs.declared.key.Key.{Key}
use Rattle.tables.specs.Prelude.{RowFacts, rows_of}
use Rattle.tables.proofs.SameGames.{HasSameGames, rows_same}
use Rattle.trf16_report.specs.Prelude.{Entry, Sheet, goes_before, new_start, player_of, rank_among, renumbered, renumbered_by, renumbered_entry, renumbered_line, written}
use Rattle.trf16_writer.specs.Alone.{players_alone}
use Rattle.ranks.specs.Prelude.{entries_with, entry_ranked, place_in, rank_text, with_places, with_ranks, with_texts}

-- what does not look at these columns of a player
abbrev LeavesRight : {T : Type 0} → (Entry → T) → Type 0
LeavesRight {T} f = (entry : Entry) (text : List ℕ) → ◌≡◌ {A = T} (f (record entry { right = text })) (f entry)

count_with : (p : Entry → Bool) → LeavesRight p → (entries : List Entry) (texts : List (List ℕ)) → length texts ≡ length entries
    → count_by p (entries_with entries texts) ≡ count_by p entries
count_with p leaves [] texts many = refl
count_with p leaves (entry ∷ entries) [] many = absurd (omega (arith, many))
count_with p leaves (entry ∷ entries) (text ∷ texts) many =
    sum_by-cons (λ (e : Entry). cond (p e) 1 0) (record entry { right = text }) (entries_with entries texts)
    ∙ ap (λ b. cond b 1 0 + count_by p (entries_with entries texts)) (leaves entry text)
    ∙ ap (λ n. cond (p entry) 1 0 + n) (count_with p leaves entries texts (omega (arith, many)))
    ∙ sym (sum_by-cons (λ (e : Entry). cond (p e) 1 0) entry entries)

player_with : (f : Entry → ℕ) → LeavesRight f → (entries : List Entry) (texts : List (List ℕ)) (start : ℕ) → length texts ≡ length entries
    → option_map_or f (player_of (entries_with entries texts) start) 0 ≡ option_map_or f (player_of entries start) 0
player_with f leaves [] texts start many = refl
player_with f leaves (entry ∷ entries) [] start many = absurd (omega (arith, many))
player_with f leaves (entry ∷ entries) (text ∷ texts) start many = by (entry.start == start) (player_with f leaves entries texts start (omega (arith, many)))
  where
    by : (here : Bool) → option_map_or f (player_of (entries_with entries texts) start) 0 ≡ option_map_or f (player_of entries start) 0
        → option_map_or f (cond here (Some (record entry { right = text })) (player_of (entries_with entries texts) start)) 0
        ≡ option_map_or f (cond here (Some entry) (player_of entries start)) 0
    by true later = leaves entry text
    by false later = later

module _ (sheet : Sheet) (texts : List (List ℕ)) (many : length texts ≡ length sheet.players) where
  abbrev changed : List Entry
  changed = entries_with sheet.players texts

  rank_kept : (entry : Entry) → rank_among sheet.utf8 changed entry ≡ rank_among sheet.utf8 sheet.players entry
  rank_kept entry = ap (λ n. n + 1) (count_with (λ other. goes_before sheet.utf8 other entry) (λ e text. refl) sheet.players texts many)

  some_kept : (found : Option Entry) → option_map_or (rank_among sheet.utf8 changed) found 0 ≡ option_map_or (rank_among sheet.utf8 sheet.players) found 0
  some_kept None = refl
  some_kept (Some entry) = rank_kept entry

  -- the new start ranks are those of the report
  new_kept : (start : ℕ) → new_start (with_texts sheet texts) start ≡ new_start sheet start
  new_kept start =
      player_with (rank_among sheet.utf8 changed) (λ e text. refl) sheet.players texts start many ∙ some_kept (player_of sheet.players start)

-- the text of a player's place
abbrev pub text_among : List RowFacts → Entry → List ℕ
text_among rows entry = rank_text (place_in rows entry.start)

-- texts are put beside new start ranks
beside : (new : ℕ → ℕ) (rows : List RowFacts) (entries : List Entry)
    → map (renumbered_entry new) (entries_with entries (map (text_among rows) (map (renumbered_entry new) entries)))
    ≡ map (entry_ranked rows) (map (renumbered_entry new) entries)
beside new rows [] = refl
beside new rows (entry ∷ entries) = ap (λ (es : List Entry). entry_ranked rows (renumbered_entry new entry) ∷ es) (beside new rows entries)

-- each text is put to its player
own_texts : (rows : List RowFacts) (entries : List Entry) → entries_with entries (map (text_among rows) entries) ≡ map (entry_ranked rows) entries
own_texts rows [] = refl
own_texts rows (entry ∷ entries) = ap (λ (es : List Entry). entry_ranked rows entry ∷ es) (own_texts rows entries)

pub texts_given : (sheet : Sheet) (keys : List Key) (rows : List RowFacts) (texts : List (List ℕ)) → rows ≡ rows_of sheet keys → texts ≡ map (text_among rows) sheet.players
    → with_texts sheet texts ≡ with_ranks keys sheet
texts_given sheet keys rows texts same given =
    ap (with_texts sheet) given ∙ ap (λ (rows : List RowFacts). with_texts sheet (map (text_among rows) sheet.players)) same
    ∙ ap (λ (es : List Entry). record sheet { players = es }) (own_texts (rows_of sheet keys) sheet.players)

alone_same : (sheet : Sheet) → HasSameGames (players_alone sheet) sheet
alone_same sheet = record { starts = refl; cells = λ start. refl; rounds = refl; bye = refl }

-- the same of new start ranks
module _ (sheet alone : Sheet) (keys : List Key) (rows : List RowFacts) (texts : List (List ℕ)) (is : alone ≡ players_alone (renumbered sheet))
    (same : rows ≡ rows_of alone keys) (given : texts ≡ map (text_among rows) alone.players) where
  abbrev of_new : List RowFacts
  of_new = rows_of (renumbered sheet) keys

  rows_new : rows ≡ of_new
  rows_new = same ∙ ap (λ (s : Sheet). rows_of s keys) is ∙ rows_same (players_alone (renumbered sheet)) (renumbered sheet) (alone_same (renumbered sheet)) keys

  texts_new : texts ≡ map (text_among of_new) (renumbered sheet).players
  texts_new = given ∙ ap (λ (s : Sheet). map (text_among rows) s.players) is ∙ ap (λ (rows : List RowFacts). map (text_among rows) (renumbered sheet).players) rows_new

  pub many_new : length texts ≡ length sheet.players
  many_new =
      ap (λ (ts : List (List ℕ)). length ts) texts_new ∙ length-map (renumbered sheet).players (text_among of_new)
      ∙ length-map sheet.players (renumbered_entry (new_start sheet))

  pub ranked_new : renumbered (with_texts sheet texts) ≡ with_ranks keys (renumbered sheet)
  ranked_new =
      ap (λ (new : ℕ → ℕ). renumbered_by new (with_texts sheet texts)) (fun_ext (new_kept sheet texts many_new))
      ∙ ap (λ (ts : List (List ℕ)). renumbered_by (new_start sheet) (with_texts sheet ts)) texts_new
      ∙ ap (λ (es : List Entry). record (renumbered sheet) { players = es }) (beside (new_start sheet) of_new sheet.players)
