-- The canonical text of a report that was read, with new start ranks, reads back as that.
--
-- The lines that were read have a copy, line by line, as those of a report whose players are changed have (`Copies` of the round trip), but
-- here the start ranks change too, and the lines that name some. A line that is carried reads on as before (`is_read`); that of a player
-- is the text of the player with the new start rank, which is fresh where the old one was, since the map tells the players apart.
use Rattle.std.proofs.Common.{◌≡◌, ℕ, ◌+◌, ◌≤◌, Bool, true, false, ◌&&◌, ◌||◌, ◌==◌, List, [], ◌∷◌, ◌++◌, length, map, refl, sym, ap, ◌∙◌, append_assoc, subst, Option, Ok}
use Rattle.std.specs.Prelude.{option_map}
use Rattle.std.specs.List.{AllByRecursion, list_all}
use Rattle.std.specs.Str.{is_utf8}
use Rattle.std.proofs.lemmas.Bool.{and_parts, or_parts, ltb-false}
use Rattle.std.proofs.lemmas.List.{append-nil, map-append, length-map}
use Rattle.std.proofs.lemmas.List.Folds.{list_any-append}
use Rattle.trf16_report.specs.Prelude.{columns, lines, without_marks, Entry, Sheet, known, player_at, is_player, is_too_long, line_onto, lines_onto, carried_line, without_players, has_too_many_rounds, sized, verdict, player_text, lines_text, written, new_start, renumbered, renumbered_entry, renumbered_line}
use Rattle.trf16_report.specs.declared.limits.TheConstants.{MOST_PLAYERS, MOST_BYTES}
use Rattle.trf16_writer.proofs.BoardLemmas.{eq-self}
use Rattle.trf16_report.proofs.LineSteps.{turned, line_keeps, line_adds}
use Rattle.trf16_report.proofs.StepLemmas.{same_ok}
use Rattle.trf16_laws.proofs.WrittenFields.{are_small}
use Rattle.trf16_laws.proofs.WrittenPlayers.{IsSoundEntry, player_is, was_player, written_player}
use Rattle.trf16_writer.proofs.AcceptedReport.{first_onto, accepted, sized_is, IsLaidOut}
use Rattle.trf16_laws.proofs.WrittenReport.{line_from, onto_from, all_small, were_sound, verdict_from, kept_bye}
use Rattle.trf16_laws.proofs.WrittenText.{is_inside, are_inside, are_utf8, has_mark, lines-line, lines-inside, utf8_lines, no_mark, without_marks-no_mark}
use Rattle.report_laws.proofs.BackLines.{carrying, all_carrying, line-carrying}
use Rattle.report_laws.proofs.NumberedLine.{is_read}
use Rattle.report_laws.proofs.NumberedPlayers.{TellsApart, tells_apart, each_has, has_start, known_new, players_new}

-- ---- the lines

module _ (new : ℕ → ℕ) (utf8 : Bool) (kept : List (Option (List ℕ))) where
  -- a report whose players have new start ranks, and which carries other lines
  abbrev numbered : Sheet → Sheet
  numbered sheet = carrying kept (turned (renumbered_entry new) sheet)

  abbrev IsGood : Entry → Type 0
  IsGood entry = IsSoundEntry utf8 (renumbered_entry new entry) × are_small entry.points

  -- the lines as they are carried, those that name start ranks with the new ones
  abbrev lines_of : List (List ℕ) → List (Option (List ℕ))
  lines_of all = map (option_map (renumbered_line utf8 new)) (map (carried_line utf8) all)

  -- lines that read as others do, but for start ranks, and are those of the canonical text
  record Copies (sheet final : Sheet) (n : ℕ) (all : List (List ℕ)) (entries : List Entry) : Type 0 where
    copy : List (List ℕ)
    read : lines_onto (numbered sheet) n copy ≡ Ok (numbered final)
    carried : map (carried_line utf8) copy ≡ lines_of all
    short : has_too_many_rounds utf8 copy ≡ false
    same : are_utf8 copy ≡ are_utf8 all
    text : lines (lines_text utf8 (lines_of all) (map (renumbered_entry new) entries)) ≡ copy
    unmarked : (bytes : List ℕ) → lines bytes ≡ all → has_mark bytes ≡ false → has_mark (lines_text utf8 (lines_of all) (map (renumbered_entry new) entries)) ≡ false

  -- what some lines add, and that they can be copied
  record WereRead (sheet final : Sheet) (n : ℕ) (all : List (List ℕ)) : Type 0 where
    entries : List Entry
    utf8_is : final.utf8 ≡ utf8
    carried_is : final.carried ≡ sheet.carried
    players : final.players ≡ sheet.players ++ entries
    copied : TellsApart final new → AllByRecursion IsGood entries → Copies sheet final n all entries

  end_read : (sheet final : Sheet) (n : ℕ) → sheet.utf8 ≡ utf8 → lines_onto sheet n [] ≡ Ok final → WereRead sheet final n []
  unfolding lines_onto
  end_read sheet final n u e =
      let same : sheet ≡ final = same_ok sheet final e in
      record {
        entries = [];
        utf8_is = ap (λ (s : Sheet). s.utf8) (sym same) ∙ u;
        carried_is = ap (λ (s : Sheet). s.carried) (sym same);
        players = ap (λ (s : Sheet). s.players) (sym same) ∙ sym (append-nil sheet.players);
        copied = λ tells good. record {
          copy = [];
          read = ap (λ (s : Sheet). Ok (numbered s)) same;
          carried = refl;
          short = refl;
          same = refl;
          text = refl;
          unmarked = λ bytes b h. refl;
        };
      }

  carried_read : (sheet next final : Sheet) (n : ℕ) (line : List ℕ) (rest : List (List ℕ)) → sheet.utf8 ≡ utf8 → list_all is_inside line ≡ true
      → is_player (columns utf8 line) ≡ false → line_onto sheet n (columns sheet.utf8 line) ≡ Ok next → WereRead next final (n + 1) rest → WereRead sheet final n (line ∷ rest)
  carried_read sheet next final n line rest u inside other e later =
      let here : line_onto sheet n (columns utf8 line) ≡ Ok next = subst (λ b. line_onto sheet n (columns b line) ≡ Ok next) u e in
      let keeps = line_keeps (λ entry. entry) sheet n (columns utf8 line) next other here in
      let made = renumbered_line utf8 new line in
      record {
        entries = later.entries;
        utf8_is = later.utf8_is;
        carried_is = later.carried_is ∙ keeps.carried;
        players = later.players ∙ ap (λ (ps : List Entry). ps ++ later.entries) keeps.players;
        copied = λ tells good.
            let c = later.copied tells good in
            let l = is_read new tells.small utf8 line sheet next n other inside here in
            let turns = line_keeps (renumbered_entry new) sheet n (columns utf8 made) next l.other l.read in
            let again : line_onto (numbered sheet) n (columns sheet.utf8 made) ≡ Ok (numbered next) =
            ap (λ b. line_onto (numbered sheet) n (columns b made)) u
            ∙ line-carrying kept (turned (renumbered_entry new) sheet) n (columns utf8 made) ∙ ap (all_carrying kept) turns.turns in
            record {
              copy = made ∷ c.copy;
              read = onto_from (numbered sheet) (numbered next) (numbered final) n made c.copy again c.read;
              carried = rw (other, l.other, c.carried) refl;
              short = rw l.other c.short;
              same = rw (l.same, c.same) refl;
              text = rw other (lines-line made (lines_text utf8 (lines_of rest) (map (renumbered_entry new) later.entries)) l.inside ∙ ap (λ (ls : List (List ℕ)). made ∷ ls) c.text);
              unmarked = λ bytes b h. rw other (l.unmarked bytes rest (lines_text utf8 (lines_of rest) (map (renumbered_entry new) later.entries)) b h);
            };
      }

  -- a start rank that nobody had is fresh as the new one
  fresh_new : (sheet final : Sheet) (entry : Entry) (others : List Entry) → final.players ≡ sheet.players ++ (entry ∷ others) → TellsApart final new
      → known sheet entry.start ≡ false → has_start (map (renumbered_entry new) sheet.players) (new entry.start) ≡ false
  fresh_new sheet final entry others players tells fresh =
      let all : (a : ℕ) → known final a ≡ (has_start sheet.players a || has_start (entry ∷ others) a) = λ a.
      ap (λ (ps : List Entry). has_start ps a) players ∙ list_any-append (λ (e : Entry). e.start == a) sheet.players (entry ∷ others) in
      let mine : known final entry.start ≡ true = all entry.start ∙ rw (fresh, eq-self entry.start) refl in
      let front : (a : ℕ) → has_start sheet.players a ≡ true → known final a ≡ true = λ a is. all a ∙ rw is refl in
      known_new new sheet.players entry.start
      (each_has (λ a. (new a == new entry.start) ≡ (a == entry.start)) sheet.players (λ a is. tells.same a entry.start (front a is) mine)) ∙ fresh

  player_read : (sheet next final : Sheet) (n : ℕ) (line : List ℕ) (rest : List (List ℕ)) → sheet.utf8 ≡ utf8 → list_all is_inside line ≡ true
      → is_player (columns utf8 line) ≡ true → is_too_long (columns utf8 line) ≡ false → line_onto sheet n (columns sheet.utf8 line) ≡ Ok next
      → WereRead next final (n + 1) rest → WereRead sheet final n (line ∷ rest)
  player_read sheet next final n line rest u inside named short e later =
      let here : line_onto sheet n (columns utf8 line) ≡ Ok next = subst (λ b. line_onto sheet n (columns b line) ≡ Ok next) u e in
      let adds = line_adds sheet n (columns utf8 line) next named here in
      let entry = adds.0 in
      let player = player_is sheet n (columns utf8 line) entry adds.1 in
      let was = was_player utf8 sheet n line entry inside named short player in
      let players : final.players ≡ sheet.players ++ (entry ∷ later.entries) =
      later.players ∙ ap (λ (s : Sheet). s.players ++ later.entries) (sym adds.2) ∙ append_assoc sheet.players (entry ∷ []) later.entries in
      record {
        entries = entry ∷ later.entries;
        utf8_is = later.utf8_is;
        carried_is = later.carried_is ∙ ap (λ (s : Sheet). s.carried) (sym adds.2);
        players = players;
        copied = λ tells good.
            let c = later.copied tells good.1 in
            let turn = renumbered_entry new entry in
            let fresh : known (numbered sheet) turn.start ≡ false = fresh_new sheet final entry later.entries players tells player.fresh in
            let w = written_player (numbered sheet) utf8 turn good.0.0 good.0.1 fresh in
            let text = player_text utf8 turn in
            let again : line_onto (numbered sheet) n (columns sheet.utf8 text) ≡ Ok (numbered next) =
            ap (λ b. line_onto (numbered sheet) n (columns b text)) u
            ∙ line_from (numbered sheet) n (columns utf8 text) turn w.named
            (ap (λ k. player_at (numbered sheet) k (columns utf8 text)) player.numbered ∙ w.read)
            ∙ ap (λ (ps : List Entry). Ok (record sheet { carried = kept; players = ps })) (sym (map-append (renumbered_entry new) sheet.players (entry ∷ [])))
            ∙ ap (λ (s : Sheet). Ok (numbered s)) adds.2 in
            record {
              copy = text ∷ c.copy;
              read = onto_from (numbered sheet) (numbered next) (numbered final) n text c.copy again c.read;
              carried = rw (named, w.named, c.carried) refl;
              short = rw (w.named, w.short) c.short;
              same = rw (w.same, was.same, c.same) refl;
              text = rw named (lines-line text (lines_text utf8 (lines_of rest) (map (renumbered_entry new) later.entries)) w.inside ∙ ap (λ (ls : List (List ℕ)). text ∷ ls) c.text);
              unmarked = λ bytes b h. rw named refl;
            };
      }

  were_read : (sheet final : Sheet) (n : ℕ) (all : List (List ℕ)) → sheet.utf8 ≡ utf8 → are_inside all ≡ true → has_too_many_rounds utf8 all ≡ false
      → lines_onto sheet n all ≡ Ok final → WereRead sheet final n all
  were_read sheet final n [] u inside short e = end_read sheet final n u e
  were_read sheet final n (line ∷ rest) u inside short e =
      let first = first_onto sheet final n line rest e in
      let both = and_parts (list_all is_inside line) (are_inside rest) inside in
      let long = or_parts (is_player (columns utf8 line) && is_too_long (columns utf8 line)) (has_too_many_rounds utf8 rest) short in
      by (is_player (columns utf8 line)) refl first.0 first.1 both.0 long.0 (λ u'. were_read first.0 final (n + 1) rest u' both.1 long.1 first.2)
    where
      by : (named : Bool) → is_player (columns utf8 line) ≡ named → (next : Sheet) → line_onto sheet n (columns sheet.utf8 line) ≡ Ok next → list_all is_inside line ≡ true
          → (named && is_too_long (columns utf8 line)) ≡ false → (next.utf8 ≡ utf8 → WereRead next final (n + 1) rest) → WereRead sheet final n (line ∷ rest)
      by true named next e inside short later =
          let adds = line_adds sheet n (columns sheet.utf8 line) next (rw u named) e in
          player_read sheet next final n line rest u inside named short e (later (ap (λ (s : Sheet). s.utf8) (sym adds.2) ∙ u))
      by false named next e inside short later =
          let keeps = line_keeps (λ entry. entry) sheet n (columns sheet.utf8 line) next (rw u named) e in
          carried_read sheet next final n line rest u inside named e (later (keeps.utf8 ∙ u))

-- ---- the whole

sized_new : (new : ℕ → ℕ) (carried : List (Option (List ℕ))) (report : Sheet) (long : Bool) → sized report long ≡ Ok report → sized (numbered new report.utf8 carried report) long ≡ Ok (numbered new report.utf8 carried report)
unfolding sized
sized_new new carried report long e =
    let s = sized_is report report long e in
    rw (length-map report.players (renumbered_entry new), s.few, s.short, s.named, s.some) refl

text_by : (b utf8 : Bool) (ls carried : List (Option (List ℕ))) (ps players : List Entry) → b ≡ utf8 → ls ≡ carried → ps ≡ players
    → lines_text b ls ps ≡ lines_text utf8 carried players
text_by b utf8 ls carried ps players e e' e2 = rw (e, e', e2) refl

pub numbered_again : (bytes : List ℕ) (bye : ℕ) (report : Sheet) → bye ≤ 2 → verdict bytes bye ≡ Ok report → length (written (renumbered report)) ≤ MOST_BYTES
    → verdict (written (renumbered report)) report.bye ≡ Ok (renumbered report)
numbered_again bytes bye report worth e few =
    let body = without_marks bytes in
    let utf8 = is_utf8 body in
    let all = lines body in
    let a = accepted bytes bye report e in
    let r : IsLaidOut utf8 all bye report = a.0 in
    let new = new_start report in
    let size = sized_is report report (has_too_many_rounds utf8 all) r.size in
    let tells = tells_apart report (ltb-false MOST_PLAYERS (length report.players) size.few) in
    let small_bye : report.bye ≤ 2 = subst (λ b. b ≤ 2) (sym (kept_bye bytes bye report e)) worth in
    let sound = were_sound bytes bye report e in
    let small = all_small report.utf8 report report.players tt small_bye sound a.1 in
    let p = players_new report new tells sound small a.1 in
    let kept = map (option_map (renumbered_line report.utf8 new)) report.carried in
    let w = were_read new utf8 kept (without_players utf8 all bye) report 1 all refl (lines-inside body) r.short r.read in
    let good : AllByRecursion (IsGood new utf8 kept) w.entries =
    subst (λ b. AllByRecursion (IsGood new b kept) w.entries) w.utf8_is (subst (AllByRecursion (IsGood new report.utf8 kept)) w.players p.1) in
    let c = w.copied tells good in
    let lines_are : kept ≡ lines_of new utf8 kept all =
    ap (λ b. map (option_map (renumbered_line b new)) report.carried) w.utf8_is ∙ ap (map (option_map (renumbered_line utf8 new))) w.carried_is in
    let text : written (renumbered report) ≡ lines_text utf8 (lines_of new utf8 kept all) (map (renumbered_entry new) w.entries) =
    text_by report.utf8 utf8 kept (lines_of new utf8 kept all) (map (renumbered_entry new) report.players) (map (renumbered_entry new) w.entries)
    w.utf8_is lines_are (ap (map (renumbered_entry new)) w.players) in
    let copy : lines (written (renumbered report)) ≡ c.copy = ap lines text ∙ c.text in
    let empty : without_players utf8 c.copy bye ≡ numbered new utf8 kept (without_players utf8 all bye) =
    ap (λ (ls : List (Option (List ℕ))). carrying ls (without_players utf8 all bye)) (c.carried ∙ sym lines_are) in
    let laid : IsLaidOut utf8 c.copy bye (renumbered report) = record {
      read = ap (λ (s : Sheet). lines_onto s 1 c.copy) empty ∙ c.read;
      size = ap (sized (renumbered report)) (c.short ∙ sym r.short) ∙ sized_new new kept report (has_too_many_rounds utf8 all) r.size;
      short = c.short;
    } in
    let same : is_utf8 (written (renumbered report)) ≡ utf8 = utf8_lines (written (renumbered report)) ∙ ap are_utf8 copy ∙ c.same ∙ sym (utf8_lines body) in
    let unmarked : has_mark (written (renumbered report)) ≡ false = ap has_mark text ∙ c.unmarked body refl (without_marks-no_mark bytes) in
    let laid' : IsLaidOut (is_utf8 (written (renumbered report))) (lines (written (renumbered report))) bye (renumbered report) =
    subst (λ b. IsLaidOut b (lines (written (renumbered report))) bye (renumbered report)) (sym same)
    (subst (λ (ls : List (List ℕ)). IsLaidOut utf8 ls bye (renumbered report)) (sym copy) laid) in
    ap (verdict (written (renumbered report))) (kept_bye bytes bye report e)
    ∙ verdict_from (written (renumbered report)) bye (renumbered report) few (no_mark (written (renumbered report)) unmarked) laid' p.0
