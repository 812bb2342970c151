-- The canonical text of a report that was read reads back as that report, also where the points and cells of its players were changed.
--
-- The lines that were read have a copy, line by line: a line that is carried is its own copy, and that of a player's line is the
-- text of the player. `Copies` says what the copy keeps: it reads on to the same report, as the same start ranks stand in front of
-- each line; the same lines are carried; none is too long; it is UTF-8 where the lines are; and the canonical text falls into it.
-- The players may be turned into others on the way, by a change that keeps their start ranks, lines and carried columns (`Turns`).
-- The rules on two players, the sums and the sizes speak of the report alone, so they hold again. They are used once: a points
-- field that is accepted is below 100 points, and only such a field fits into its four columns (`small_points`).
-- A new field of a player's line wants: what its reading tells (`was_player`), its columns (`written_player`), and that the
-- reading finds it there (`IsPlayer`, in both directions).
use Rattle.std.proofs.Common.{◌≡◌, ℕ, ◌+◌, ◌*◌, ◌<◌, ◌≤◌, Bool, true, false, ◌&&◌, ◌||◌, ◌==◌, nat_lt, cond, List, [], ◌∷◌, ◌++◌, length, take, map, refl, sym, ap, ◌∙◌, append_assoc, arith, subst, inl, inr, Option, Some, None, Result, Ok, Err}
use Rattle.std.specs.Prelude.{sum_by}
use Rattle.std.specs.List.{list_all, list_any}
use Rattle.std.specs.Option.{option_map_or}
use Rattle.std.specs.Str.{is_utf8}
use Rattle.std.proofs.lemmas.Bool.{and_parts, or_parts, or_cases, eqb-true, ltb-true, le-ltb}
use Rattle.std.proofs.lemmas.List.{append-nil, map-append, map-id, length-map}
use Rattle.std.proofs.lemmas.List.Sums.{sum_by-cons, sum_by-take-le}
use Rattle.trf16_report.specs.Prelude.{columns, lines, without_marks, Entry, Sheet, with_player, known, half_points, rounds_played, cells_fit, points_fit, player_fits, players_fit, has_other_points, player_at, is_player, is_too_long, player_onto, line_onto, lines_onto, carried_line, without_players, has_too_many_rounds, sized, laid_out, verdict, player_text, lines_text, written}
use Rattle.trf16_report.specs.declared.cell.Bye.TheVariants.{Half, Full, Allocated, Zero}
use Rattle.trf16_report.specs.declared.cell.GameOutcome.TheVariants.{Win, Draw, Loss}
use Rattle.trf16_report.specs.declared.cell.Cell.{Cell}
use Rattle.trf16_report.specs.declared.cell.Cell.TheVariants.{Blank, Bye, Game, Forfeit, Unfinished}
use Rattle.trf16_report.specs.declared.fault.Fault.{Fault}
use Rattle.trf16_report.specs.declared.fault.Fault.TheVariants.{Points}
use Rattle.trf16_report.proofs.StepLemmas.{then_ok, same_ok}
use Rattle.trf16_report.proofs.LineSteps.{turned, line_keeps, line_adds}
use Rattle.trf16_laws.proofs.WrittenText.{is_inside, are_inside, are_utf8, lines-line, lines-inside, utf8_lines, has_mark, no_mark, without_marks-no_mark, line-no_mark}
use Rattle.trf16_laws.proofs.WrittenFields.{are_small}
use Rattle.trf16_laws.proofs.WrittenPlayers.{IsPlayer, IsSoundEntry, player_is, was_player, written_player}
use Rattle.trf16_report.specs.declared.limits.TheConstants.{MOST_ROUNDS, MOST_BYTES}
use Rattle.trf16_writer.proofs.AcceptedReport.{IsLaidOut, IsLaidOutOf, accepted, first_onto, sized_is}

-- a change of players that leaves their start ranks, lines and carried columns, and whom the reading can find again
pub record Turns (utf8 : Bool) (turn : Entry → Entry) : Type 0 where
  pub start : (entry : Entry) → (turn entry).start ≡ entry.start
  pub line : (entry : Entry) → (turn entry).line ≡ entry.line
  pub left : (entry : Entry) → (turn entry).left ≡ entry.left
  pub right : (entry : Entry) → (turn entry).right ≡ entry.right
  pub sound : (entry : Entry) → IsSoundEntry utf8 entry → IsSoundEntry utf8 (turn entry)

pub known-turned : (utf8 : Bool) (turn : Entry → Entry) (entries : List Entry) (start : ℕ) → Turns utf8 turn
    → list_any (λ (entry : Entry). entry.start == start) (map turn entries) ≡ list_any (λ (entry : Entry). entry.start == start) entries
known-turned utf8 turn [] start t = refl
known-turned utf8 turn (entry ∷ entries) start t = rw (t.start entry, known-turned utf8 turn entries start t) refl

pub line_from : (sheet : Sheet) (n : ℕ) (line : List (List ℕ)) (entry : Entry) → is_player line ≡ true → player_at sheet n line ≡ Ok entry
    → line_onto sheet n line ≡ Ok (with_player sheet entry)
unfolding line_onto player_onto
line_from sheet n line entry named e = rw (named, e) refl

abbrev pub are_all_small : List Entry → Type 0
are_all_small [] = Unit {0}
are_all_small (entry ∷ entries) = are_small entry.points × are_all_small entries

abbrev pub are_all_sound : Bool → List Entry → Type 0
are_all_sound utf8 [] = Unit {0}
are_all_sound utf8 (entry ∷ entries) = IsSoundEntry utf8 entry × are_all_sound utf8 entries

turned_sound : (utf8 : Bool) (turn : Entry → Entry) (entries : List Entry) → Turns utf8 turn → are_all_sound utf8 entries → are_all_sound utf8 (map turn entries)
turned_sound utf8 turn [] t sound = tt
turned_sound utf8 turn (entry ∷ entries) t sound = (t.sound entry sound.0, turned_sound utf8 turn entries t sound.1)

-- lines that read as others do, but for the players, who are changed, and are those of the canonical text
record Copies (utf8 : Bool) (turn : Entry → Entry) (sheet final : Sheet) (n : ℕ) (all : List (List ℕ)) (entries : List Entry) : Type 0 where
  copy : List (List ℕ)
  read : lines_onto (turned turn sheet) n copy ≡ Ok (turned turn final)
  carried : map (carried_line utf8) copy ≡ map (carried_line utf8) all
  short : has_too_many_rounds utf8 copy ≡ false
  same : are_utf8 copy ≡ are_utf8 all
  text : lines (lines_text utf8 (map (carried_line utf8) all) (map turn entries)) ≡ copy
  unmarked : (bytes : List ℕ) → lines bytes ≡ all → has_mark bytes ≡ false → has_mark (lines_text utf8 (map (carried_line utf8) all) (map turn entries)) ≡ false

-- what some lines add, and that they can be copied
record WereRead (utf8 : Bool) (sheet final : Sheet) (n : ℕ) (all : List (List ℕ)) : Type 0 where
  entries : List Entry
  utf8_is : final.utf8 ≡ utf8
  carried : final.carried ≡ sheet.carried
  players : final.players ≡ sheet.players ++ entries
  bye_is : final.bye ≡ sheet.bye
  sound : are_all_sound utf8 entries
  copied : (turn : Entry → Entry) → Turns utf8 turn → are_all_small (map turn entries) → Copies utf8 turn sheet final n all entries

end_read : (utf8 : Bool) (sheet final : Sheet) (n : ℕ) → sheet.utf8 ≡ utf8 → lines_onto sheet n [] ≡ Ok final → WereRead utf8 sheet final n []
unfolding lines_onto
end_read utf8 sheet final n u e =
    let same : sheet ≡ final = same_ok sheet final e in
    record {
      entries = [];
      utf8_is = ap (λ (s : Sheet). s.utf8) (sym same) ∙ u;
      carried = ap (λ (s : Sheet). s.carried) (sym same);
      players = ap (λ (s : Sheet). s.players) (sym same) ∙ sym (append-nil sheet.players);
      bye_is = ap (λ (s : Sheet). s.bye) (sym same);
      sound = tt;
      copied = λ turn t small. record {
        copy = [];
        read = ap (λ (s : Sheet). Ok (turned turn s)) same;
        carried = refl;
        short = refl;
        same = refl;
        text = refl;
        unmarked = λ bytes b h. refl;
      };
    }

pub onto_from : (sheet next final : Sheet) (n : ℕ) (line : List ℕ) (rest : List (List ℕ)) → line_onto sheet n (columns sheet.utf8 line) ≡ Ok next
    → lines_onto next (n + 1) rest ≡ Ok final → lines_onto sheet n (line ∷ rest) ≡ Ok final
unfolding lines_onto
onto_from sheet next final n line rest e e' = rw e e'

carried_read : (utf8 : Bool) (sheet next final : Sheet) (n : ℕ) (line : List ℕ) (rest : List (List ℕ)) → sheet.utf8 ≡ utf8 → list_all is_inside line ≡ true
    → is_player (columns utf8 line) ≡ false → line_onto sheet n (columns sheet.utf8 line) ≡ Ok next → WereRead utf8 next final (n + 1) rest
    → WereRead utf8 sheet final n (line ∷ rest)
carried_read utf8 sheet next final n line rest u inside other e later =
    let keeps = line_keeps (λ entry. entry) sheet n (columns sheet.utf8 line) next (rw u other) e in
    record {
      entries = later.entries;
      utf8_is = later.utf8_is;
      carried = later.carried ∙ keeps.carried;
      players = later.players ∙ ap (λ (ps : List Entry). ps ++ later.entries) keeps.players;
      bye_is = later.bye_is ∙ keeps.bye;
      sound = later.sound;
      copied = λ turn t small.
          let c = later.copied turn t small in
          let again = line_keeps turn sheet n (columns sheet.utf8 line) next (rw u other) e in
          record {
            copy = line ∷ c.copy;
            read = onto_from (turned turn sheet) (turned turn next) (turned turn final) n line c.copy again.turns c.read;
            carried = ap (λ (ls : List (Option (List ℕ))). carried_line utf8 line ∷ ls) c.carried;
            short = rw other c.short;
            same = ap (λ b. is_utf8 line && b) c.same;
            text = rw other (lines-line line (lines_text utf8 (map (carried_line utf8) rest) (map turn later.entries)) inside ∙ ap (λ (ls : List (List ℕ)). line ∷ ls) c.text);
            unmarked = λ bytes b h. rw other (line-no_mark bytes line rest (lines_text utf8 (map (carried_line utf8) rest) (map turn later.entries)) b h);
          };
    }

player_read : (utf8 : Bool) (sheet next final : Sheet) (n : ℕ) (line : List ℕ) (rest : List (List ℕ)) → sheet.utf8 ≡ utf8 → list_all is_inside line ≡ true
    → is_player (columns utf8 line) ≡ true → is_too_long (columns utf8 line) ≡ false → line_onto sheet n (columns sheet.utf8 line) ≡ Ok next
    → WereRead utf8 next final (n + 1) rest → WereRead utf8 sheet final n (line ∷ rest)
player_read utf8 sheet next final n line rest u inside named short e later =
    let adds = line_adds sheet n (columns sheet.utf8 line) next (rw u named) e in
    let entry = adds.0 in
    let player : IsPlayer sheet n (columns utf8 line) entry = subst (λ b. IsPlayer sheet n (columns b line) entry) u (player_is sheet n (columns sheet.utf8 line) entry adds.1) in
    let was = was_player utf8 sheet n line entry inside named short player in
    record {
      entries = entry ∷ later.entries;
      utf8_is = later.utf8_is;
      carried = later.carried ∙ ap (λ (s : Sheet). s.carried) (sym adds.2);
      players = later.players ∙ ap (λ (s : Sheet). s.players ++ later.entries) (sym adds.2) ∙ append_assoc sheet.players (entry ∷ []) later.entries;
      bye_is = later.bye_is ∙ ap (λ (s : Sheet). s.bye) (sym adds.2);
      sound = (was.sound, later.sound);
      copied = λ turn t small.
          let c = later.copied turn t small.1 in
          let fresh : known (turned turn sheet) (turn entry).start ≡ false =
          known-turned utf8 turn sheet.players (turn entry).start t ∙ ap (known sheet) (t.start entry) ∙ player.fresh in
          let w = written_player (turned turn sheet) utf8 (turn entry) (t.sound entry was.sound) small.0 fresh in
          let text = player_text utf8 (turn entry) in
          let again : line_onto (turned turn sheet) n (columns sheet.utf8 text) ≡ Ok (turned turn next) =
          ap (λ b. line_onto (turned turn sheet) n (columns b text)) u
          ∙ line_from (turned turn sheet) n (columns utf8 text) (turn entry) w.named
          (ap (λ k. player_at (turned turn sheet) k (columns utf8 text)) (player.numbered ∙ sym (t.line entry)) ∙ w.read)
          ∙ ap (λ (ps : List Entry). Ok (record sheet { players = ps })) (sym (map-append turn sheet.players (entry ∷ [])))
          ∙ ap (λ (s : Sheet). Ok (turned turn s)) adds.2 in
          record {
            copy = text ∷ c.copy;
            read = onto_from (turned turn sheet) (turned turn next) (turned turn final) n text c.copy again c.read;
            carried = rw (named, w.named, c.carried) refl;
            short = rw (w.named, w.short) c.short;
            same = rw (w.same, was.same, c.same, t.left entry, t.right entry) refl;
            text = rw named (lines-line text (lines_text utf8 (map (carried_line utf8) rest) (map turn later.entries)) w.inside ∙ ap (λ (ls : List (List ℕ)). text ∷ ls) c.text);
            unmarked = λ bytes b h. rw named refl;
          };
    }

were_read : (utf8 : Bool) (sheet final : Sheet) (n : ℕ) (all : List (List ℕ)) → sheet.utf8 ≡ utf8 → are_inside all ≡ true → has_too_many_rounds utf8 all ≡ false
    → lines_onto sheet n all ≡ Ok final → WereRead utf8 sheet final n all
were_read utf8 sheet final n [] u inside short e = end_read utf8 sheet final n u e
were_read utf8 sheet final n (line ∷ rest) u inside short e =
    let first = first_onto sheet final n line rest e in
    let both = and_parts (list_all is_inside line) (are_inside rest) inside in
    let long = or_parts (is_player (columns utf8 line) && is_too_long (columns utf8 line)) (has_too_many_rounds utf8 rest) short in
    let later : first.0.utf8 ≡ utf8 → WereRead utf8 first.0 final (n + 1) rest = λ u'. were_read utf8 first.0 final (n + 1) rest u' both.1 long.1 first.2 in
    by (is_player (columns utf8 line)) refl first.0 first.1 both.0 long.0 later
  where
    by : (named : Bool) → is_player (columns utf8 line) ≡ named → (next : Sheet) → line_onto sheet n (columns sheet.utf8 line) ≡ Ok next → list_all is_inside line ≡ true
        → (named && is_too_long (columns utf8 line)) ≡ false → (next.utf8 ≡ utf8 → WereRead utf8 next final (n + 1) rest) → WereRead utf8 sheet final n (line ∷ rest)
    by true named next e inside short later =
        let adds = line_adds sheet n (columns sheet.utf8 line) next (rw u named) e in
        player_read utf8 sheet next final n line rest u inside named short e (later (ap (λ (s : Sheet). s.utf8) (sym adds.2) ∙ u))
    by false named next e inside short later =
        let keeps = line_keeps (λ entry. entry) sheet n (columns sheet.utf8 line) next (rw u named) e in
        carried_read utf8 sheet next final n line rest u inside named e (later (keeps.utf8 ∙ u))

-- points

half_points_le : (bye : ℕ) (cell : Cell) → bye ≤ 2 → half_points bye cell ≤ 2
half_points_le bye Blank worth = omega arith
half_points_le bye (Bye Half) worth = omega arith
half_points_le bye (Bye Full) worth = omega arith
half_points_le bye (Bye Allocated) worth = worth
half_points_le bye (Bye Zero) worth = omega arith
half_points_le bye (Game opponent colour rated Win) worth = omega arith
half_points_le bye (Game opponent colour rated Draw) worth = omega arith
half_points_le bye (Game opponent colour rated Loss) worth = omega arith
half_points_le bye (Forfeit opponent colour true) worth = omega arith
half_points_le bye (Forfeit opponent colour false) worth = omega arith
half_points_le bye (Unfinished opponent colour) worth = omega arith

sum_le : (bye : ℕ) (cells : List Cell) → bye ≤ 2 → sum_by (half_points bye) cells ≤ 2 * length cells
sum_le bye [] worth = omega arith
sum_le bye (cell ∷ cells) worth =
    let here : half_points bye cell ≤ 2 = half_points_le bye cell worth in
    let others : sum_by (half_points bye) cells ≤ 2 * length cells = sum_le bye cells worth in
    omega (arith, sum_by-cons (half_points bye) cell cells)

small_points : (sheet : Sheet) (entry : Entry) (y : Unit {0}) → sheet.bye ≤ 2 → length entry.cells ≤ MOST_ROUNDS → points_fit sheet entry ≡ Ok y → are_small entry.points
unfolding points_fit
small_points sheet entry y worth few e = by entry.points e
  where
    all : sum_by (half_points sheet.bye) entry.cells ≤ 2 * MOST_ROUNDS
    all = let le : sum_by (half_points sheet.bye) entry.cells ≤ 2 * length entry.cells = sum_le sheet.bye entry.cells worth in omega arith

    some : sum_by (half_points sheet.bye) (take (rounds_played sheet) entry.cells) ≤ 2 * MOST_ROUNDS
    some =
        let le : sum_by (half_points sheet.bye) (take (rounds_played sheet) entry.cells) ≤ sum_by (half_points sheet.bye) entry.cells = sum_by-take-le (half_points sheet.bye) entry.cells (rounds_played sheet) in
        let le' : sum_by (half_points sheet.bye) entry.cells ≤ 2 * MOST_ROUNDS = all in
        omega arith

    tests : (points : ℕ)
        → ((points == sum_by (half_points sheet.bye) (take (rounds_played sheet) entry.cells)) || (points == sum_by (half_points sheet.bye) entry.cells) || (has_other_points sheet && nat_lt points 200)) ≡ true
        → points < 200
    tests points h =
        let le : sum_by (half_points sheet.bye) entry.cells ≤ 2 * MOST_ROUNDS = all in
        let le' : sum_by (half_points sheet.bye) (take (rounds_played sheet) entry.cells) ≤ 2 * MOST_ROUNDS = some in
        elim (or_cases ((points == sum_by (half_points sheet.bye) (take (rounds_played sheet) entry.cells)) || (points == sum_by (half_points sheet.bye) entry.cells)) (has_other_points sheet && nat_lt points 200) h) [
          | inl sums ↦
              elim (or_cases (points == sum_by (half_points sheet.bye) (take (rounds_played sheet) entry.cells)) (points == sum_by (half_points sheet.bye) entry.cells) sums) [
                | inl one ↦ let same : points ≡ sum_by (half_points sheet.bye) (take (rounds_played sheet) entry.cells) = eqb-true points (sum_by (half_points sheet.bye) (take (rounds_played sheet) entry.cells)) one in omega arith
                | inr two ↦ let same : points ≡ sum_by (half_points sheet.bye) entry.cells = eqb-true points (sum_by (half_points sheet.bye) entry.cells) two in omega arith
              ]
          | inr other ↦ ltb-true points 200 (and_parts (has_other_points sheet) (nat_lt points 200) other).1
        ]

    decide : (points : ℕ) (b : Bool) → (b ≡ true → points < 200) → ◌≡◌ {A = Result (Unit {0}) Fault} (cond b (Ok tt) (Err (Points entry.start))) (Ok y) → points < 200
    decide points true h e = h refl
    decide points false h e = absurd (cc)

    by : (points : Option ℕ)
        → option_map_or (λ p.
        cond ((p == sum_by (half_points sheet.bye) (take (rounds_played sheet) entry.cells)) || (p == sum_by (half_points sheet.bye) entry.cells) || (has_other_points sheet && nat_lt p 200))
        (Ok tt) (Err (Points entry.start))) points (Ok tt) ≡ Ok y → are_small points
    by None e = tt
    by (Some points) e =
        decide points ((points == sum_by (half_points sheet.bye) (take (rounds_played sheet) entry.cells)) || (points == sum_by (half_points sheet.bye) entry.cells) || (has_other_points sheet && nat_lt points 200))
        (tests points) e

pub all_small : (utf8 : Bool) (sheet : Sheet) (entries : List Entry) (y : Unit {0}) → sheet.bye ≤ 2 → are_all_sound utf8 entries → players_fit sheet entries ≡ Ok y
    → are_all_small entries
unfolding players_fit player_fits
all_small utf8 sheet [] y worth sound e = tt
all_small utf8 sheet (entry ∷ entries) y worth sound e =
    let outer = then_ok (player_fits sheet entry) (λ _. players_fit sheet entries) y e in
    let inner = then_ok (cells_fit sheet entry.start 1 entry.cells) (λ _. points_fit sheet entry) outer.0 outer.1 in
    (small_points sheet entry outer.0 worth sound.0.few inner.2, all_small utf8 sheet entries y worth sound.1 outer.2)

-- the whole

sized_turn : (turn : Entry → Entry) (sheet : Sheet) (long : Bool) → sized sheet long ≡ Ok sheet → sized (turned turn sheet) long ≡ Ok (turned turn sheet)
unfolding sized
sized_turn turn sheet long e =
    let s = sized_is sheet sheet long e in
    rw (length-map sheet.players turn, s.few, s.short, s.named, s.some) refl

-- the canonical text, by its lines
record IsText (utf8 : Bool) (all : List (List ℕ)) (bytes : List ℕ) (bye : ℕ) (report : Sheet) : Type 0 where
  unmarked : has_mark (written report) ≡ false
  same : is_utf8 (written report) ≡ are_utf8 all
  laid : IsLaidOut utf8 (lines (written report)) bye report

text_by : (b utf8 : Bool) (ls carried : List (Option (List ℕ))) (ps players : List Entry) → b ≡ utf8 → ls ≡ carried → ps ≡ players
    → lines_text b ls ps ≡ lines_text utf8 carried players
text_by b utf8 ls carried ps players e e' e2 = rw (e, e', e2) refl

text_is : (utf8 : Bool) (bytes : List ℕ) (bye : ℕ) (report : Sheet) (turn : Entry → Entry) → bye ≤ 2 → has_mark bytes ≡ false → IsLaidOut utf8 (lines bytes) bye report
    → Turns report.utf8 turn → players_fit (turned turn report) (map turn report.players) ≡ Ok tt → IsText utf8 (lines bytes) bytes bye (turned turn report)
text_is utf8 bytes bye report turn worth unmarked r turns fit =
    let all = lines bytes in
    let w = were_read utf8 (without_players utf8 all bye) report 1 all refl (lines-inside bytes) r.short r.read in
    let small_bye : report.bye ≤ 2 = subst (λ b. b ≤ 2) (sym w.bye_is) worth in
    let t : Turns utf8 turn = subst (λ b. Turns b turn) w.utf8_is turns in
    let small : are_all_small (map turn w.entries) =
    all_small utf8 (turned turn report) (map turn w.entries) tt small_bye (turned_sound utf8 turn w.entries t w.sound)
    (subst (λ (ps : List Entry). players_fit (turned turn report) (map turn ps) ≡ Ok tt) w.players fit) in
    let c = w.copied turn t small in
    let text : written (turned turn report) ≡ lines_text utf8 (map (carried_line utf8) all) (map turn w.entries) =
    text_by report.utf8 utf8 report.carried (map (carried_line utf8) all) (map turn report.players) (map turn w.entries) w.utf8_is w.carried (ap (map turn) w.players) in
    let copy : lines (written (turned turn report)) ≡ c.copy = ap lines text ∙ c.text in
    let empty : without_players utf8 c.copy bye ≡ without_players utf8 all bye = rw c.carried refl in
    let again : IsLaidOut utf8 c.copy bye (turned turn report) = record {
      read = ap (λ (s : Sheet). lines_onto s 1 c.copy) empty ∙ c.read;
      size = ap (sized (turned turn report)) (c.short ∙ sym r.short) ∙ sized_turn turn report (has_too_many_rounds utf8 all) r.size;
      short = c.short;
    } in
    record {
      unmarked = ap has_mark text ∙ c.unmarked bytes refl unmarked;
      same = utf8_lines (written (turned turn report)) ∙ ap are_utf8 copy ∙ c.same;
      laid = subst (λ (all' : List (List ℕ)). IsLaidOut utf8 all' bye (turned turn report)) (sym copy) again;
    }

pub verdict_from : (bytes : List ℕ) (bye : ℕ) (report : Sheet) → length bytes ≤ MOST_BYTES → without_marks bytes ≡ bytes
    → IsLaidOut (is_utf8 bytes) (lines bytes) bye report → players_fit report report.players ≡ Ok tt → verdict bytes bye ≡ Ok report
unfolding verdict laid_out
verdict_from bytes bye report few same r fit = rw (le-ltb MOST_BYTES (length bytes) few, same, r.read, r.size, fit) refl

-- what a report that is laid out is: its players, and what the pairing-allocated bye gives in it
pub record IsLaid (bye : ℕ) (report : Sheet) : Type 0 where
  pub sound : are_all_sound report.utf8 report.players
  pub bye_is : report.bye ≡ bye

pub laid_is : (bytes : List ℕ) (bye : ℕ) (report : Sheet) → IsLaidOutOf bytes bye report → IsLaid bye report
laid_is bytes bye report r =
    let body = without_marks bytes in
    let utf8 = is_utf8 body in
    let w = were_read utf8 (without_players utf8 (lines body) bye) report 1 (lines body) refl (lines-inside body) r.short r.read in
    record {
      sound = subst (λ b. are_all_sound b report.players) (sym w.utf8_is) (subst (are_all_sound utf8) (sym w.players) w.sound);
      bye_is = w.bye_is;
    }

-- what the players of a report that was read are
pub were_sound : (bytes : List ℕ) (bye : ℕ) (report : Sheet) → verdict bytes bye ≡ Ok report → are_all_sound report.utf8 report.players
were_sound bytes bye report e = (laid_is bytes bye report (accepted bytes bye report e).0).sound

-- a report keeps what the pairing-allocated bye gives in it
pub kept_bye : (bytes : List ℕ) (bye : ℕ) (report : Sheet) → verdict bytes bye ≡ Ok report → report.bye ≡ bye
kept_bye bytes bye report e = (laid_is bytes bye report (accepted bytes bye report e).0).bye_is

-- the text of a report that is laid out and whose players were changed
pub laid_again : (bytes : List ℕ) (bye : ℕ) (report : Sheet) (turn : Entry → Entry) → bye ≤ 2 → IsLaidOutOf bytes bye report → Turns report.utf8 turn
    → players_fit (turned turn report) (map turn report.players) ≡ Ok tt → length (written (turned turn report)) ≤ MOST_BYTES
    → verdict (written (turned turn report)) report.bye ≡ Ok (turned turn report)
laid_again bytes bye report turn worth r turns fit few =
    let body = without_marks bytes in
    let t = text_is (is_utf8 body) body bye report turn worth (without_marks-no_mark bytes) r turns fit in
    let same : is_utf8 (written (turned turn report)) ≡ is_utf8 body = t.same ∙ sym (utf8_lines body) in
    ap (verdict (written (turned turn report))) (laid_is bytes bye report r).bye_is
    ∙ verdict_from (written (turned turn report)) bye (turned turn report) few (no_mark (written (turned turn report)) t.unmarked)
    (subst (λ b. IsLaidOut b (lines (written (turned turn report))) bye (turned turn report)) (sym same) t.laid) fit

-- the same of a report that was read
pub written_again : (bytes : List ℕ) (bye : ℕ) (report : Sheet) (turn : Entry → Entry) → bye ≤ 2 → verdict bytes bye ≡ Ok report → Turns report.utf8 turn
    → players_fit (turned turn report) (map turn report.players) ≡ Ok tt → length (written (turned turn report)) ≤ MOST_BYTES
    → verdict (written (turned turn report)) report.bye ≡ Ok (turned turn report)
written_again bytes bye report turn worth e turns fit few = laid_again bytes bye report turn worth (accepted bytes bye report e).0 turns fit few

unchanged : (utf8 : Bool) → Turns utf8 (λ entry. entry)
unchanged utf8 = record { start = λ entry. refl; line = λ entry. refl; left = λ entry. refl; right = λ entry. refl; sound = λ entry sound. sound }

pub round_trip : (bytes : List ℕ) (bye : ℕ) (report : Sheet) → bye ≤ 2 → verdict bytes bye ≡ Ok report → length (written report) ≤ MOST_BYTES
    → verdict (written report) report.bye ≡ Ok report
round_trip bytes bye report worth e few =
    let same : turned (λ entry. entry) report ≡ report = ap (λ (ps : List Entry). record report { players = ps }) (map-id report.players) in
    let fit : players_fit (turned (λ entry. entry) report) (map (λ entry. entry) report.players) ≡ Ok tt =
    subst (λ (s : Sheet). players_fit s s.players ≡ Ok tt) (sym same) (accepted bytes bye report e).1 in
    subst (λ (s : Sheet). verdict (written s) report.bye ≡ Ok s) same
    (written_again bytes bye report (λ entry. entry) worth e (unchanged report.utf8) fit (subst (λ (s : Sheet). length (written s) ≤ MOST_BYTES) (sym same) few))
