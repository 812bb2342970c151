-- What a line adds to a report, where it breaks no rule, and that it adds the same where the players are others.
use Rattle.std.proofs.Common.{◌≡◌, ℕ, Bool, true, false, ◌||◌, cond, List, map, refl, subst, Option, Some, Result, Ok, Err}
use Rattle.std.specs.Prelude.{codes, is_some}
use Rattle.std.specs.Option.{ok_or}
use Rattle.trf16_report.specs.Prelude.{is_kind, words_of, rounds_in, colour_in, are_start_ranks, Entry, Sheet, with_player, player_at, is_player, rounds_onto, colour_onto, start_ranks_onto, player_onto, line_onto}
use Rattle.trf16_report.specs.declared.cell.Colour.{Colour}
use Rattle.trf16_report.specs.declared.fault.Fault.{Fault}
use Rattle.trf16_report.specs.declared.fault.Fault.TheVariants.{BadExtension, Duplicate}
use Rattle.trf16_report.proofs.StepLemmas.{then_ok, same_ok}

-- a report whose players are changed
abbrev pub turned : (Entry → Entry) → Sheet → Sheet
turned turn sheet = record sheet { players = map turn sheet.players }

-- what a line that is no player's changes, and what it gives where the players are changed
pub record Keeps (turn : Entry → Entry) (sheet next : Sheet) (again : Result Sheet Fault) : Type 0 where
  pub utf8 : next.utf8 ≡ sheet.utf8
  pub carried : next.carried ≡ sheet.carried
  pub players : next.players ≡ sheet.players
  pub bye : next.bye ≡ sheet.bye
  pub turns : again ≡ Ok (turned turn next)

module _ (turn : Entry → Entry) (sheet : Sheet) (n : ℕ) (line : List (List ℕ)) (next : Sheet) where
  keeps_from : (total : Option ℕ) (initial : Option Colour) → ◌≡◌ {A = Result Sheet Fault} (Ok (record sheet { total = total; initial = initial })) (Ok next)
      → Keeps turn sheet next (Ok (record (turned turn sheet) { total = total; initial = initial }))
  keeps_from total initial e =
      subst (λ (s : Sheet). Keeps turn sheet s (Ok (record (turned turn sheet) { total = total; initial = initial })))
      (same_ok (record sheet { total = total; initial = initial }) next e) (record { utf8 = refl; carried = refl; players = refl; bye = refl; turns = refl })

  rounds_keep : rounds_onto sheet n line ≡ Ok next → Keeps turn sheet next (rounds_onto (turned turn sheet) n line)
  unfolding rounds_onto
  rounds_keep e =
      let s = then_ok (ok_or (rounds_in (words_of line)) (BadExtension n)) (λ rounds. cond (is_some sheet.total) (Err (Duplicate n)) (Ok (record sheet { total = Some rounds }))) next e in
      rw s.1 (by (is_some sheet.total) s.0 s.2)
    where
      by : (b : Bool) (rounds : ℕ) → ◌≡◌ {A = Result Sheet Fault} (cond b (Err (Duplicate n)) (Ok (record sheet { total = Some rounds }))) (Ok next)
          → Keeps turn sheet next (cond b (Err (Duplicate n)) (Ok (record (turned turn sheet) { total = Some rounds })))
      by true rounds e = absurd (cc)
      by false rounds e = keeps_from (Some rounds) sheet.initial e

  colour_keep : colour_onto sheet n line ≡ Ok next → Keeps turn sheet next (colour_onto (turned turn sheet) n line)
  unfolding colour_onto
  colour_keep e =
      let s = then_ok (ok_or (colour_in sheet.initial (words_of line)) (BadExtension n)) (λ initial. Ok (record sheet { initial = initial })) next e in
      rw s.1 (keeps_from sheet.total s.0 s.2)

  start_ranks_keep : start_ranks_onto sheet n line ≡ Ok next → Keeps turn sheet next (start_ranks_onto (turned turn sheet) n line)
  unfolding start_ranks_onto
  start_ranks_keep e = by (are_start_ranks (words_of line)) e
    where
      by : (b : Bool) → ◌≡◌ {A = Result Sheet Fault} (cond b (Ok sheet) (Err (BadExtension n))) (Ok next)
          → Keeps turn sheet next (cond b (Ok (turned turn sheet)) (Err (BadExtension n)))
      by true e = keeps_from sheet.total sheet.initial e
      by false e = absurd (cc)

  pub line_keeps : is_player line ≡ false → line_onto sheet n line ≡ Ok next → Keeps turn sheet next (line_onto (turned turn sheet) n line)
  unfolding line_onto
  line_keeps other e =
      rw other (by (is_kind (codes "XXR") line) (is_kind (codes "XXC") line) (is_kind (codes "XXZ") line || is_kind (codes "XXP") line) (rw other at e))
    where
      by : (r c z : Bool) → cond r (rounds_onto sheet n line) (cond c (colour_onto sheet n line) (cond z (start_ranks_onto sheet n line) (Ok sheet))) ≡ Ok next
          → Keeps turn sheet next (cond r (rounds_onto (turned turn sheet) n line) (cond c (colour_onto (turned turn sheet) n line)
          (cond z (start_ranks_onto (turned turn sheet) n line) (Ok (turned turn sheet)))))
      by true c z e = rounds_keep e
      by false true z e = colour_keep e
      by false false true e = start_ranks_keep e
      by false false false e = keeps_from sheet.total sheet.initial e

-- what a player's line adds
pub line_adds : (sheet : Sheet) (n : ℕ) (line : List (List ℕ)) (next : Sheet) → is_player line ≡ true → line_onto sheet n line ≡ Ok next
    → (entry : Entry) × (player_at sheet n line ≡ Ok entry) × (with_player sheet entry ≡ next)
unfolding line_onto player_onto
line_adds sheet n line next named e =
    let s = then_ok (player_at sheet n line) (λ entry. Ok (with_player sheet entry)) next (rw named at e) in
    (s.0, s.1, same_ok (with_player sheet s.0) next s.2)
