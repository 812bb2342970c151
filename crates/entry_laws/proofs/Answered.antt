-- In a report that is read without a look at its points fields, whoever names an opponent is answered by that opponent.
use Rattle.std.proofs.Common.{◌≡◌, inl, inr, ℕ, ◌+◌, ◌-◌, ◌<◌, Bool, true, false, cond, nat_eq, List, [], ◌∷◌, length, Some, Ok, refl, subst, arith}
use Rattle.std.proofs.lemmas.Bool.{cases_lt, eqb-true}
use Rattle.std.proofs.lemmas.List.{get_or_past}
use Rattle.trf16_report.specs.Prelude.{AnswerEachOther, Entry, Sheet, all_cells_fit, cell_fits, cell_in, cells_fit, cells_of, opponent_in_cell, verdict_unsummed}
use Rattle.trf16_report.specs.declared.cell.Cell.TheVariants.{Blank}
use Rattle.trf16_report.proofs.StepLemmas.{then_ok}
use Rattle.trf16_writer.proofs.AcceptedReport.{rule_met}
use Rattle.trf16_laws.proofs.MeetingLemmas.{cell_is, cell_of-fit}

-- the cells of one player fit
cells_of-fit : (sheet : Sheet) (entries : List Entry) (start : ℕ) → all_cells_fit sheet entries ≡ Ok (tt {0}) → cells_fit sheet start 1 (cells_of entries start) ≡ Ok (tt {0})
unfolding all_cells_fit cells_fit
cells_of-fit sheet [] start e = refl
cells_of-fit sheet (entry ∷ rest) start e =
    let first = then_ok (cells_fit sheet entry.start 1 entry.cells) (λ _. all_cells_fit sheet rest) (tt {0}) e in
    by (nat_eq entry.start start) refl first.1 (cells_of-fit sheet rest start first.2)
  where
    by : (here : Bool) → nat_eq entry.start start ≡ here → cells_fit sheet entry.start 1 entry.cells ≡ Ok (tt {0}) → cells_fit sheet start 1 (cells_of rest start) ≡ Ok (tt {0})
        → cells_fit sheet start 1 (cond here entry.cells (cells_of rest start)) ≡ Ok (tt {0})
    by true is mine others = subst (λ n. cells_fit sheet n 1 entry.cells ≡ Ok (tt {0})) (eqb-true entry.start start is) mine
    by false is mine others = others

all_fit : (bytes : List ℕ) (bye : ℕ) (sheet : Sheet) → verdict_unsummed bytes bye ≡ Ok sheet → all_cells_fit sheet sheet.players ≡ Ok (tt {0})
unfolding verdict_unsummed
all_fit bytes bye sheet e = (rule_met bytes bye sheet (λ report. all_cells_fit report report.players) e).1

pub answered : (bytes : List ℕ) (bye : ℕ) (sheet : Sheet) → verdict_unsummed bytes bye ≡ Ok sheet → AnswerEachOther sheet
answered bytes bye sheet e start round opponent from_one names =
    let cells = cells_of sheet.players start in
    let all : cells_fit sheet start 1 cells ≡ Ok (tt {0}) = cells_of-fit sheet sheet.players start (all_fit bytes bye sheet e) in
    let within : round - 1 < length cells = elim (cases_lt (round - 1) (length cells)) [
      | inl lt ↦ lt
      | inr past ↦ let none = get_or_past cells (round - 1) Blank past in let bad : opponent_in_cell Blank ≡ Some opponent = rw none at names in absurd (cc)
    ] in
    let place : 1 + (round - 1) ≡ round = omega arith in
    let here : cell_fits sheet start round (cell_in sheet start round) ≡ Ok (tt {0}) =
    subst (λ r. cell_fits sheet start r (cell_in sheet start round) ≡ Ok (tt {0})) place (cell_of-fit sheet start 1 cells (round - 1) within all) in
    let fit = cell_is sheet start round opponent (cell_in sheet start round) names here in
    record {
      player = fit.player;
      another = fit.another;
      both_ways = fit.both_ways;
      colours = fit.pair.colours;
      class = fit.pair.class;
      points = fit.pair.points;
    }
