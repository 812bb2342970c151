-- The boards of an outcome can be the next round of the report that it was paired from.
use Rattle.std.proofs.Common.{◌≡◌, ◌<◌, ◌≤◌, ◌&&◌, ℕ, zero, suc, Bool, true, false, cond, nat_eq, nat_lt, List, [], ◌∷◌, map, Option, Some, None, Result, Ok, Err, refl, ap, subst, sym}
use Rattle.std.specs.Prelude.{All, IfSome, option_map, ◌==◌}
use Rattle.std.specs.List.{IsDistinct}
use Rattle.std.specs.Option.{ok_or}
use Rattle.trf16_report.specs.Prelude.{CanBePaired, Entry, HasOwnStarts, Sheet, before_round, entry_back, rounds_played, starts_of, taken_back, verdict}
use Rattle.trf16_report.specs.declared.fault.Fault.{Fault}
use Rattle.trf16_writer.proofs.StartRanks.{own_starts}
use Rattle.replies.specs.Prelude.{seen_before}
use Rattle.replies.specs.declared.views.Unseen.TheVariants.{NotReached}
use Rattle.trf16_report.specs.declared.cell.Colour.{Colour}
use Rattle.dutch_player.specs.Prelude.{Facts, facts_of}
use Rattle.dutch_rounds.specs.Prelude.{boards, IsOutcome, Pairing, round}
use Rattle.dutch_rounds.specs.declared.round.Outcome.{Outcome}
use Rattle.dutch_rounds.specs.declared.round.Outcome.TheVariants.{Paired, NoPairing, Undecided}
use Rattle.round_commands.specs.Known.{CanBeTold, HasFewRounds}
use Rattle.requests.specs.declared.options.PairOptions.{PairOptions}
use Rattle.trf16_report.specs.declared.limits.TheConstants.{MOST_ROUNDS}

-- what is known of the boards of a round
abbrev pub BoardsFit : Type 0
BoardsFit = (sheet : Sheet) (asked : Option ℕ) (initial : Option Colour) (facts : Facts) (pairing : Pairing)
    → HasOwnStarts sheet → IfSome asked (λ total. total ≤ MOST_ROUNDS) → facts_of sheet asked initial ≡ Ok facts → (round facts).pairing ≡ Some pairing
    → CanBePaired (boards facts pairing) sheet

-- ---- a report as it stood before a round has the start ranks of the report

starts_back : (bye before : ℕ) (entries : List Entry) → starts_of (map (entry_back bye before) entries) ≡ starts_of entries
starts_back bye before [] = refl
starts_back bye before (entry ∷ entries) = ap (λ starts. entry.start ∷ starts) (starts_back bye before entries)

own_back : (sheet : Sheet) (before : ℕ) → HasOwnStarts sheet → HasOwnStarts (taken_back sheet before)
own_back sheet before own =
    let same : starts_of (taken_back sheet before).players ≡ starts_of sheet.players = starts_back sheet.bye before sheet.players in
    record {
      different = subst (IsDistinct nat_eq) (sym same) own.different;
      within = subst (All (λ start. (0 < start) × (start ≤ 9999))) (sym same) own.within;
      rounds = own.rounds;
    }

same_some : (x y : Sheet) → Some x ≡ Some y → x ≡ y
same_some x y e = cc

found_own : (found view : Sheet) → HasOwnStarts found → Some found ≡ Some view → HasOwnStarts view
found_own found view own e = subst HasOwnStarts (same_some found view e) own

own_before : (sheet view : Sheet) (round : ℕ) → HasOwnStarts sheet → before_round sheet round ≡ Some view → HasOwnStarts view
own_before sheet view zero own e = cc
own_before sheet view (suc before) own e =
    cond_at (before == rounds_played sheet) (nat_lt before (rounds_played sheet) && (rounds_played (taken_back sheet before) == before)) e
  where
    back_at : (t : Bool) → cond t (Some (taken_back sheet before)) None ≡ Some view → HasOwnStarts view
    back_at true e = found_own (taken_back sheet before) view (own_back sheet before own) e
    back_at false e = cc

    cond_at : (t u : Bool) → cond t (Some sheet) (cond u (Some (taken_back sheet before)) None) ≡ Some view → HasOwnStarts view
    cond_at true u e = found_own sheet view own e
    cond_at false u e = back_at u e

view_own : (sheet report : Sheet) (round : ℕ) (found : Option Sheet) → before_round sheet round ≡ found → HasOwnStarts sheet
    → ok_or found (NotReached round) ≡ Ok report → HasOwnStarts report
view_own sheet report round None at' own e = cc
view_own sheet report round (Some view) at' own e =
    let same : view ≡ report = cc in
    subst HasOwnStarts same (own_before sheet view round own at')

given_own : (round : Option ℕ) (given : Result Sheet Fault) (report : Sheet) → ((sheet : Sheet) → given ≡ Ok sheet → HasOwnStarts sheet)
    → seen_before round given ≡ Ok report → HasOwnStarts report
given_own round (Err fault) report own e = cc
given_own None (Ok sheet) report own e = own report e'
  where
    e' : ◌≡◌ {A = Result Sheet Fault} (Ok sheet) (Ok report)
    e' = cc
given_own (Some round) (Ok sheet) report own e = view_own sheet report round (before_round sheet round) refl (own sheet refl) e

pub seen_own : (bytes : List ℕ) (bye : ℕ) (round : Option ℕ) (report : Sheet) → Ok report ≡ seen_before round (verdict bytes bye) → HasOwnStarts report
seen_own bytes bye round report e = given_own round (verdict bytes bye) report (λ sheet read. own_starts bytes bye sheet read) (sym e)

-- ---- the boards of an outcome

boards_told : (facts : Facts) (sheet : Sheet) (all : List (ℕ × ℕ)) (found : Option Pairing) → ((pairing : Pairing) → found ≡ Some pairing → CanBePaired (boards facts pairing) sheet)
    → option_map (boards facts) found ≡ Some all → CanBePaired all sheet
boards_told facts sheet all None fit e = let bad : None ≡ Some all = e in cc
boards_told facts sheet all (Some pairing) fit e =
    let same : boards facts pairing ≡ all = cc in
    subst (λ given. CanBePaired given sheet) same (fit pairing refl)

pub can_be_told : (options : PairOptions) (sheet : Sheet) (facts : Facts) (limit : ℕ) (outcome : Outcome) → BoardsFit → HasFewRounds options → HasOwnStarts sheet
    → facts_of sheet options.rounds options.initial ≡ Ok facts → IsOutcome facts limit outcome → CanBeTold sheet outcome
can_be_told options sheet facts limit (Paired all) fit few own made is =
    boards_told facts sheet all.items (round facts).pairing
    (λ pairing e. fit sheet options.rounds options.initial facts pairing own few made e) is
can_be_told options sheet facts limit NoPairing fit few own made is = tt
can_be_told options sheet facts limit (Undecided number used) fit few own made is = tt
