-- Boards that name each player whom a round is paired from are asked back: what it was paired from is there again in the report before it.
use Rattle.std.proofs.Common.{◌≡◌, ℕ, ◌+◌, ◌<◌, ◌≤◌, true, false, nat_eq, List, length, sym, ◌∙◌, arith, Option, Some, None, Ok}
use Rattle.std.specs.Prelude.{IfSome, IsPermutation}
use Rattle.std.proofs.lemmas.Cmp.{nat_eq_equiv}
use Rattle.std.proofs.lemmas.List.Sorted.{All-permutation, list_any-IsPermutation}
use Rattle.std.proofs.lemmas.Map.Keys.{IsDistinct-IsPermutation}
use Rattle.std.proofs.lemmas.Map.Views.{list_any-from_Contains}
use Rattle.trf16_report.specs.declared.cell.Colour.{Colour}
use Rattle.trf16_report.specs.declared.limits.TheConstants.{MOST_ROUNDS}
use Rattle.trf16_report.specs.Prelude.{Sheet, known, absent, rounds_played, CanBePaired, named_by, with_round, before_round, verdict, HasOwnStarts}
use Rattle.trf16_writer.proofs.BoardLemmas.{eq-sym}
use Rattle.trf16_writer.proofs.StartRanks.{own_starts}
use Rattle.dutch_player.specs.Prelude.{Facts, facts_of, total_of, start_ranks, IsFieldOf}
use Rattle.dutch_player.proofs.PresentLemmas.{field_of}
use Rattle.report_laws.specs.Boards.{NameAllPresent}
use Rattle.report_laws.specs.Fields.{GivesFieldOf, GivesFacts}
use Rattle.report_laws.proofs.PairedView.{field_back}

-- a total that is asked for, or that the report names, is within the limit
few_rounds : (sheet : Sheet) (asked : Option ℕ) (total : ℕ) → IfSome asked (λ n. n ≤ MOST_ROUNDS) → IfSome sheet.total (λ n. n ≤ MOST_ROUNDS) → total_of sheet asked ≡ Some total → total ≤ MOST_ROUNDS
few_rounds sheet (Some n) total few own e = let same : n ≡ total = cc in omega (arith, few, same)
few_rounds sheet None total few own e = named sheet.total own e
  where
    named : (found : Option ℕ) → IfSome found (λ n. n ≤ MOST_ROUNDS) → found ≡ Some total → total ≤ MOST_ROUNDS
    named None own e = absurd (cc)
    named (Some n) own e = let same : n ≡ total = cc in omega (arith, own, same)

can_be_paired : (sheet : Sheet) (asked : Option ℕ) (facts : Facts) (boards : List (ℕ × ℕ)) → HasOwnStarts sheet → IsFieldOf sheet asked facts → IfSome asked (λ n. n ≤ MOST_ROUNDS)
    → IsPermutation (start_ranks facts) (named_by boards) → CanBePaired boards sheet
can_be_paired sheet asked facts boards own field few order =
    let total : facts.total ≤ MOST_ROUNDS = few_rounds sheet asked facts.total few own.rounds field.total in
    record {
      players = All-permutation (λ start. known sheet start ≡ true) (start_ranks facts) (named_by boards) order field.players;
      present = All-permutation (λ start. absent sheet start ≡ false) (start_ranks facts) (named_by boards) order field.present;
      once = IsDistinct-IsPermutation nat_eq eq-sym (start_ranks facts) (named_by boards) order field.once;
      within = omega (arith, total, field.next, field.within);
    }

all_named : (sheet : Sheet) (asked : Option ℕ) (facts : Facts) (boards : List (ℕ × ℕ)) → IsFieldOf sheet asked facts → IsPermutation (start_ranks facts) (named_by boards) → NameAllPresent boards sheet
all_named sheet asked facts boards field order start player present =
    sym (list_any-IsPermutation (nat_eq start) (start_ranks facts) (named_by boards) order)
    ∙ list_any-from_Contains nat_eq_equiv start (start_ranks facts) (field.all start player present)

facts_from : (found : Option Sheet) (sheet : Sheet) (asked : Option ℕ) (initial : Option Colour) (facts : Facts) → facts_of sheet asked initial ≡ Ok facts → GivesFieldOf found sheet
    → GivesFacts found asked initial facts
facts_from None sheet asked initial facts made gives = gives
facts_from (Some view) sheet asked initial facts made gives = gives asked initial ∙ made

pub round_back : (bytes : List ℕ) (bye : ℕ) (sheet : Sheet) (asked : Option ℕ) (initial : Option Colour) (facts : Facts) (boards : List (ℕ × ℕ))
    → verdict bytes bye ≡ Ok sheet → IfSome asked (λ total. total ≤ MOST_ROUNDS) → facts_of sheet asked initial ≡ Ok facts
    → IsPermutation (start_ranks facts) (named_by boards) → 0 < length boards → GivesFacts (before_round (with_round boards sheet) (rounds_played sheet + 1)) asked initial facts
round_back bytes bye sheet asked initial facts boards read few made order some =
    let own = own_starts bytes bye sheet read in
    let field = field_of sheet asked initial facts own made in
    facts_from (before_round (with_round boards sheet) (rounds_played sheet + 1)) sheet asked initial facts made
    (field_back sheet boards own (can_be_paired sheet asked facts boards own field few order) (all_named sheet asked facts boards field order) some)
