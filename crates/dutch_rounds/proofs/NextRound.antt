-- The boards of a round can be the next round of the report that it is paired from.
use Rattle.std.proofs.Common.{◌≡◌, ℕ, ◌≤◌, true, false, nat_eq, List, Option, Some, None, Ok, arith}
use Rattle.std.specs.Prelude.{IfSome}
use Rattle.std.proofs.lemmas.Bool.Decides.{nat_tests}
use Rattle.std.proofs.lemmas.List.Sorted.{All-permutation}
use Rattle.std.proofs.lemmas.Map.Keys.{IsDistinct-IsPermutation}
use Rattle.trf16_report.specs.declared.cell.Colour.{Colour}
use Rattle.trf16_report.specs.declared.limits.TheConstants.{MOST_ROUNDS}
use Rattle.trf16_report.specs.Prelude.{Sheet, known, absent, CanBePaired, HasOwnStarts, named_by}
use Rattle.dutch_player.specs.Prelude.{Facts, facts_of, total_of, start_ranks}
use Rattle.dutch_player.proofs.PresentLemmas.{field_of}
use Rattle.dutch_rounds.specs.Prelude.{boards, NameEverybodyOnce, Pairing, round}
use Rattle.dutch_rounds.proofs.NamedBoards.{everybody_named}

-- a total that is asked for, or that the report names, is within the limit
total_few : (sheet : Sheet) (asked : Option ℕ) (total : ℕ) → IfSome asked (λ n. n ≤ MOST_ROUNDS) → IfSome sheet.total (λ n. n ≤ MOST_ROUNDS) → total_of sheet asked ≡ Some total → total ≤ MOST_ROUNDS
total_few sheet (Some n) total few own e = let same : n ≡ total = cc in omega (arith, few, same)
total_few sheet None total few own e = at' sheet.total own e
  where
    at' : (found : Option ℕ) → IfSome found (λ n. n ≤ MOST_ROUNDS) → found ≡ Some total → total ≤ MOST_ROUNDS
    at' None own e = let bad : None ≡ Some total = e in cc
    at' (Some n) own e = let same : n ≡ total = cc in omega (arith, own, same)

flips : (x y : ℕ) → nat_eq x y ≡ nat_eq y x
flips x y = grind (arith, nat_tests)

pub can_be_next : (sheet : Sheet) (asked : Option ℕ) (initial : Option Colour) (facts : Facts) (pairing : Pairing)
    → HasOwnStarts sheet → IfSome asked (λ total. total ≤ MOST_ROUNDS) → facts_of sheet asked initial ≡ Ok facts → (round facts).pairing ≡ Some pairing → CanBePaired (boards facts pairing) sheet
can_be_next sheet asked initial facts pairing own few made paired =
    let field = field_of sheet asked initial facts own made in
    let order : NameEverybodyOnce facts (boards facts pairing) = everybody_named facts pairing field.from_one paired in
    let named : List ℕ = named_by (boards facts pairing) in
    let total : facts.total ≤ MOST_ROUNDS = total_few sheet asked facts.total few own.rounds field.total in
    record {
      players = All-permutation (λ start. known sheet start ≡ true) (start_ranks facts) named order field.players;
      present = All-permutation (λ start. absent sheet start ≡ false) (start_ranks facts) named order field.present;
      once = IsDistinct-IsPermutation nat_eq flips (start_ranks facts) named order field.once;
      within = omega (arith, total, field.next, field.within);
    }
