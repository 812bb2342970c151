-- Whoever pairs out those whom the penultimate bracket leaves over with all lower players pairs no two of them (C.04.3 A.9).
use Rattle.std.proofs.Common.{◌≡◌, ℕ, List, ◌++◌, Some, sym, ap, ◌∙◌, subst}
use Rattle.dutch_arrangements.specs.Prelude.{IsIn}
use Rattle.dutch_sequence.proofs.Orders.{member_has}
use Rattle.dutch_player.specs.Prelude.{Facts}
use Rattle.dutch_bracket.specs.declared.reached.BracketKind.TheVariants.{Penultimate}
use Rattle.dutch_rounds.specs.Prelude.{HasNoPairOf, PairOut, lower_of, Visit, round, GoesOut, HasWayOut}
use Rattle.dutch_bracket.specs.Prelude.{Reached, Choice, bracket, choice, downfloaters, seats_meet_sym, seats_meet, seats_may_be_left}
use Rattle.dutch_completion.proofs.Mates.{pairs_mates}
use Rattle.dutch_rounds.proofs.NoDeadEnd.{left_twice, no_mates}
use Rattle.pairing_laws.proofs.StandsAbove.{IsPassed, all_passed}
use Rattle.dutch_rounds.proofs.WalkLemmas.{Descends}
use Rattle.dutch_rounds.proofs.WalkSteps.{stands_lower}

module _ (facts : Facts) where
  left_of : (number : ℕ) (md residents lower : List ℕ) (made : Choice) (pairs : List (ℕ × ℕ)) → GoesOut facts md (residents ++ lower)
      → choice facts (bracket number Penultimate md residents) lower ≡ Some made
      → PairOut facts (downfloaters facts (bracket number Penultimate md residents) made.lists ++ lower) pairs
      → HasNoPairOf (downfloaters facts (bracket number Penultimate md residents) made.lists) pairs
  left_of number md residents lower made pairs goes is' out a b m n there =
      let left : List ℕ = downfloaters facts (bracket number Penultimate md residents) made.lists in
      let found = pairs_mates (seats_meet facts) (seats_meet_sym facts) (seats_may_be_left facts) (left ++ lower) pairs out.out
      (left_twice facts number md residents lower goes made.lists) out.covered out.left_out in
      let told = found.tells a b there in
      told.1 (sym (no_mates facts number md residents lower goes made is' found.mate found.are a m (subst (λ c. IsIn c left) (sym told.0) n)) ∙ told.0)

  pub penultimate_left : Descends facts → (visit : Visit) (pairs : List (ℕ × ℕ)) → IsIn visit (round facts).reached → visit.bracket.kind ≡ Penultimate
      → PairOut facts (downfloaters facts visit.bracket visit.lists ++ lower_of facts visit.bracket) pairs → HasNoPairOf (downfloaters facts visit.bracket visit.lists) pairs
  penultimate_left descends visit pairs m kind whole =
      let made : Choice = record { shape = visit.shape; lists = visit.lists } in
      let p = member_has (IsPassed facts) (round facts).reached (all_passed facts descends) visit m in
      let s = p.stands in
      let own : visit.bracket ≡ bracket p.number Penultimate s.md s.residents = s.is ∙ ap (λ k. bracket p.number k s.md s.residents) kind in
      let out = subst (λ k. HasWayOut facts k p.number s.md s.residents p.lower) kind s.out in
      subst (λ (b : Reached). choice facts b p.lower ≡ Some made → PairOut facts (downfloaters facts b made.lists ++ p.lower) pairs → HasNoPairOf (downfloaters facts b made.lists) pairs)
      (sym own) (left_of p.number s.md s.residents p.lower made pairs out.0) p.is
      (subst (λ (low : List ℕ). PairOut facts (downfloaters facts visit.bracket made.lists ++ low) pairs) (stands_lower facts p.number visit.bracket p.lower s descends) whole)
