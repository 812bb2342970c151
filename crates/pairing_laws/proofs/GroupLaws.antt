-- The scoregroups of seats: one score in each, another one in the next, and all seats in their order together.
use Rattle.std.proofs.Common.{◌≡◌, ℕ, false, ◌==◌, ◌≢◌, List, [], ◌∷◌, sym, ◌∙◌, arith}
use Rattle.std.specs.List.{AllByRecursion}
use Rattle.std.proofs.lemmas.Bool.Decides.{nat_tests}
use Rattle.std.proofs.lemmas.Bool.{eqb-true, cond_both}
use Rattle.dutch_player.specs.Prelude.{Facts}
use Rattle.dutch_bracket.specs.Prelude.{score_at, IsScoregroup, NeighboursDiffer, onto_group, scoregroups}

differ_of : (a b : ℕ) → (a == b) ≡ false → a ≢ b
differ_of a b h = grind (arith, nat_tests)

module _ (facts : Facts) where
  rescored : (one other : ℕ) (seats : List ℕ) → one ≡ other → AllByRecursion (λ seat. score_at facts seat ≡ one) seats → AllByRecursion (λ seat. score_at facts seat ≡ other) seats
  rescored one other [] same h = tt
  rescored one other (seat ∷ seats) same h = (h.0 ∙ same, rescored one other seats same h.1)

  joined_differ : (seat first : ℕ) (others : List ℕ) (groups : List (List ℕ)) → score_at facts seat ≡ score_at facts first
      → NeighboursDiffer facts ((first ∷ others) ∷ groups) → NeighboursDiffer facts ((seat ∷ first ∷ others) ∷ groups)
  joined_differ seat first others [] same h = tt
  joined_differ seat first others (next ∷ groups) same h = (λ e. h.0 (sym same ∙ e), h.1)

  onto_groups : (seat : ℕ) (groups : List (List ℕ)) → AllByRecursion (IsScoregroup facts) groups × NeighboursDiffer facts groups
      → AllByRecursion (IsScoregroup facts) (onto_group facts seat groups) × NeighboursDiffer facts (onto_group facts seat groups)
  onto_groups seat [] h = ((tt, tt), tt)
  onto_groups seat ([] ∷ groups) h = absurd h.0.0
  onto_groups seat ((first ∷ others) ∷ groups) h =
      cond_both (score_at facts seat == score_at facts first) ((seat ∷ first ∷ others) ∷ groups) ((seat ∷ []) ∷ (first ∷ others) ∷ groups)
      (λ (all : List (List ℕ)). AllByRecursion (IsScoregroup facts) all × NeighboursDiffer facts all)
      (λ e.
      let same : score_at facts seat ≡ score_at facts first = eqb-true (score_at facts seat) (score_at facts first) e in
      (((sym same, rescored (score_at facts first) (score_at facts seat) others (sym same) h.0.0), h.0.1), joined_differ seat first others groups same h.1))
      (λ e. ((tt, h.0), (differ_of (score_at facts seat) (score_at facts first) e, h.1)))

  pub groups_part : (seats : List ℕ) → AllByRecursion (IsScoregroup facts) (scoregroups facts seats) × NeighboursDiffer facts (scoregroups facts seats)
  groups_part [] = (tt, tt)
  groups_part (seat ∷ seats) = onto_groups seat (scoregroups facts seats) (groups_part seats)
