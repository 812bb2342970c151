-- Scoregroups (C.04.3 A.3): what they are, and where one ends among seats by rank.
use Rattle.std.specs.Prelude.{◌≡◌, ℕ, suc, ◌==◌, ◌≢◌, if◌then◌else◌, List, [], ◌∷◌}
use Rattle.std.specs.List.{AllByRecursion}
use Rattle.dutch_player.specs.Prelude.{Facts}
use Rattle.dutch_bracket.specs.Seated.{score_at}

-- how many seats at the front have a score
abbrev pub front_with : Facts → ℕ → List ℕ → ℕ
front_with facts score [] = 0
front_with facts score (seat ∷ seats) = if score_at facts seat == score then suc (front_with facts score seats) else 0

-- a scoregroup: a seat, and others with its score [with scoregroups]
abbrev pub IsScoregroup : Facts → List ℕ → Type 0
IsScoregroup facts [] = ⊥
IsScoregroup facts (first ∷ others) = AllByRecursion (λ seat. score_at facts seat ≡ score_at facts first) others

-- the score of a scoregroup
abbrev pub group_score : Facts → List ℕ → ℕ
group_score facts [] = 0
group_score facts (first ∷ others) = score_at facts first

-- neighbours among scoregroups have different scores [with scoregroups]
abbrev pub NeighboursDiffer : Facts → List (List ℕ) → Type 0
NeighboursDiffer facts [] = Unit {0}
NeighboursDiffer facts (group ∷ []) = Unit {0}
NeighboursDiffer facts (group ∷ next ∷ groups) = (group_score facts group ≢ group_score facts next) × NeighboursDiffer facts (next ∷ groups)
