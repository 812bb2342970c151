-- Why players cannot be paired out: some of them, the blockers, stand between groups of odd numbers (after Tutte, Berge, Gallai and Edmonds).
use Rattle.std.specs.Prelude.{◌≡◌, ℕ, zero, suc, ◌+◌, ◌<◌, ◌≤◌, ◌%◌, ◌==◌, Bool, true, ◌&&◌, not, ◌⊎◌, if◌then◌else◌, List, All, count_by}
use Rattle.std.specs.List.{list_any}

-- of two who may meet one is a blocker, with label 0, or both are of one group [with IsBarrier]
abbrev pub Suits : (ℕ → ℕ → Bool) → (ℕ → ℕ) → ℕ → ℕ → Type 0
Suits meets label u v = meets u v ≡ true → (label u ≡ 0) ⊎ ((label v ≡ 0) ⊎ (label u ≡ label v))

-- each player is a blocker or of a group from 1 to k, and nobody may meet a player of another group [own]
pub record IsBarrier (meets : ℕ → ℕ → Bool) (players : List ℕ) (label : ℕ → ℕ) (k : ℕ) : Type 0 where
  pub labelled : All (λ v. label v ≤ k) players
  pub apart : All (λ u. All (Suits meets label u) players) players

-- how many players are of a group
abbrev pub group_size : List ℕ → (ℕ → ℕ) → ℕ → ℕ
group_size players label l = count_by (λ v. label v == l) players

-- how many players are blockers, who have the label 0 [with IsTooNarrow]
abbrev pub blockers : List ℕ → (ℕ → ℕ) → ℕ
blockers players label = group_size players label 0

-- how many of the groups from 1 to k are of an odd number of players [with IsTooNarrow]
abbrev pub odd_groups : List ℕ → (ℕ → ℕ) → ℕ → ℕ
odd_groups players label zero = 0
odd_groups players label (suc k) = group_size players label (suc k) % 2 + odd_groups players label k

-- a player is of a group of an odd number of players [with IsTooNarrow]
abbrev pub is_of_odd_group : List ℕ → (ℕ → ℕ) → ℕ → Bool
is_of_odd_group players label v = not (label v == 0) && (group_size players label (label v) % 2 == 1)

-- how many odd groups are served: one by each blocker, and one more where somebody in an odd group may be left over [with IsTooNarrow]
abbrev pub served : (ℕ → Bool) → List ℕ → (ℕ → ℕ) → ℕ
served may_be_left players label =
    blockers players label + (if list_any (λ v. may_be_left v && is_of_odd_group players label v) players then 1 else 0)

-- a barrier with more odd groups than are served [own]
pub record IsTooNarrow (meets : ℕ → ℕ → Bool) (may_be_left : ℕ → Bool) (players : List ℕ) (label : ℕ → ℕ) (k : ℕ) : Type 0 where
  pub barrier : IsBarrier meets players label k
  pub too_few : served may_be_left players label < odd_groups players label k
