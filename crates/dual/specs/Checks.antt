-- How a certificate is checked pair by pair. Only private functions' clauses cite these.
use Rattle.std.specs.Prelude.{◌≡◌, ℕ, ◌+◌, ◌*◌, ◌^◌, ◌<◌, ◌≤◌, Bool, true, false, List, All, slice_index}
use Rattle.dual.specs.Matchings.{Costs}
use Rattle.dual.specs.Duals.{Certificate, bears, bears_left, slack}
use Rattle.dual.specs.Floors.{is_marked}

-- a pair can bear its potentials, and what it bears is below a bound
abbrev pub CanBear : Costs → Certificate → ℕ → ℕ → ℕ → Type 0
CanBear costs certificate most u v =
    (bears costs certificate (u, v) < most) × (certificate.potential u + certificate.potential v ≤ bears costs certificate (u, v))

-- so can a player left over
abbrev pub CanBearLeft : Costs → Certificate → ℕ → ℕ → Type 0
CanBearLeft costs certificate most v = (bears_left costs certificate v < most) × (certificate.potential v ≤ bears_left costs certificate v)

-- all whom a player may meet can bear it
abbrev pub AllBear : Costs → Certificate → ℕ → ℕ → List ℕ → Type 0
AllBear costs certificate most u players = All (λ v. costs.meets u v ≡ true → CanBear costs certificate most u v) players

-- the slacks of a player's pairs stand in some numbers from a start on
abbrev pub HasSlacks : Costs → Certificate → ℕ → List ℕ → ℕ → List ℕ → Type 0
HasSlacks costs certificate u players start slacks =
    All (λ v. costs.meets u v ≡ true → slice_index slacks (start + v) ≡ slack costs certificate (u, v)) players

-- two players, if they may meet and neither is marked, can bear their potentials, and their slack stands in a square of so many
abbrev pub IsKept : Costs → Certificate → List Bool → ℕ → List ℕ → ℕ → ℕ → Type 0
IsKept costs certificate marks size slacks u v =
    is_marked marks u ≡ false → is_marked marks v ≡ false → costs.meets u v ≡ true
    → CanBear costs certificate (2 ^ 1024) u v × (slice_index slacks (u * size + v) ≡ slack costs certificate (u, v))

-- so can all players who are not marked
abbrev pub AreKept : Costs → Certificate → List ℕ → List Bool → ℕ → List ℕ → Type 0
AreKept costs certificate players marks size slacks = All (λ u. All (IsKept costs certificate marks size slacks u) players) players
