-- What every matching costs at least, beside what is owed, and what known pairs and known players left over add to that.
use Rattle.std.specs.Prelude.{◌≡◌, ℕ, ◌+◌, ◌*◌, ◌^◌, ◌<◌, ◌≤◌, Bool, true, false, if◌then◌else◌, nat_lt, List, All, length, sum_by, slice_index_or}
use Rattle.dual.specs.Matchings.{Costs, IsMatching, IsPartOf, cost}
use Rattle.dual.specs.Duals.{Bears, Certificate, bears, bears_left, slack, slack_left, gains, losses, pairs_of}

-- a base, a debt, and what each pair and each player left over adds: a pair's number stands in the row of its first player [own]
pub record FloorTable : Type 0 where
  pub base : ℕ
  pub debt : ℕ
  pub size : ℕ
  pub slacks : List ℕ
  pub slacks_left : List ℕ

-- what a pair adds, 0 outside of the table [with FloorTable]
abbrev pub slack_in : FloorTable → ℕ × ℕ → ℕ
slack_in floor pair = if nat_lt pair.1 floor.size then slice_index_or floor.slacks (pair.0 * floor.size + pair.1) 0 else 0

-- what a player left over adds, 0 outside of the table [with FloorTable]
abbrev pub slack_left_in : FloorTable → ℕ → ℕ
slack_left_in floor v = slice_index_or floor.slacks_left v 0

-- each matching that leaves so many players over costs, with the debt, at least the base and what some of its pairs and players left over
-- add, each once [own]
abbrev pub IsFloor : Costs → List ℕ → ℕ → FloorTable → Type 0
IsFloor costs players left floor =
    (pairs : List (ℕ × ℕ)) (out : List ℕ) → IsMatching costs players pairs out → length out ≡ left
    → (known : List (ℕ × ℕ)) (known_left : List ℕ) → IsPartOf known pairs → IsPartOf known_left out
    → floor.base + (sum_by (slack_in floor) known + sum_by (slack_left_in floor) known_left) ≤ floor.debt + cost costs pairs out

-- of two who may meet the table tells the slack, and so it does of one who may be left over [with IsFloorOf]
abbrev pub TellsSlack : Costs → Certificate → FloorTable → ℕ → ℕ → Type 0
TellsSlack costs certificate floor u v = costs.meets u v ≡ true → slack_in floor (u, v) ≡ slack costs certificate (u, v)

-- of one who may be left over the table tells the slack [with IsFloorOf]
abbrev pub TellsSlackLeft : Costs → Certificate → FloorTable → ℕ → Type 0
TellsSlackLeft costs certificate floor v = costs.may_be_left v ≡ true → slack_left_in floor v ≡ slack_left costs certificate v

-- the floor that a certificate is: what its potentials come to is the base, what it gives away and what is paid for its sets at most is the
-- debt, and each pair and each player left over adds its slack [own]
pub record IsFloorOf (costs : Costs) (players : List ℕ) (left : ℕ) (certificate : Certificate) (floor : FloorTable) : Type 0 where
  pub base : floor.base ≡ gains certificate players
  pub debt : floor.debt ≡ losses certificate players (pairs_of players left) left
  pub pairs : All (λ u. All (TellsSlack costs certificate floor u) players) players
  pub left_over : All (TellsSlackLeft costs certificate floor) players

-- what two who may meet bear is below a bound, and so is what one bears who may be left over [with IsFeasible]
abbrev pub BearsBelow : Costs → Certificate → ℕ → ℕ → ℕ → Type 0
BearsBelow costs certificate most u v = costs.meets u v ≡ true → bears costs certificate (u, v) < most

-- what one who may be left over bears is below a bound [with IsFeasible]
abbrev pub BearsLeftBelow : Costs → Certificate → ℕ → ℕ → Type 0
BearsLeftBelow costs certificate most v = costs.may_be_left v ≡ true → bears_left costs certificate v < most

-- all sums of a certificate are below a bound [with IsFeasible]
pub record IsBelow (costs : Costs) (players : List ℕ) (left : ℕ) (certificate : Certificate) (most : ℕ) : Type 0 where
  pub pairs : All (λ u. All (BearsBelow costs certificate most u) players) players
  pub left_over : All (BearsLeftBelow costs certificate most) players
  pub gained : gains certificate players < most
  pub lost : losses certificate players (pairs_of players left) left < most

-- a certificate that was checked pair by pair: each two players who may meet can bear their potentials, what they bear is below 2^1024, and
-- of such a pair the table tells the slack; of players left over nothing is said [own]
pub record IsChecked (costs : Costs) (players : List ℕ) (certificate : Certificate) (floor : FloorTable) : Type 0 where
  pub pairs : All (λ u. All (Bears costs certificate u) players) players
  pub below : All (λ u. All (BearsBelow costs certificate (2 ^ 1024) u) players) players
  pub tells : All (λ u. All (TellsSlack costs certificate floor u) players) players

-- a number has a mark; past the end of the marks each number is marked [with AreAsBefore]
abbrev pub is_marked : List Bool → ℕ → Bool
is_marked marks v = slice_index_or marks v true

-- costs are as before but for marked players: two who may meet now and of whom neither is marked could meet before, and a pair of them
-- weighed as much [own]
abbrev pub AreAsBefore : List Bool → Costs → Costs → Type 0
AreAsBefore turned before now =
    (a b : ℕ) → is_marked turned a ≡ false → is_marked turned b ≡ false → now.meets a b ≡ true
    → (before.meets a b ≡ true) × (now.weight a b ≡ before.weight a b)

-- the class of a player; past the end of the classes each is in a class of their own [with WeighByClass]
abbrev pub class_of : List ℕ → ℕ → ℕ
class_of classes v = slice_index_or classes v (65536 + v)

-- players of one class weigh the same with players of one class [own]
abbrev pub WeighByClass : (ℕ → Type 0) → Costs → List ℕ → Type 0
WeighByClass knows costs classes =
    (u v a b : ℕ) → knows u → knows v → knows a → knows b → class_of classes u ≡ class_of classes a → class_of classes v ≡ class_of classes b
    → costs.weight u v ≡ costs.weight a b
