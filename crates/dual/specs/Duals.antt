-- Certificates that no matching is cheap.
use Rattle.std.specs.Prelude.{◌≡◌, ℕ, ◌+◌, ◌-◌, ◌*◌, ◌/◌, ◌≤◌, Bool, true, ◌&&◌, if◌then◌else◌, List, All, length, sum_by, count_by}
use Rattle.dual.specs.Matchings.{Costs, in_both}

-- a set of players, and the price of each pair inside it [with Certificate]
pub record Priced : Type 0 where
  pub has : ℕ → Bool
  pub price : ℕ

-- a potential of each player, priced sets, and what each pair and each player left over is given on top of its cost; all are natural
-- numbers, since a potential below 0 is had by giving more [own]
pub record Certificate : Type 0 where
  pub potential : ℕ → ℕ
  pub given : ℕ
  pub given_left : ℕ
  pub sets : List Priced

-- what a pair pays for a set: its price where both players are inside
abbrev pub toll : ℕ × ℕ → Priced → ℕ
toll pair set = if set.has pair.0 && set.has pair.1 then set.price else 0

-- what a pair has for its players' potentials: its cost, what it is given, and what it pays for the sets [with IsFeasible]
abbrev pub bears : Costs → Certificate → ℕ × ℕ → ℕ
bears costs certificate pair = costs.weight pair.0 pair.1 + certificate.given + sum_by (toll pair) certificate.sets

-- what a player left over has: the cost and what is given
abbrev pub bears_left : Costs → Certificate → ℕ → ℕ
bears_left costs certificate v = costs.left_cost v + certificate.given_left

-- two players who may meet can bear their potentials, and so can a player who may be left over [with IsFeasible]
abbrev pub Bears : Costs → Certificate → ℕ → ℕ → Type 0
Bears costs certificate u v = costs.meets u v ≡ true → certificate.potential u + certificate.potential v ≤ bears costs certificate (u, v)

-- the potential of a player who may be left over is no more than what they bear [with IsFeasible]
abbrev pub BearsLeft : Costs → Certificate → ℕ → Type 0
BearsLeft costs certificate v = costs.may_be_left v ≡ true → certificate.potential v ≤ bears_left costs certificate v

-- a certificate of which each two players who may meet have enough for their potentials, and so does each player who may be left over [own]
pub record IsFeasible (costs : Costs) (players : List ℕ) (certificate : Certificate) : Type 0 where
  pub pairs : All (λ u. All (Bears costs certificate u) players) players
  pub left : All (BearsLeft costs certificate) players

-- what a pair has beyond the potentials of its players; 0 where it has less [with IsFloorOf]
abbrev pub slack : Costs → Certificate → ℕ × ℕ → ℕ
slack costs certificate pair = bears costs certificate pair - in_both certificate.potential pair

-- what a player left over has beyond the potential; 0 where it has less [with IsFloorOf]
abbrev pub slack_left : Costs → Certificate → ℕ → ℕ
slack_left costs certificate v = bears_left costs certificate v - certificate.potential v

-- the most pairs inside a set: half of the players in it
abbrev pub most_inside : List ℕ → Priced → ℕ
most_inside players set = count_by set.has players / 2

-- what the potentials come to [with IsFloorOf]
abbrev pub gains : Certificate → List ℕ → ℕ
gains certificate players = sum_by certificate.potential players

-- what is given to so many pairs and so many left over, and the most that the tolls come to [with IsFloorOf]
abbrev pub losses : Certificate → List ℕ → ℕ → ℕ → ℕ
losses certificate players pairs left =
    certificate.given * pairs + certificate.given_left * left + sum_by (λ set. set.price * most_inside players set) certificate.sets

-- how many pairs there are where so many are left over
abbrev pub pairs_of : List ℕ → ℕ → ℕ
pairs_of players left = (length players - left) / 2

-- a pair is given twice what a player left over is: so it comes to the same however many are left over [own]
abbrev pub GivesEvenly : Certificate → Type 0
GivesEvenly certificate = certificate.given ≡ 2 * certificate.given_left

-- the value of a certificate for so many players left over, with the slack of known pairs; 0 where it is negative
abbrev pub value : Costs → Certificate → List ℕ → ℕ → List (ℕ × ℕ) → ℕ
value costs certificate players left known =
    (gains certificate players + sum_by (slack costs certificate) known) - losses certificate players (pairs_of players left) left
