-- Pairs of players who may meet, and the players left over.
use Rattle.std.specs.Prelude.{◌≡◌, ℕ, ◌+◌, ◌*◌, Bool, true, List, [], ◌∷◌, ◌++◌, Option, All, sum_by}
use Rattle.std.specs.Option.{option_to_list}

-- who may meet and at what cost, who may be left over and at what cost [own]
pub record Costs : Type 0 where
  pub meets : ℕ → ℕ → Bool
  pub weight : ℕ → ℕ → ℕ
  pub may_be_left : ℕ → Bool
  pub left_cost : ℕ → ℕ

-- what a weight of players comes to in a pair
abbrev pub in_both : (ℕ → ℕ) → ℕ × ℕ → ℕ
in_both w pair = w pair.0 + w pair.1

-- pairs and others together are some players, each as often: whatever weight the players are given, both come to the same [own]
abbrev pub MakeUp : List ℕ → List (ℕ × ℕ) → List ℕ → Type 0
MakeUp players pairs others = (w : ℕ → ℕ) → sum_by (in_both w) pairs + sum_by w others ≡ sum_by w players

-- pairs of players who may meet, and the other players, who may be left over [own]
pub record IsMatching (costs : Costs) (players : List ℕ) (pairs : List (ℕ × ℕ)) (left : List ℕ) : Type 0 where
  pub whole : MakeUp players pairs left
  pub may_meet : All (λ pair. costs.meets pair.0 pair.1 ≡ true) pairs
  pub may_be_left : All (λ v. costs.may_be_left v ≡ true) left

-- some members of a list, each at most as often as in the list: with others they come to what all do [with IsFloor]
pub record IsPartOf {X : Type 0} (known all : List X) : Type 0 where
  pub others : List X
  pub whole : (f : X → ℕ) → sum_by f known + sum_by f others ≡ sum_by f all

-- what pairs and players left over cost [own]
abbrev pub cost : Costs → List (ℕ × ℕ) → List ℕ → ℕ
cost costs pairs left = sum_by (λ pair. costs.weight pair.0 pair.1) pairs + sum_by costs.left_cost left

-- two costs at once: the first, and so many times the second [with Costs]
abbrev pub beside_times : Costs → ℕ → Costs → Costs
beside_times costs factor more =
    record {
      meets = costs.meets;
      weight = λ a b. costs.weight a b + factor * more.weight a b;
      may_be_left = costs.may_be_left;
      left_cost = λ a. costs.left_cost a + factor * more.left_cost a;
    }

-- pairs of players who may meet, in each the one first who stands earlier in the list; and the players whom the pairs leave out [A.9; own]
abbrev pub Covers : (ℕ → ℕ → Bool) → List ℕ → List (ℕ × ℕ) → List ℕ → Type 0
Covers meets players [] out = players ≡ out
Covers meets players (pair ∷ pairs) out = record {
  skipped : List ℕ;
  between : List ℕ;
  behind : List ℕ;
  later : List ℕ;
  players_are : players ≡ skipped ++ pair.0 ∷ (between ++ pair.1 ∷ behind);
  may_meet : meets pair.0 pair.1 ≡ true;
  out_are : out ≡ skipped ++ later;
  covered : Covers meets (between ++ behind) pairs later;
}

-- nobody is left out, or one player who may be [with Completable]
abbrev pub MayBeLeftOut : (ℕ → Bool) → List ℕ → Type 0
MayBeLeftOut may_be_left [] = Unit {0}
MayBeLeftOut may_be_left (a ∷ []) = may_be_left a ≡ true
MayBeLeftOut may_be_left (a ∷ b ∷ rest) = ⊥

-- some list of pairs of those who may meet leaves out at most one of the players, who may be left out [A.9, C.1 to C.3]
pub record Completable (meets : ℕ → ℕ → Bool) (may_be_left : ℕ → Bool) (players : List ℕ) : Type 0 where
  pub pairs : List (ℕ × ℕ)
  pub out : List ℕ
  pub covered : Covers meets players pairs out
  pub left_out : MayBeLeftOut may_be_left out

-- a witness that players are completable: pairs of two who may meet, whoever comes first, and one left over, who may be, or nobody, who
-- make up the players [own]
pub record IsWitness (meets : ℕ → ℕ → Bool) (may_be_left : ℕ → Bool) (players : List ℕ) (pairs : List (ℕ × ℕ)) (left : Option ℕ) : Type 0 where
  pub whole : MakeUp players pairs (option_to_list left)
  pub may_meet : All (λ pair. (meets pair.0 pair.1 ≡ true) × (meets pair.1 pair.0 ≡ true)) pairs
  pub may_stay : All (λ v. may_be_left v ≡ true) (option_to_list left)
