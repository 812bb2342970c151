-- Pairs that cover players are a matching, and costs beside others are added.
use Rattle.std.proofs.Common.{◌≡◌, ℕ, ◌+◌, ◌*◌, true, List, All, sum_by, arith}
use Rattle.std.proofs.Math.Nat.{mul-add}
use Rattle.dual.specs.Prelude.{Costs, IsMatching, Covers, cost, beside_times}
use Rattle.dual.proofs.Covering.{covers_whole, covers_meet}
use Rattle.dual.proofs.Sums.{sum_plus, sum_times}

pub covering_is_matching : (costs : Costs) (players : List ℕ) (pairs : List (ℕ × ℕ)) (out : List ℕ) → Covers costs.meets players pairs out
    → All (λ v. costs.may_be_left v ≡ true) out → IsMatching costs players pairs out
covering_is_matching costs players pairs out covers may =
    record {
      whole = λ w. covers_whole costs.meets w players pairs out covers;
      may_meet = covers_meet costs.meets players pairs out covers;
      may_be_left = may;
    }

-- costs beside others are added
pub added : (costs : Costs) (factor : ℕ) (more : Costs) (pairs : List (ℕ × ℕ)) (left : List ℕ)
    → cost (beside_times costs factor more) pairs left ≡ cost costs pairs left + factor * cost more pairs left
added costs factor more pairs left =
    omega (
      arith,
      sum_plus (λ pair. costs.weight pair.0 pair.1) (λ pair. factor * more.weight pair.0 pair.1) pairs,
      sum_times factor (λ pair. more.weight pair.0 pair.1) pairs,
      sum_plus costs.left_cost (λ v. factor * more.left_cost v) left,
      sum_times factor more.left_cost left,
      mul-add factor (sum_by (λ pair. more.weight pair.0 pair.1) pairs) (sum_by more.left_cost left),
    )
