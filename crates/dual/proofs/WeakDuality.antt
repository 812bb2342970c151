-- A feasible certificate bounds the cost of every matching: its inequalities are added over the pairs and the players left over.
use Rattle.std.proofs.Common.{◌≡◌, ℕ, ◌+◌, ◌*◌, ◌<◌, ◌≤◌, true, false, ◌&&◌, cond, List, [], ◌∷◌, All, length, sum_by, arith}
use Rattle.std.proofs.lemmas.List.Elements.{All-head, All-tail}
use Rattle.std.proofs.lemmas.List.Sums.{sum_by-cons, sum_by-le-sum_by}
use Rattle.std.proofs.Math.Nat.{mul-le-mul_left}
use Rattle.dual.specs.Prelude.{Costs, in_both, IsMatching, IsPartOf, cost, Priced, Certificate, toll, Bears, BearsLeft, IsFeasible, slack, slack_left, most_inside, gains, losses}
use Rattle.dual.proofs.Sums.{sum_plus, sum_none, sum_times, sum_of_ones, sum_of_twos, one, one_itself, of_member}

-- ---- a set

module _ (set : Priced) where
  abbrev inside : ℕ × ℕ → ℕ
  inside pair = cond (set.has pair.0 && set.has pair.1) 1 0

  abbrev mark : ℕ → ℕ
  mark v = cond (set.has v) 1 0

  toll_is : (pair : ℕ × ℕ) → toll pair set ≤ set.price * inside pair
  toll_is pair = elim (set.has pair.0 && set.has pair.1) as (λ b. cond b set.price 0 ≤ set.price * cond b 1 0) [ true ↦ omega arith | false ↦ omega arith ]

  two_inside : (pair : ℕ × ℕ) → 2 * inside pair ≤ in_both mark pair
  two_inside pair =
      elim (set.has pair.0) as (λ a. 2 * cond (a && set.has pair.1) 1 0 ≤ cond a 1 0 + cond (set.has pair.1) 1 0) [
        | true ↦ elim (set.has pair.1) as (λ b. 2 * cond (true && b) 1 0 ≤ cond true 1 0 + cond b 1 0) [ true ↦ omega arith | false ↦ omega arith ]
        | false ↦ omega arith
      ]

  -- the pairs inside a set are at most half of its players, so their tolls are bounded
  tolls_of_set : (players : List ℕ) (pairs : List (ℕ × ℕ)) → sum_by (in_both mark) pairs ≤ sum_by mark players
      → sum_by (λ pair. toll pair set) pairs ≤ set.price * most_inside players set
  tolls_of_set players pairs within =
      let few : sum_by inside pairs ≤ most_inside players set =
      omega (arith, within, sum_times 2 inside pairs, sum_by-le-sum_by (λ pair. 2 * inside pair) (in_both mark) pairs two_inside) in
      omega (
        arith,
        sum_by-le-sum_by (λ pair. toll pair set) (λ pair. set.price * inside pair) pairs toll_is,
        sum_times set.price inside pairs,
        mul-le-mul_left set.price few,
      )

tolls_below : (players : List ℕ) (pairs : List (ℕ × ℕ)) → ((w : ℕ → ℕ) → sum_by (in_both w) pairs ≤ sum_by w players) → (sets : List Priced)
    → sum_by (λ pair. sum_by (toll pair) sets) pairs ≤ sum_by (λ set. set.price * most_inside players set) sets
tolls_below players pairs within [] = omega (arith, sum_none pairs)
tolls_below players pairs within (set ∷ sets) =
    omega (
      arith,
      sum_by-le-sum_by (λ pair. sum_by (toll pair) (set ∷ sets)) (λ pair. toll pair set + sum_by (toll pair) sets) pairs
          (λ pair. omega (arith, sum_by-cons (toll pair) set sets)),
      sum_plus (λ pair. toll pair set) (λ pair. sum_by (toll pair) sets) pairs,
      tolls_of_set set players pairs (within (mark set)),
      tolls_below players pairs within sets,
      sum_by-cons (λ set. set.price * most_inside players set) set sets,
    )

-- ---- the bound

module _ (costs : Costs) (players : List ℕ) (certificate : Certificate) (feasible : IsFeasible costs players certificate) where
  abbrev weigh : ℕ × ℕ → ℕ
  weigh pair = costs.weight pair.0 pair.1

  abbrev tolls : ℕ × ℕ → ℕ
  tolls pair = sum_by (toll pair) certificate.sets

  abbrev stands : ℕ → Type 0
  stands v = 0 < sum_by (one v) players

  abbrev IsMet : ℕ × ℕ → Type 0
  IsMet pair = costs.meets pair.0 pair.1 ≡ true

  abbrev MayStay : ℕ → Type 0
  MayStay v = costs.may_be_left v ≡ true

  pair_bears : (u v : ℕ) → stands u → stands v → Bears costs certificate u v
  pair_bears u v here there = of_member (Bears costs certificate u) v players (of_member (λ u. All (Bears costs certificate u) players) u players feasible.pairs here) there

  -- the inequalities of the pairs, added
  pairs_bear : (pairs : List (ℕ × ℕ)) → ((x : ℕ) → 0 < sum_by (in_both (one x)) pairs → stands x) → All IsMet pairs
      → sum_by (in_both certificate.potential) pairs + sum_by (slack costs certificate) pairs
      ≤ sum_by weigh pairs + certificate.given * length pairs + sum_by tolls pairs
  pairs_bear [] inside may = omega arith
  pairs_bear (pair ∷ pairs) inside may =
      let first : stands pair.0 = inside pair.0 (omega (arith, sum_by-cons (in_both (one pair.0)) pair pairs, one_itself pair.0)) in
      let second : stands pair.1 = inside pair.1 (omega (arith, sum_by-cons (in_both (one pair.1)) pair pairs, one_itself pair.1)) in
      omega (
        arith,
        sum_by-cons (in_both certificate.potential) pair pairs,
        sum_by-cons (slack costs certificate) pair pairs,
        sum_by-cons weigh pair pairs,
        sum_by-cons tolls pair pairs,
        pair_bears pair.0 pair.1 first second (All-head IsMet pair pairs may),
        pairs_bear pairs (λ x some. inside x (omega (arith, some, sum_by-cons (in_both (one x)) pair pairs))) (All-tail IsMet pair pairs may),
      )

  -- those of the players left over
  left_bear : (left : List ℕ) → ((x : ℕ) → 0 < sum_by (one x) left → stands x) → All MayStay left
      → sum_by certificate.potential left + sum_by (slack_left costs certificate) left
      ≤ sum_by costs.left_cost left + certificate.given_left * length left
  left_bear [] inside may = omega arith
  left_bear (v ∷ left) inside may =
      let here : stands v = inside v (omega (arith, sum_by-cons (one v) v left, one_itself v)) in
      omega (
        arith,
        sum_by-cons certificate.potential v left,
        sum_by-cons (slack_left costs certificate) v left,
        sum_by-cons costs.left_cost v left,
        of_member (BearsLeft costs certificate) v players feasible.left here (All-head MayStay v left may),
        left_bear left (λ x some. inside x (omega (arith, some, sum_by-cons (one x) v left))) (All-tail MayStay v left may),
      )

  -- with all reduced costs
  with_slacks : (pairs : List (ℕ × ℕ)) (left : List ℕ) → IsMatching costs players pairs left
      → gains certificate players + (sum_by (slack costs certificate) pairs + sum_by (slack_left costs certificate) left)
      ≤ cost costs pairs left + losses certificate players (length pairs) (length left)
  with_slacks pairs left matching =
      omega (
        arith,
        pairs_bear pairs (λ x some. omega (arith, some, matching.whole (one x))) matching.may_meet,
        left_bear left (λ x some. omega (arith, some, matching.whole (one x))) matching.may_be_left,
        tolls_below players pairs (λ w. omega (arith, matching.whole w)) certificate.sets,
        matching.whole certificate.potential,
      )

-- ---- the players are two for each pair, and those left over

pub counted : (costs : Costs) (players : List ℕ) (pairs : List (ℕ × ℕ)) (left : List ℕ) → IsMatching costs players pairs left
    → 2 * length pairs + length left ≡ length players
counted costs players pairs left matching = omega (arith, matching.whole (λ v. 1), sum_of_twos pairs, sum_of_ones left, sum_of_ones players)

-- ---- the bound on a matching

pub bounded : (costs : Costs) (players : List ℕ) (certificate : Certificate) (pairs : List (ℕ × ℕ)) (left : List ℕ)
    → IsFeasible costs players certificate → IsMatching costs players pairs left
    → gains certificate players ≤ cost costs pairs left + losses certificate players (length pairs) (length left)
bounded costs players certificate pairs left feasible matching = omega (arith, with_slacks costs players certificate feasible pairs left matching)

pub bounded_beside : (costs : Costs) (players : List ℕ) (certificate : Certificate) (pairs : List (ℕ × ℕ)) (left : List ℕ)
    → IsFeasible costs players certificate → IsMatching costs players pairs left
    → (known : List (ℕ × ℕ)) (known_left : List ℕ) → IsPartOf known pairs → IsPartOf known_left left
    → gains certificate players + (sum_by (slack costs certificate) known + sum_by (slack_left costs certificate) known_left)
    ≤ cost costs pairs left + losses certificate players (length pairs) (length left)
bounded_beside costs players certificate pairs left feasible matching known known_left part part_left =
    omega (
      arith,
      with_slacks costs players certificate feasible pairs left matching,
      part.whole (slack costs certificate),
      part_left.whole (slack_left costs certificate),
    )
