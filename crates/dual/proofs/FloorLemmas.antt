-- What is written of a checked certificate, and that it is a floor.
use Rattle.std.proofs.Common.{◌≡◌, ◌≢◌, ℕ, ◌+◌, ◌-◌, ◌*◌, ◌%◌, ◌<◌, ◌≤◌, true, cond, nat_eq, List, [], ◌∷◌, All, length}
use Rattle.std.proofs.Common.{take, drop, get_or, sum_by, Option, Some, None, IfSome, IsSome, Result, Ok, Err, IfOk, refl, inl, inr, sym, ap, subst, ◌∙◌, arith}
use Rattle.std.proofs.lemmas.Bool.{cases_Bool, cases_lt, eqb-true, eq-eqb, lt-ltb}
use Rattle.std.proofs.lemmas.List.Elements.{All-more, All-weaker, All-head, All-tail}
use Rattle.std.proofs.lemmas.List.Sums.{sum_by-cons, sum_by-drop_more, sum_by-le-sum_by}
use Rattle.std.proofs.Math.Nat.{add-mul, mul-add, mul-le-mul_right}
use Rattle.dual.specs.Prelude.{HasSlacks, Certificate, GivesEvenly, IsFeasible, slack, slack_left, losses, pairs_of, FloorTable, slack_in, slack_left_in, IsFloor, IsFloorOf, TellsSlack, TellsSlackLeft, Costs, IsPartOf, in_both}
use Rattle.dual.proofs.Sums.{sum_plus, one, one_itself, of_member}
use Rattle.dual.proofs.WeakDuality.{bounded_beside, counted}

-- the next of what is summed goes from what is to come to what has been
pub sum_next : {X : Type 0} (f : X → ℕ) (xs ys : List X) (i : ℕ) (x : X) → i < length xs → x ≡ get_or ys i x → ys ≡ xs
    → sum_by f (drop i xs) ≡ f x + sum_by f (drop (i + 1) xs)
sum_next f xs ys i x inside e same =
    let read : x ≡ get_or xs i x = e ∙ ap (λ zs. get_or zs i x) same in
    omega (arith, sum_by-drop_more f xs i x inside, ap f read)

-- ---- rows of a square

pub inside_square : (a v size : ℕ) → a < size → v < size → a * size + v < size * size
inside_square a v size first second =
    let step : a + 1 ≤ size = omega arith in
    let rows : (a + 1) * size ≤ size * size = mul-le-mul_right size step in
    omega (arith, rows, add-mul a 1 size)

pub other_row : (a u w v size : ℕ) → w < size → v < size → a ≢ u → a * size + w ≢ u * size + v
other_row a u w v size first second ne e = elim (cases_lt a u) [
  | inl below ↦
      let step : a + 1 ≤ u = omega arith in
      let rows : (a + 1) * size ≤ u * size = mul-le-mul_right size step in
      omega (arith, rows, e, add-mul a 1 size)
  | inr above ↦
      let step : u + 1 ≤ a = omega arith in
      let rows : (u + 1) * size ≤ a * size = mul-le-mul_right size step in
      omega (arith, rows, e, add-mul u 1 size)
]

-- ---- what is told is a floor

-- where no member of a whole has more than another weight, no part has more
sum_within : {X : Type 0} (f g : X → ℕ) (known all : List X) → IsPartOf known all → sum_by (λ x. f x - g x) all ≡ 0 → sum_by f known ≤ sum_by g known
sum_within f g known all part none =
    omega (
      arith,
      none,
      part.whole (λ x. f x - g x),
      sum_by-le-sum_by f (λ x. g x + (f x - g x)) known (λ x. omega arith),
      sum_plus g (λ x. f x - g x) known,
    )

module _ (costs : Costs) (players : List ℕ) (certificate : Certificate) (floor : FloorTable) where
  abbrev IsMet : ℕ × ℕ → Type 0
  IsMet pair = costs.meets pair.0 pair.1 ≡ true

  abbrev MayStay : ℕ → Type 0
  MayStay v = costs.may_be_left v ≡ true

  abbrev stands : ℕ → Type 0
  stands v = 0 < sum_by (one v) players

  -- what the pairs of a matching add is their slack
  pairs_told : All (λ u. All (TellsSlack costs certificate floor u) players) players → (pairs : List (ℕ × ℕ))
      → ((x : ℕ) → 0 < sum_by (in_both (one x)) pairs → stands x)
      → All IsMet pairs → sum_by (λ pair. slack_in floor pair - slack costs certificate pair) pairs ≡ 0
  pairs_told told [] inside may = refl
  pairs_told told (pair ∷ pairs) inside may =
      let first : stands pair.0 = inside pair.0 (omega (arith, sum_by-cons (in_both (one pair.0)) pair pairs, one_itself pair.0)) in
      let second : stands pair.1 = inside pair.1 (omega (arith, sum_by-cons (in_both (one pair.1)) pair pairs, one_itself pair.1)) in
      let row : All (TellsSlack costs certificate floor pair.0) players =
      of_member (λ u. All (TellsSlack costs certificate floor u) players) pair.0 players told first in
      let here : slack_in floor pair ≡ slack costs certificate pair =
      of_member (TellsSlack costs certificate floor pair.0) pair.1 players row second (All-head IsMet pair pairs may) in
      omega (
        arith,
        here,
        sum_by-cons (λ p. slack_in floor p - slack costs certificate p) pair pairs,
        pairs_told told pairs (λ x some. inside x (omega (arith, some, sum_by-cons (in_both (one x)) pair pairs))) (All-tail IsMet pair pairs may),
      )

  -- what its players left over add is theirs
  left_told : All (TellsSlackLeft costs certificate floor) players → (left : List ℕ)
      → ((x : ℕ) → 0 < sum_by (one x) left → stands x) → All MayStay left
      → sum_by (λ v. slack_left_in floor v - slack_left costs certificate v) left ≡ 0
  left_told told [] inside may = refl
  left_told told (v ∷ left) inside may =
      let member : stands v = inside v (omega (arith, sum_by-cons (one v) v left, one_itself v)) in
      let here : slack_left_in floor v ≡ slack_left costs certificate v =
      of_member (TellsSlackLeft costs certificate floor) v players told member (All-head MayStay v left may) in
      omega (
        arith,
        here,
        sum_by-cons (λ u. slack_left_in floor u - slack_left costs certificate u) v left,
        left_told told left (λ x some. inside x (omega (arith, some, sum_by-cons (one x) v left))) (All-tail MayStay v left may),
      )

-- the floor that a feasible certificate is bounds every matching
pub floor_least : (costs : Costs) (players : List ℕ) (left : ℕ) (certificate : Certificate) (floor : FloorTable)
    → IsFeasible costs players certificate → IsFloorOf costs players left certificate floor → IsFloor costs players left floor
floor_least costs players left certificate floor feasible told = λ pairs out matching e known known_left part part_left.
    let number : pairs_of players left ≡ length pairs = omega (arith, counted costs players pairs out matching, e) in
    let same : losses certificate players (pairs_of players left) left ≡ losses certificate players (length pairs) (length out) =
    ap (λ n. losses certificate players n left) number ∙ ap (losses certificate players (length pairs)) (sym e) in
    omega (
      arith,
      same,
      told.base,
      told.debt,
      bounded_beside costs players certificate pairs out feasible matching known known_left part part_left,
      sum_within (slack_in floor) (slack costs certificate) known pairs part
          (pairs_told costs players certificate floor told.pairs pairs (λ x some. omega (arith, some, matching.whole (one x))) matching.may_meet),
      sum_within (slack_left_in floor) (slack_left costs certificate) known_left out part_left
          (left_told costs players certificate floor told.left_over out (λ x some. omega (arith, some, matching.whole (one x))) matching.may_be_left),
    )

-- where a pair is given twice what a player left over is, it comes to the same for each number of pairs and of players left over
given_same : (certificate : Certificate) → GivesEvenly certificate → (pairs left count : ℕ) → 2 * pairs + left ≡ count
    → certificate.given * pairs + certificate.given_left * left ≡ certificate.given_left * count
given_same certificate even pairs left count e =
    let gift : ℕ = certificate.given_left in
    let twice : certificate.given * pairs ≡ gift * pairs + gift * pairs =
    ap (λ n. n * pairs) (let two : certificate.given ≡ gift + gift = omega (arith, even) in two) ∙ add-mul gift gift pairs in
    let all : gift * count ≡ gift * (pairs + (pairs + left)) = ap (λ n. gift * n) (let n : count ≡ pairs + (pairs + left) = omega (arith, e) in n) in
    omega (arith, twice, all, mul-add gift pairs (pairs + left), mul-add gift pairs left)

-- so the floor bounds all matchings, however many they leave over
pub floor_for_each : (costs : Costs) (players : List ℕ) (certificate : Certificate) (floor : FloorTable) → GivesEvenly certificate
    → IsFeasible costs players certificate → IsFloorOf costs players (length players % 2) certificate floor
    → (left : ℕ) → IsFloor costs players left floor
floor_for_each costs players certificate floor even feasible told left = λ pairs out matching e known known_left part part_left.
    let here : floor.debt ≡ losses certificate players (pairs_of players left) left =
    let half : 2 * pairs_of players (length players % 2) + length players % 2 ≡ length players = omega arith in
    let number : 2 * pairs_of players left + left ≡ length players = omega (arith, counted costs players pairs out matching, e) in
    omega (
      arith,
      told.debt,
      given_same certificate even (pairs_of players (length players % 2)) (length players % 2) (length players) half,
      given_same certificate even (pairs_of players left) left (length players) number,
    ) in
    floor_least costs players left certificate floor feasible
    (record { base = told.base; debt = here; pairs = told.pairs; left_over = told.left_over }) pairs out matching e known known_left part part_left

-- so does each that a call answers, alone or in something
pub for_each_left : {X E : Type 0} (costs : Costs) (players : List ℕ) (certificate : Certificate) (below : Type 0) → GivesEvenly certificate
    → (table : X → FloorTable) (result : Result (Option X) E)
    → IfOk result (λ found. (IsSome found → IsFeasible costs players certificate × below) × (IsFeasible costs players certificate × below → IsSome found))
    → IfOk result (λ found. IfSome found (λ x. IsFloorOf costs players (length players % 2) certificate (table x)))
    → IfOk result (λ found. IfSome found (λ x. (left : ℕ) → IsFloor costs players left (table x)))
for_each_left costs players certificate below even table (Err e) whole told = tt
for_each_left costs players certificate below even table (Ok None) whole told = tt
for_each_left costs players certificate below even table (Ok (Some x)) whole told =
    floor_for_each costs players certificate (table x) even (whole.0 refl).0 told

-- rows of a square, as a floor has them, tell the slacks
pub rows_tell : (costs : Costs) (players : List ℕ) (certificate : Certificate) (floor : FloorTable) → All (λ v. v < floor.size) players
    → All (λ u. HasSlacks costs certificate u players (u * floor.size) floor.slacks) players
    → All (λ u. All (TellsSlack costs certificate floor u) players) players
rows_tell costs players certificate floor below rows = λ k d lt j e there met.
    let u : ℕ = get_or players k d in
    let v : ℕ = get_or players j e in
    ap (λ b. cond b (get_or floor.slacks (u * floor.size + v) 0) 0) (lt-ltb v floor.size (below j e there)) ∙ rows k d lt j e there met
