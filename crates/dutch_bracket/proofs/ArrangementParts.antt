-- The four lists of an arrangement: whose numbers stand in them, how many, and which residents they leave.
use Rattle.std.proofs.Common.{◌≡◌, ℕ, zero, suc, ◌+◌, ◌-◌, ◌<◌, ◌≤◌, false, cond, not, ◌||◌, eqb, List, [], ◌∷◌, map, length, inl, inr, refl, sym, ap, ◌∙◌, subst, arith}
use Rattle.std.specs.List.{AllByRecursion}
use Rattle.std.proofs.lemmas.Bool.{ne_eqb, eq-eqb}
use Rattle.std.proofs.lemmas.Bool.Decides.{nat_tests}
use Rattle.std.proofs.lemmas.List.{length-take-le}
use Rattle.dutch_arrangements.specs.declared.bracket.Shape.{Shape}
use Rattle.dutch_arrangements.specs.Prelude.{numbers_from, subsets, tuples, is_member, without, IsIn, sorted, lower_first, exchanges, exchange_cmp, limbo_exchanges, limbo_cmp, Frame, Arrangement, left_of, residents_of, moved_down_scores, remainder_pairs, with_s2r, with_s1r, with_s2, arrangements}
use Rattle.dutch_sequence.proofs.HalfWalks.{Climbs}
use Rattle.dutch_sequence.proofs.Lists.{filter-all, filter-same}
use Rattle.dutch_sequence.proofs.Orders.{member_has, IsIn-append, IsIn-map, IsIn-flat_map, Rises, Rises-filter}
use Rattle.dutch_sequence.proofs.Sets.{subsets-climb, sorted-in}
use Rattle.dutch_sequence.proofs.Members.{length-numbers}
use Rattle.dutch_sequence.proofs.Counts.{subsets-length, tuples-length, left-append}
use Rattle.dutch_bracket.proofs.AllLemmas.{all_filter}
use Rattle.dutch_bracket.proofs.Totals.{total, total_length}
pub use Rattle.dutch_arrangements.proofs.CursorArrangements.{rises-numbers as numbers_rise}

-- the first of the numbers to come
pub next_number : (i n : ℕ) → i < n → numbers_from (i + 1) (n - i) ≡ (i + 1) ∷ numbers_from ((i + 1) + 1) (n - (i + 1))
next_number i n h =
    let more : n - i ≡ suc (n - (i + 1)) = omega (arith, h) in
    ap (numbers_from (i + 1)) more ∙ ap (λ k. (i + 1) ∷ numbers_from k (n - (i + 1))) (let e : suc (i + 1) ≡ (i + 1) + 1 = omega arith in e)

-- and none is to come behind the last one
pub no_number : (i n : ℕ) → n ≤ i → numbers_from (i + 1) (n - i) ≡ []
no_number i n h = ap (numbers_from (i + 1)) (let e : n - i ≡ 0 = omega (arith, h) in e)

-- what holds of a pool holds of what is chosen from it
pub tuple_members : (P : ℕ → Type 0) (pool : List ℕ) (k : ℕ) (t : List ℕ) → AllByRecursion P pool → IsIn t (tuples pool k) → AllByRecursion P t
tuple_members P pool zero t all (inl same) = subst (AllByRecursion P) (sym same) tt
tuple_members P pool zero t all (inr none) = absurd none
tuple_members P pool (suc k) t all m =
    let first = IsIn-flat_map (λ x. map (λ rest. x ∷ rest) (tuples (without x pool) k)) t pool m in
    let from = IsIn-map (λ rest. first.0 ∷ rest) t (tuples (without first.0 pool) k) first.2 in
    subst (AllByRecursion P) (sym from.1)
    (member_has P pool all first.0 first.1, tuple_members P (without first.0 pool) k from.0 (all_filter P (λ y. not (eqb y first.0)) pool all) from.2)

pub subset_members : (P : ℕ → Type 0) (pool : List ℕ) (k : ℕ) (set : List ℕ) → AllByRecursion P pool → IsIn set (subsets pool k) → AllByRecursion P set
subset_members P pool zero set all (inl same) = subst (AllByRecursion P) (sym same) tt
subset_members P pool zero set all (inr none) = absurd none
subset_members P [] (suc k) set all m = absurd m
subset_members P (x ∷ xs) (suc k) set all m =
    elim (IsIn-append set (map (λ rest. x ∷ rest) (subsets xs k)) (subsets xs (suc k)) m) [
      | inl with ↦
          let from = IsIn-map (λ rest. x ∷ rest) set (subsets xs k) with in
          subst (AllByRecursion P) (sym from.1) (all.0, subset_members P xs k from.0 all.1 from.2)
      | inr out ↦ subset_members P xs (suc k) set all.1 out
    ]

-- what does not stand in a list
pub not_member : (x : ℕ) (ys : List ℕ) → AllByRecursion (λ y. x < y) ys → is_member x ys ≡ false
not_member x [] above = refl
not_member x (y ∷ ys) above =
    ap (λ b. b || is_member x ys) (ne_eqb y x (λ e. let h : x < y = above.0 in omega (arith, h, e))) ∙ not_member x ys above.1

none_without : (x : ℕ) (ys : List ℕ) → AllByRecursion (λ y. x < y) ys → without x ys ≡ ys
none_without x [] above = refl
none_without x (y ∷ ys) above =
    ap (λ b. cond (not b) (y ∷ without x ys) (without x ys)) (ne_eqb y x (λ e. let h : x < y = above.0 in omega (arith, h, e)))
    ∙ ap (λ rest. y ∷ rest) (none_without x ys above.1)

left_one : (x : ℕ) (pool : List ℕ) → left_of pool (x ∷ []) ≡ without x pool
left_one x pool =
    filter-same (λ y. not (eqb x y || false)) (λ y. not (eqb y x)) pool (λ y. grind (arith, nat_tests))

pub left_cons : (x : ℕ) (t pool : List ℕ) → left_of pool (x ∷ t) ≡ left_of (without x pool) t
left_cons x t pool = sym (left-append pool (x ∷ []) t) ∙ ap (λ rest. left_of rest t) (left_one x pool)

pub left_none : (pool : List ℕ) → left_of pool [] ≡ pool
left_none pool = filter-all pool

module _ (w : ℕ → ℕ) where
  -- a list that rises without one of its members
  without_one : (x : ℕ) (pool : List ℕ) → Rises pool → IsIn x pool → total w (without x pool) + w x ≡ total w pool
  without_one x [] rises none = absurd none
  without_one x (y ∷ ys) rises (inl same) =
      let gone : without x (y ∷ ys) ≡ without x ys = ap (λ b. cond (not b) (y ∷ without x ys) (without x ys)) (eq-eqb y x (sym same)) in
      let kept : without x ys ≡ ys = none_without x ys (subst (λ z. AllByRecursion (λ v. z < v) ys) (sym same) rises.0) in
      omega (arith, ap (total w) gone, ap (total w) kept, ap w same)
  without_one x (y ∷ ys) rises (inr later) =
      let above : y < x = member_has (λ z. y < z) ys rises.0 x later in
      let kept : without x (y ∷ ys) ≡ y ∷ without x ys = ap (λ b. cond (not b) (y ∷ without x ys) (without x ys)) (ne_eqb y x (λ e. omega (arith, above, e))) in
      omega (arith, ap (total w) kept, without_one x ys rises.1 later)

  -- a tuple or a set with those whom it leaves
  pub tuple_whole : (pool : List ℕ) (k : ℕ) (t : List ℕ) → Rises pool → IsIn t (tuples pool k) → total w (left_of pool t) + total w t ≡ total w pool
  tuple_whole pool zero t rises (inl same) =
      omega (arith, ap (λ s. total w (left_of pool s)) same, ap (total w) (left_none pool), ap (total w) same)
  tuple_whole pool zero t rises (inr none) = absurd none
  tuple_whole pool (suc k) t rises m =
      let first = IsIn-flat_map (λ x. map (λ rest. x ∷ rest) (tuples (without x pool) k)) t pool m in
      let from = IsIn-map (λ rest. first.0 ∷ rest) t (tuples (without first.0 pool) k) first.2 in
      let less = without_one first.0 pool rises first.1 in
      let later = tuple_whole (without first.0 pool) k from.0 (Rises-filter (λ y. not (eqb y first.0)) pool rises) from.2 in
      omega (arith, less, later, ap (λ s. total w (left_of pool s)) from.1, ap (total w) (left_cons first.0 from.0 pool), ap (total w) from.1)

  pub subset_whole : (pool : List ℕ) (k : ℕ) (set : List ℕ) → Rises pool → IsIn set (subsets pool k) → total w (left_of pool set) + total w set ≡ total w pool
  subset_whole pool zero set rises (inl same) =
      omega (arith, ap (λ s. total w (left_of pool s)) same, ap (total w) (left_none pool), ap (total w) same)
  subset_whole pool zero set rises (inr none) = absurd none
  subset_whole [] (suc k) set rises m = absurd m
  subset_whole (x ∷ xs) (suc k) set rises m =
      elim (IsIn-append set (map (λ rest. x ∷ rest) (subsets xs k)) (subsets xs (suc k)) m) [
        | inl with ↦
            let from = IsIn-map (λ rest. x ∷ rest) set (subsets xs k) with in
            let gone : without x (x ∷ xs) ≡ xs = ap (λ b. cond (not b) (x ∷ without x xs) (without x xs)) (eq-eqb x x refl) ∙ none_without x xs rises.0 in
            let all : left_of (x ∷ xs) set ≡ left_of xs from.0 =
            ap (left_of (x ∷ xs)) from.1 ∙ left_cons x from.0 (x ∷ xs) ∙ ap (λ rest. left_of rest from.0) gone in
            omega (arith, ap (total w) all, ap (total w) from.1, subset_whole xs k from.0 rises.1 from.2)
        | inr out ↦
            let off : is_member x set ≡ false = not_member x set (subset_members (λ y. x < y) xs (suc k) set rises.0 out) in
            let kept : left_of (x ∷ xs) set ≡ x ∷ left_of xs set = ap (λ b. cond (not b) (x ∷ left_of xs set) (left_of xs set)) off in
            omega (arith, ap (total w) kept, subset_whole xs (suc k) set rises.1 out)
      ]

pub numbers_above : (low first count : ℕ) → low < first → AllByRecursion (λ y. low < y) (numbers_from first count)
numbers_above low first zero h = tt
numbers_above low first (suc count) h = (h, numbers_above low (suc first) count (omega arith))

pub numbers_within : (q first count n : ℕ) → q < first → first + count ≤ n + 1 → AllByRecursion (λ i. (q < i) × (i ≤ n)) (numbers_from first count)
numbers_within q first zero n h g = tt
numbers_within q first (suc count) n h g = ((h, omega arith), numbers_within q (suc first) count n (omega arith) (omega arith))

-- a resident of a bracket of n players, of whom q were moved down
abbrev pub Residents : ℕ → ℕ → List ℕ → Type 0
Residents q n numbers = AllByRecursion (λ i. (q < i) × (i ≤ n)) numbers

-- the parts of an arrangement with m moved-down players and j more pairs
pub record Parts (q n m j : ℕ) (a : Arrangement) : Type 0 where
  pub s1 : Climbs 1 (1 + q) a.s1
  pub s2 : Residents q n a.s2
  pub s1r : Residents q n a.s1r
  pub s2r : Residents q n a.s2r
  pub s1_count : length a.s1 ≡ m
  pub s2_count : length a.s2 ≡ m
  pub s1r_count : length a.s1r ≡ j
  pub s2r_count : length a.s2r ≡ j
  pub left : length (left_of (left_of (left_of (numbers_from (q + 1) (n - q)) a.s2) a.s1r) a.s2r) + (m + (j + j)) ≡ n - q

-- whose numbers are chosen for the four lists, one list after another
pub record FourLists (frame : Frame) (shape : Shape) (a : Arrangement) : Type 0 where
  pub s1 : IsIn a.s1 (subsets (numbers_from 1 frame.mdps) shape.mdps)
  pub s2 : IsIn a.s2 (tuples (residents_of frame) shape.mdps)
  pub s1r : IsIn a.s1r (subsets (left_of (residents_of frame) a.s2) (remainder_pairs shape))
  pub s2r : IsIn a.s2r (tuples (left_of (left_of (residents_of frame) a.s2) a.s1r) (remainder_pairs shape))

pub lists_of : (frame : Frame) (shape : Shape) (a : Arrangement) → frame.mdps ≤ length frame.scores → IsIn a (arrangements frame shape) → FourLists frame shape a
lists_of frame shape a inside m =
    let j = remainder_pairs shape in
    let pool : List ℕ = residents_of frame in
    let one = IsIn-flat_map (with_s2 frame shape) a (limbo_exchanges (moved_down_scores frame) shape.mdps) m in
    let two = IsIn-flat_map (with_s1r frame shape one.0) a (sorted lower_first (tuples pool shape.mdps)) one.2 in
    let rest : List ℕ = left_of pool two.0 in
    let three = IsIn-flat_map (with_s2r frame shape one.0 two.0) a (exchanges rest j) two.2 in
    let four = IsIn-map (λ s2r. record { s1 = one.0; s2 = two.0; s1r = three.0; s2r = s2r }) a (sorted lower_first (tuples (left_of rest three.0) j)) three.2 in
    let made : FourLists frame shape (record { s1 = one.0; s2 = two.0; s1r = three.0; s2r = four.0 }) = record {
      s1 = subst (λ q. IsIn one.0 (subsets (numbers_from 1 q) shape.mdps)) (length-take-le frame.mdps frame.scores inside)
          (sorted-in (limbo_cmp (moved_down_scores frame)) one.0 (subsets (numbers_from 1 (length (moved_down_scores frame))) shape.mdps) one.1);
      s2 = sorted-in lower_first two.0 (tuples pool shape.mdps) two.1;
      s1r = sorted-in (exchange_cmp rest j) three.0 (subsets rest j) three.1;
      s2r = sorted-in lower_first four.0 (tuples (left_of rest three.0) j) four.2;
    } in
    subst (FourLists frame shape) (sym four.1) made

-- the residents in them and those whom they leave are all residents
pub residents_whole : (w : ℕ → ℕ) (frame : Frame) (shape : Shape) (a : Arrangement) → FourLists frame shape a
    → total w (left_of (left_of (left_of (residents_of frame) a.s2) a.s1r) a.s2r) + (total w a.s2 + (total w a.s1r + total w a.s2r)) ≡ total w (residents_of frame)
residents_whole w frame shape a lists =
    let pool : List ℕ = residents_of frame in
    let rest : List ℕ = left_of pool a.s2 in
    let rises : Rises pool = numbers_rise (frame.mdps + 1) (length frame.scores - frame.mdps) in
    let rises_rest : Rises rest = Rises-filter (λ x. not (is_member x a.s2)) pool rises in
    let three = tuple_whole w (left_of rest a.s1r) (remainder_pairs shape) a.s2r (Rises-filter (λ x. not (is_member x a.s1r)) rest rises_rest) lists.s2r in
    omega (arith, tuple_whole w pool shape.mdps a.s2 rises lists.s2, subset_whole w rest (remainder_pairs shape) a.s1r rises_rest lists.s1r, three)

-- every arrangement of a bracket has such parts
pub parts_of : (frame : Frame) (shape : Shape) (a : Arrangement) → frame.mdps ≤ length frame.scores → IsIn a (arrangements frame shape)
    → Parts frame.mdps (length frame.scores) shape.mdps (remainder_pairs shape) a
parts_of frame shape a inside m =
    let q = frame.mdps in
    let n = length frame.scores in
    let j = remainder_pairs shape in
    let lists = lists_of frame shape a inside m in
    let pool : List ℕ = residents_of frame in
    let rest : List ℕ = left_of pool a.s2 in
    let last : List ℕ = left_of rest a.s1r in
    let climbs = subsets-climb 1 q shape.mdps a.s1 lists.s1 in
    let P : ℕ → Type 0 = λ i. (q < i) × (i ≤ n) in
    let all : AllByRecursion P pool = numbers_within q (q + 1) (n - q) n (omega arith) (omega arith) in
    let all_rest : AllByRecursion P rest = all_filter P (λ x. not (is_member x a.s2)) pool all in
    let s2_count : length a.s2 ≡ shape.mdps = tuples-length pool shape.mdps a.s2 lists.s2 in
    let s1r_count : length a.s1r ≡ j = subsets-length rest j a.s1r lists.s1r in
    let s2r_count : length a.s2r ≡ j = tuples-length last j a.s2r lists.s2r in
    record {
      s1 = climbs.0;
      s2 = tuple_members P pool shape.mdps a.s2 all lists.s2;
      s1r = subset_members P rest j a.s1r all_rest lists.s1r;
      s2r = tuple_members P last j a.s2r (all_filter P (λ x. not (is_member x a.s1r)) rest all_rest) lists.s2r;
      s1_count = climbs.1;
      s2_count = s2_count;
      s1r_count = s1r_count;
      s2r_count = s2r_count;
      left =
          omega (
            arith,
            (residents_whole (λ x. 1) frame shape a lists),
            total_length a.s2,
            total_length a.s1r,
            total_length a.s2r,
            total_length (left_of last a.s2r),
            total_length pool,
            length-numbers (q + 1) (n - q),
            s2_count,
            s1r_count,
            s2r_count,
          );
    }
