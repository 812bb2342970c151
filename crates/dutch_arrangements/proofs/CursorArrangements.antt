-- The arrangements that a cursor may name are those of the bracket and shape.
use Rattle.std.proofs.Common.{◌≡◌, ℕ, zero, suc, ◌+◌, ◌-◌, ◌<◌, ◌≤◌, true, not, ◌&&◌, List, length, sym, arith, subst}
use Rattle.std.specs.List.{AllByRecursion}
use Rattle.std.proofs.lemmas.List.{length-take-le}
use Rattle.std.proofs.lemmas.Bool.{and_from}
use Rattle.dutch_arrangements.specs.Prelude.{subsets, tuples, is_member, numbers_from, IsIn, sorted, lower_first, exchange_cmp, exchanges, limbo_cmp, limbo_exchanges, Frame, Arrangement, residents_of, moved_down_scores, left_of, remainder_pairs, with_s2r, with_s1r, with_s2, arrangements, is_set_of, is_tuple_of, is_of, moved_down_of}
use Rattle.dutch_arrangements.specs.declared.bracket.Shape.{Shape}
use Rattle.dutch_sequence.proofs.Orders.{Rises, Rises-filter, all_members, IsIn-map, map-IsIn, IsIn-flat_map, flat_map-IsIn}
use Rattle.dutch_sequence.proofs.Sets.{sorted-in, in-sorted}
use Rattle.dutch_arrangements.proofs.CursorSets.{subset-from, subset-to, tuple-from, tuple-to, are-set, are-tuple, numbers-within, AreLists, lists-are, left-within}

pub rises-numbers : (first count : ℕ) → Rises (numbers_from first count)
rises-numbers first zero = tt
rises-numbers first (suc count) = (
  all_members (λ y. first < y) (numbers_from (suc first) count) (λ y m. omega (arith, (numbers-within (suc first) count y m).0)),
  rises-numbers (suc first) count,
)

pub pool-rises : (frame : Frame) (taken : List ℕ) → Rises (left_of (residents_of frame) taken)
pool-rises frame taken =
    Rises-filter (λ x. not (is_member x taken)) (residents_of frame) (rises-numbers (frame.mdps + 1) (length frame.scores - frame.mdps))

pool-above : (frame : Frame) (taken : List ℕ) → AllByRecursion (λ y. 0 < y) (left_of (residents_of frame) taken)
pool-above frame taken =
    all_members (λ y. 0 < y) (left_of (residents_of frame) taken)
    (λ y m. omega (arith, (numbers-within (frame.mdps + 1) (length frame.scores - frame.mdps) y (left-within (residents_of frame) taken y m)).0))

down-count : (frame : Frame) → frame.mdps ≤ length frame.scores → length (moved_down_scores frame) ≡ frame.mdps
down-count frame within = length-take-le frame.mdps frame.scores within

pub of-in : (frame : Frame) (shape : Shape) (a : Arrangement) → frame.mdps ≤ length frame.scores → is_of frame shape a ≡ true → IsIn a (arrangements frame shape)
of-in frame shape a within h =
    let are = lists-are frame shape a h in
    let residents = residents_of frame in
    let scores = moved_down_scores frame in
    let k = remainder_pairs shape in
    let pool = left_of residents a.s2 in
    let others = left_of pool a.s1r in
    let one : IsIn a.s1 (limbo_exchanges scores shape.mdps) =
    in-sorted (limbo_cmp scores) a.s1 (subsets (numbers_from 1 (length scores)) shape.mdps)
    (subst (λ n. IsIn a.s1 (subsets (numbers_from 1 n) shape.mdps)) (sym (down-count frame within))
    (subset-from (numbers_from 1 frame.mdps) shape.mdps a.s1 (rises-numbers 1 frame.mdps) are.s1.rises are.s1.within are.s1.count)) in
    let two : IsIn a.s2 (sorted lower_first (tuples residents shape.mdps)) =
    in-sorted lower_first a.s2 (tuples residents shape.mdps) (tuple-from shape.mdps residents a.s2 are.s2.different are.s2.within are.s2.count) in
    let three : IsIn a.s1r (exchanges pool k) =
    in-sorted (exchange_cmp pool k) a.s1r (subsets pool k) (subset-from pool k a.s1r (pool-rises frame a.s2) are.s1r.rises are.s1r.within are.s1r.count) in
    let four : IsIn a.s2r (sorted lower_first (tuples others k)) =
    in-sorted lower_first a.s2r (tuples others k) (tuple-from k others a.s2r are.s2r.different are.s2r.within are.s2r.count) in
    flat_map-IsIn (with_s2 frame shape) a a.s1 (limbo_exchanges scores shape.mdps) one
    (flat_map-IsIn (with_s1r frame shape a.s1) a a.s2 (sorted lower_first (tuples residents shape.mdps)) two
    (flat_map-IsIn (with_s2r frame shape a.s1 a.s2) a a.s1r (exchanges pool k) three
    (map-IsIn (λ s2r. record { s1 = a.s1; s2 = a.s2; s1r = a.s1r; s2r = s2r }) a.s2r (sorted lower_first (tuples others k)) four)))

pub are-lists : (frame : Frame) (shape : Shape) (a : Arrangement) → AreLists frame shape a → is_of frame shape a ≡ true
are-lists frame shape a are =
    let residents = residents_of frame in
    let k = remainder_pairs shape in
    let pool = left_of residents a.s2 in
    let others = left_of pool a.s1r in
    let down-above : AllByRecursion (λ y. 0 < y) (moved_down_of frame) = all_members (λ y. 0 < y) (moved_down_of frame) (λ y m. omega (arith, (numbers-within 1 frame.mdps y m).0)) in
    and_from (is_set_of (moved_down_of frame) shape.mdps a.s1) (is_tuple_of residents shape.mdps a.s2 && (is_set_of pool k a.s1r && is_tuple_of others k a.s2r))
    (are-set (moved_down_of frame) shape.mdps a.s1 down-above are.s1)
    (and_from (is_tuple_of residents shape.mdps a.s2) (is_set_of pool k a.s1r && is_tuple_of others k a.s2r) (are-tuple residents shape.mdps a.s2 are.s2)
    (and_from (is_set_of pool k a.s1r) (is_tuple_of others k a.s2r) (are-set pool k a.s1r (pool-above frame a.s2) are.s1r) (are-tuple others k a.s2r are.s2r)))

pub in-of : (frame : Frame) (shape : Shape) (a : Arrangement) → frame.mdps ≤ length frame.scores → IsIn a (arrangements frame shape) → is_of frame shape a ≡ true
in-of frame shape a within m =
    let residents = residents_of frame in
    let scores = moved_down_scores frame in
    let k = remainder_pairs shape in
    let one = IsIn-flat_map (with_s2 frame shape) a (limbo_exchanges scores shape.mdps) m in
    let two = IsIn-flat_map (with_s1r frame shape one.0) a (sorted lower_first (tuples residents shape.mdps)) one.2 in
    let pool = left_of residents two.0 in
    let three = IsIn-flat_map (with_s2r frame shape one.0 two.0) a (exchanges pool k) two.2 in
    let others = left_of pool three.0 in
    let four = IsIn-map (λ s2r. record { s1 = one.0; s2 = two.0; s1r = three.0; s2r = s2r }) a (sorted lower_first (tuples others k)) three.2 in
    are-lists frame shape a
    (subst (AreLists frame shape) (sym four.1)
    (record {
      s1 = subset-to (numbers_from 1 frame.mdps) shape.mdps one.0 (rises-numbers 1 frame.mdps)
          (subst (λ n. IsIn one.0 (subsets (numbers_from 1 n) shape.mdps)) (down-count frame within) (sorted-in (limbo_cmp scores) one.0 (subsets (numbers_from 1 (length scores)) shape.mdps) one.1));
      s2 = tuple-to shape.mdps residents two.0 (sorted-in lower_first two.0 (tuples residents shape.mdps) two.1);
      s1r = subset-to pool k three.0 (pool-rises frame two.0) (sorted-in (exchange_cmp pool k) three.0 (subsets pool k) three.1);
      s2r = tuple-to k others four.0 (sorted-in lower_first four.0 (tuples others k) four.2);
    }))
