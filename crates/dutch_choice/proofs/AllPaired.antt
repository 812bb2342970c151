-- If a shape pairs all moved-down players, or all residents, none of them is left over (C.04.3 B.1, B.3).
use Rattle.std.proofs.Common.{◌≡◌, ℕ, ◌+◌, ◌-◌, ◌*◌, ◌<◌, ◌≤◌, true, false, List, [], ◌∷◌, ◌++◌, length, sym, ◌∙◌, arith}
use Rattle.std.specs.Prelude.{nat_eq, nat_le}
use Rattle.std.proofs.lemmas.Bool.Decides.{nat_tests}
use Rattle.std.proofs.lemmas.Bool.{and_parts, false_from_ne_true, leb-true, not-true, true≢false}
use Rattle.dutch_arrangements.specs.declared.bracket.Shape.{Shape}
use Rattle.dutch_arrangements.specs.Prelude.{Arrangement, Frame, arrangements, left_of, paired, remainder_pairs, residents_of, is_member, numbers_from, IsIn}
use Rattle.dutch_sequence.proofs.Orders.{in-member, IsIn-back, IsIn-front}
use Rattle.dutch_sequence.proofs.Members.{length-numbers}
use Rattle.dutch_arrangements.proofs.NoneTwice.{left-in}
use Rattle.dutch_bracket.specs.Prelude.{Reached, is_number}
use Rattle.dutch_candidates.specs.Wishes.{grants}
use Rattle.dutch_candidates.specs.declared.wish.Wish.TheVariants.{LeftOver}
use Rattle.dutch_bracket.proofs.ArrangementParts.{lists_of, numbers_rise, parts_of, subset_whole}
use Rattle.dutch_sequence.proofs.FoundPaths.{in-numbers}
use Rattle.dutch_bracket.proofs.Totals.{total_length}

-- a number of a bracket is one of its places, from 1 on
pub bounds : (reached : Reached) (z : ℕ) → is_number reached z ≡ true → (1 ≤ z) × (z ≤ length reached.seats)
bounds reached z h =
    let both = and_parts (nat_le 1 z) (nat_le z (length reached.seats)) h in (leb-true 1 z both.0, leb-true z (length reached.seats) both.1)

pub equal : (a b : ℕ) → nat_eq a b ≡ true → a ≡ b
equal a b h = grind (arith, nat_tests)

-- who is in a list has it not empty
nobody_in : (z : ℕ) (xs : List ℕ) → IsIn z xs → length xs ≡ 0 → ⊥
nobody_in z [] m e = absurd m
nobody_in z (x ∷ xs) m e = let bad : ⊥ = omega (arith, e) in bad

-- who is granted to be left over is in none of the lists
not_paired : (p : ℕ) (a : Arrangement) → grants (LeftOver p) a ≡ true → IsIn p (paired a) → ⊥
not_paired p a granted m = true≢false (sym (in-member p (paired a) m) ∙ not-true (is_member p (paired a)) granted)

pub moved_down_paired : (frame : Frame) (shape : Shape) (a : Arrangement) (p : ℕ) → frame.mdps ≤ length frame.scores → IsIn a (arrangements frame shape)
    → shape.mdps ≡ frame.mdps → 0 < p → p ≤ frame.mdps → grants (LeftOver p) a ≡ false
moved_down_paired frame shape a p within m all low high =
    false_from_ne_true (grants (LeftOver p) a) (λ granted.
    let lists = lists_of frame shape a within m in
    let q = frame.mdps in
    let pool : List ℕ = numbers_from 1 q in
    let whole = subset_whole (λ x. 1) pool shape.mdps a.s1 (numbers_rise 1 q) lists.s1 in
    let count = (parts_of frame shape a within m).s1_count in
    let none : length (left_of pool a.s1) ≡ 0 =
    omega (arith, whole, total_length (left_of pool a.s1), total_length a.s1, total_length pool, length-numbers 1 q, count, all) in
    nobody_in p (left_of pool a.s1)
    (left-in p pool a.s1 (in-numbers p 1 q (omega (arith, low)) (omega (arith, high))) (λ n. not_paired p a granted (IsIn-front p a.s1 (a.s2 ++ (a.s1r ++ a.s2r)) n))) none)

pub residents_paired : (frame : Frame) (shape : Shape) (a : Arrangement) (p : ℕ) → frame.mdps ≤ length frame.scores → IsIn a (arrangements frame shape)
    → length frame.scores - frame.mdps ≤ shape.mdps + 2 * remainder_pairs shape → frame.mdps < p → p ≤ length frame.scores → grants (LeftOver p) a ≡ false
residents_paired frame shape a p within m all low high =
    false_from_ne_true (grants (LeftOver p) a) (λ granted.
    let q = frame.mdps in
    let n = length frame.scores in
    let pool : List ℕ = residents_of frame in
    let parts = parts_of frame shape a within m in
    let rest : List ℕ = left_of pool a.s2 in
    let last : List ℕ = left_of rest a.s1r in
    let none : length (left_of last a.s2r) ≡ 0 = omega (arith, parts.left, all) in
    let off : IsIn p (a.s2 ++ (a.s1r ++ a.s2r)) → ⊥ = λ k. not_paired p a granted (IsIn-back p a.s1 (a.s2 ++ (a.s1r ++ a.s2r)) k) in
    let first = left-in p pool a.s2 (in-numbers p (q + 1) (n - q) (omega (arith, low)) (omega (arith, high, within))) (λ k. off (IsIn-front p a.s2 (a.s1r ++ a.s2r) k)) in
    let second = left-in p rest a.s1r first (λ k. off (IsIn-back p a.s2 (a.s1r ++ a.s2r) (IsIn-front p a.s1r a.s2r k))) in
    let third = left-in p last a.s2r second (λ k. off (IsIn-back p a.s2 (a.s1r ++ a.s2r) (IsIn-back p a.s1r a.s2r k))) in
    nobody_in p (left_of last a.s2r) third none)
