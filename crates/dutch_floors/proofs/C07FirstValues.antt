-- No arrangement that leaves the Limbo of the first S1 has a better value of the next bracket than counts tell (C.04.3 C.7). If all
-- S1 of a bracket leave the same scores, that is true of all arrangements.
use Rattle.std.proofs.Common.{◌≡◌, ℕ, ◌+◌, ◌-◌, ◌<◌, ◌≤◌, not, nat_lt, cond, List, [], ◌++◌, ◌/◌, map, length, inl, inr, sym, ap, ◌∙◌, arith, subst}
use Rattle.std.proofs.lemmas.Bool.{cases_Bool}
use Rattle.std.specs.Prelude.{slice_index}
use Rattle.std.specs.List.{AllByRecursion}
use Rattle.std.proofs.lemmas.List.{length-append, length-map, nil_from_length}
use Rattle.dutch_arrangements.specs.declared.bracket.Shape.{Shape}
use Rattle.dutch_arrangements.specs.Prelude.{numbers_from, is_member, IsIn, Frame, Arrangement, left_of, arrangements}
use Rattle.dutch_sequence.proofs.Lists.{filter-all}
use Rattle.dutch_sequence.proofs.Members.{climbs-filter, filter-length, length-numbers}
use Rattle.dutch_player.specs.Prelude.{Facts}
use Rattle.dutch_bracket.specs.declared.reached.BracketKind.TheVariants.{Ordinary}
use Rattle.dutch_bracket.specs.Prelude.{seat_of, score_at, Reached, IsOf, frame_of, NextValue, value_in, IsFlat, IsNext, repeated, residents_down, IsUniform, downfloaters, IsNotBetter, floor_below, pairs_by_counts}
use Rattle.dutch_floors.specs.FirstValues.{first_limbo, first_scores_down, floor_length, floor_held, first_value}
use Rattle.dutch_bracket.proofs.AllLemmas.{all_filter}
use Rattle.dutch_bracket.proofs.ArrangementParts.{parts_of, numbers_within}
use Rattle.dutch_bracket.proofs.RepeatedLemmas.{length-repeated}
use Rattle.dutch_floors.proofs.C07ByCounts.{all_same, none_lower_than_none, counts_tell_of_the_next_bracket}
use Rattle.dutch_sequence.specs.declared.numbers.TheConstants.{LIMIT}

-- a value that is not better than with a PSD is not better than with none
without_psd : (value : NextValue) (pairs : ℕ) (psd : List ℕ) → IsNotBetter value pairs psd → IsNotBetter value pairs []
without_psd value pairs psd (inl less) = inl less
without_psd value pairs psd (inr same) = inr (same.0, none_lower_than_none value.psd)

held : (value : NextValue) (down : List ℕ) (s residents pairs : ℕ) → IsNotBetter value pairs (floor_below down s residents pairs) → IsNotBetter value pairs (floor_held down s residents pairs)
held value down s residents pairs h =
    elim (cases_Bool (nat_lt LIMIT (floor_length (length down) residents pairs))) [
      | inl on ↦
          subst (λ t. IsNotBetter value pairs (cond t [] (floor_below down s residents pairs))) (sym on) (without_psd value pairs (floor_below down s residents pairs) h)
      | inr off ↦ subst (λ t. IsNotBetter value pairs (cond t [] (floor_below down s residents pairs))) (sym off) h
    ]

-- those who go down with the first S1, and the next lower scoregroup, are few
pub few_go_down : (facts : Facts) (reached : Reached) (next : List ℕ) (shape : Shape) → IsFlat facts reached → IsNext facts reached next
    → length (first_scores_down facts reached shape) + length next ≤ LIMIT
few_go_down facts reached next shape flat below =
    let s : ℕ = score_at facts (seat_of reached.seats (reached.mdps + 1)) in
    let all = length-append (first_limbo facts reached shape) (repeated s (residents_down reached shape)) in
    let limbo = length-map (numbers_from (shape.mdps + 1) (reached.mdps - shape.mdps)) (λ i. score_at facts (seat_of reached.seats i)) in
    let h = flat.resident in
    let room = below.few in
    omega (arith, all, limbo, length-numbers (shape.mdps + 1) (reached.mdps - shape.mdps), length-repeated s (residents_down reached shape), h, room)

module _ (facts : Facts) (reached : Reached) (of' : IsOf facts reached) (flat : IsFlat facts reached) (shape : Shape) (a : Arrangement) (m : IsIn a (arrangements (frame_of facts reached) shape)) where
  -- no value of the next bracket is better than the first value
  pub no_value_is_better_than_the_first : reached.kind ≡ Ordinary → (next : List ℕ) → IsNext facts reached next
      → map (λ i. score_at facts (seat_of reached.seats i)) (left_of (numbers_from 1 reached.mdps) a.s1) ≡ first_limbo facts reached shape
      → length (downfloaters facts reached a ++ next) / 2 ≡ pairs_by_counts reached shape next
      → IsNotBetter (value_in Ordinary facts (downfloaters facts reached a) next) (first_value facts reached shape next).pairs (first_value facts reached shape next).psd
  no_value_is_better_than_the_first ordinary next below same half =
      let pairs : ℕ = pairs_by_counts reached shape next in
      held (value_in Ordinary facts (downfloaters facts reached a) next) (first_scores_down facts reached shape) (score_at facts (slice_index next 0)) (length next) pairs
      (counts_tell_of_the_next_bracket facts reached of' flat next below shape a m ordinary (first_limbo facts reached shape) same pairs half)

  -- where all S1 leave the same scores
  pub first_limbo_of_all : IsUniform facts reached shape → map (λ i. score_at facts (seat_of reached.seats i)) (left_of (numbers_from 1 reached.mdps) a.s1) ≡ first_limbo facts reached shape
  first_limbo_of_all uniform =
      let q = reached.mdps in
      let f : ℕ → ℕ = λ i. score_at facts (seat_of reached.seats i) in
      let frame : Frame = frame_of facts reached in
      let parts = parts_of frame shape a (let h = flat.resident in omega (arith, h, length-map reached.seats (score_at facts))) m in
      let low : List ℕ = numbers_from 1 q in
      let limbo : List ℕ = left_of low a.s1 in
      let first : List ℕ = numbers_from (shape.mdps + 1) (q - shape.mdps) in
      let many : length limbo + shape.mdps ≡ q =
      (let all = filter-length (λ x. is_member x a.s1) low in
      omega (arith, all, ap length (climbs-filter 1 q a.s1 parts.s1), length-numbers 1 q, parts.s1_count)) in
      elim uniform [
        | inl none ↦
            let empty : a.s1 ≡ [] = nil_from_length a.s1 (omega (arith, parts.s1_count, none)) in
            ap (λ xs. map f (left_of low xs)) empty ∙ ap (map f) (filter-all low) ∙ ap (λ k. map f (numbers_from 1 k)) (let e : q ≡ q - 0 = omega arith in e)
            ∙ ap (λ k. map f (numbers_from (k + 1) (q - k))) (sym none)
        | inr (inl all) ↦
            ap (map f) (nil_from_length limbo (omega (arith, many, all)))
            ∙ ap (map f) (sym (nil_from_length first (let e = length-numbers (shape.mdps + 1) (q - shape.mdps) in omega (arith, e, all))))
        | inr (inr same) ↦
            let P : ℕ → Type 0 = λ i. (0 < i) × (i ≤ q) in
            let in_limbo : AllByRecursion P limbo = all_filter P (λ x. not (is_member x a.s1)) low (numbers_within 0 1 q q (omega arith) (omega arith)) in
            let in_first : AllByRecursion P first = numbers_within 0 (shape.mdps + 1) (q - shape.mdps) q (omega arith) (omega (arith, many)) in
            let long : length limbo ≡ length first = (let e = length-numbers (shape.mdps + 1) (q - shape.mdps) in omega (arith, e, many)) in
            all_same P f (f 1) (λ i p. same i p.0 p.1) limbo in_limbo ∙ ap (repeated (f 1)) long ∙ sym (all_same P f (f 1) (λ i p. same i p.0 p.1) first in_first)
      ]
