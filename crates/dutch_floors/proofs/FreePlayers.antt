-- How many of the players in no pair of a beginning can be served. Each pair to make serves one of them, and a second one only at a price;
-- each downfloater is served. So those beyond the number of pairs to make and of downfloaters cost that price.
use Rattle.std.proofs.Common.{◌≡◌, ℕ, ◌+◌, ◌-◌, ◌*◌, ◌≤◌, List, [], ◌∷◌, length, sum_by, refl, sym, ◌∙◌, arith, length-append}
use Rattle.std.specs.List.{AllByRecursion}
use Rattle.std.proofs.lemmas.List.{length-map}
use Rattle.std.proofs.lemmas.List.Sums.{sum_by-cons}
use Rattle.dutch_arrangements.specs.declared.bracket.Shape.{Shape}
use Rattle.dutch_arrangements.specs.Prelude.{IsIn, Arrangement, arrangements}
use Rattle.dutch_player.specs.Prelude.{Facts}
use Rattle.dutch_bracket.specs.Prelude.{pairs_of, score_at, all_pairs, Reached, frame_of, downfloaters, in_both}
use Rattle.dutch_bracket.proofs.ArrangementParts.{parts_of}
use Rattle.dutch_bracket.proofs.Everybody.{pairs_total, bracket_whole}
use Rattle.dutch_bracket.proofs.FixedPairs.{Beside, sum_beside, length_beside}
use Rattle.dutch_bracket.proofs.Totals.{total, total_length, total_sum}

pairs_sum : (w : ℕ → ℕ) (pairs : List (ℕ × ℕ)) → pairs_total w pairs ≡ sum_by (in_both w) pairs
pairs_sum w [] = refl
pairs_sum w (pair ∷ pairs) = omega (arith, sum_by-cons (in_both w) pair pairs, pairs_sum w pairs)

-- where each weighs one, a pair weighs two
two_each : (pairs : List (ℕ × ℕ)) → pairs_total (λ x. 1) pairs ≡ 2 * length pairs
two_each [] = refl
two_each (pair ∷ pairs) = omega (arith, two_each pairs)

pub total_few : (w : ℕ → ℕ) → ((x : ℕ) → w x ≤ 1) → (xs : List ℕ) → total w xs ≤ length xs
total_few w one [] = omega arith
total_few w one (x ∷ xs) = omega (arith, one x, total_few w one xs)

-- pairs of which each serves one, and beyond that at a price
pairs_serve : (f g : ℕ × ℕ → ℕ) (pairs : List (ℕ × ℕ)) → AllByRecursion (λ pair. f pair ≤ 1 + g pair) pairs → sum_by f pairs ≤ length pairs + sum_by g pairs
pairs_serve f g [] each = omega arith
pairs_serve f g (pair ∷ pairs) each =
    omega (arith, sum_by-cons f pair pairs, sum_by-cons g pair pairs, each.0, pairs_serve f g pairs each.1)

pairs_counted : (seats firsts seconds : List ℕ) → length firsts ≡ length seconds → length (pairs_of seats firsts seconds) ≡ length firsts
pairs_counted seats [] seconds equal = refl
pairs_counted seats (a ∷ firsts) [] equal = absurd (omega arith)
pairs_counted seats (a ∷ firsts) (b ∷ seconds) equal = omega (arith, pairs_counted seats firsts seconds (omega arith))

module _ (facts : Facts) (reached : Reached) (shape : Shape) (known : List (ℕ × ℕ)) (a : Arrangement) (within : reached.mdps ≤ length reached.seats) (m : IsIn a (arrangements (frame_of facts reached) shape)) where
  pairs_made : length (all_pairs reached.seats a) ≡ shape.mdps + (shape.pairs - shape.mdps)
  pairs_made =
      let seats : List ℕ = reached.seats in
      let parts = parts_of (frame_of facts reached) shape a (omega (arith, within, length-map seats (score_at facts))) m in
      omega (
        arith,
        length-append (pairs_of seats a.s1 a.s2) (pairs_of seats a.s1r a.s2r),
        pairs_counted seats a.s1 a.s2 (parts.s1_count ∙ sym parts.s2_count),
        pairs_counted seats a.s1r a.s2r (parts.s1r_count ∙ sym parts.s2r_count),
        parts.s1_count,
        parts.s1r_count,
      )

  pub free_served : (w : ℕ → ℕ) (g : ℕ × ℕ → ℕ) → ((x : ℕ) → w x ≤ 1) → (gone : List ℕ) → (others : Beside known (all_pairs reached.seats a))
      → (left : Beside gone (downfloaters facts reached a)) → AllByRecursion (λ pair. in_both w pair ≤ 1 + g pair) others.others
      → (sum_by w reached.seats - sum_by (in_both w) known) - sum_by w gone
      ≤ ((shape.pairs - length known) + ((length reached.seats - 2 * shape.pairs) - length gone)) + sum_by g others.others
  free_served w g one gone others left each =
      let seats : List ℕ = reached.seats in
      let down : List ℕ = downfloaters facts reached a in
      omega (
        arith,
        bracket_whole w facts reached shape a within m,
        bracket_whole (λ x. 1) facts reached shape a within m,
        total_sum w seats,
        pairs_sum w (all_pairs seats a),
        total_sum w down,
        sum_beside w gone down left,
        length_beside gone down left,
        total_sum w left.others,
        total_few w one left.others,
        two_each (all_pairs seats a),
        total_length down,
        total_length seats,
        pairs_made,
        sum_beside (in_both w) known (all_pairs seats a) others,
        length_beside known (all_pairs seats a) others,
        pairs_serve (in_both w) g others.others each,
      )
