-- Whom an arrangement pairs and whom it leaves over are the players of its bracket, each once: they weigh the same.
use Rattle.std.proofs.Common.{◌≡◌, ℕ, ◌+◌, ◌-◌, ◌≤◌, List, [], ◌∷◌, ◌++◌, map, length, get_or, refl, sym, ap, ◌∙◌, arith}
use Rattle.std.proofs.lemmas.List.{length-map}
use Rattle.dutch_arrangements.specs.declared.bracket.Shape.{Shape}
use Rattle.dutch_arrangements.specs.Prelude.{numbers_from, IsIn, Frame, Arrangement, down, left_of, residents_of, remainder_pairs, arrangements}
use Rattle.dutch_sequence.proofs.Lists.{map-numbers_from}
use Rattle.dutch_sequence.proofs.Members.{length-numbers, numbers-append}
use Rattle.dutch_player.specs.Prelude.{Facts}
use Rattle.dutch_bracket.specs.Prelude.{seat_of, score_at, pairs_of, all_pairs, Reached, frame_of, downfloaters}
use Rattle.dutch_bracket.proofs.ArrangementParts.{subset_whole, numbers_rise, lists_of, residents_whole, parts_of}
use Rattle.dutch_bracket.proofs.PsdParts.{down_parts}
use Rattle.dutch_bracket.proofs.Totals.{total, total_append, total_length, total_map}

module _ (w : ℕ → ℕ) where
  -- the four lists of an arrangement
  abbrev pub paired_total : Arrangement → ℕ
  paired_total a = (total w a.s1 + total w a.s2) + (total w a.s1r + total w a.s2r)

  pub arranged : (frame : Frame) (shape : Shape) (a : Arrangement) → frame.mdps ≤ length frame.scores → IsIn a (arrangements frame shape)
      → total w (down frame a) + paired_total a ≡ total w (numbers_from 1 (length frame.scores))
  arranged frame shape a inside m =
      let q = frame.mdps in
      let n = length frame.scores in
      let lists = lists_of frame shape a inside m in
      let low : List ℕ = numbers_from 1 q in
      let pool : List ℕ = residents_of frame in
      let left = ap (total w) (down_parts frame shape.mdps (remainder_pairs shape) a inside (parts_of frame shape a inside m)) in
      let both = total_append w (left_of low a.s1) (left_of (left_of (left_of pool a.s2) a.s1r) a.s2r) in
      let whole : numbers_from 1 n ≡ low ++ pool =
      ap (numbers_from 1) (let e : n ≡ q + (n - q) = omega arith in e) ∙ numbers-append 1 q (n - q) ∙ ap (λ k. low ++ numbers_from k (n - q)) (let e : 1 + q ≡ q + 1 = omega arith in e) in
      let halves = ap (total w) whole ∙ total_append w low pool in
      omega (arith, subset_whole w low shape.mdps a.s1 (numbers_rise 1 q) lists.s1, residents_whole w frame shape a lists, left, both, halves)

-- how many they are
pub how_many : (frame : Frame) (shape : Shape) (a : Arrangement) → frame.mdps ≤ length frame.scores → IsIn a (arrangements frame shape)
    → length (down frame a) + ((length a.s1 + length a.s2) + (length a.s1r + length a.s2r)) ≡ length frame.scores
how_many frame shape a inside m =
    omega (
      arith,
      arranged (λ x. 1) frame shape a inside m,
      total_length (down frame a),
      total_length a.s1,
      total_length a.s2,
      total_length a.s1r,
      total_length a.s2r,
      total_length (numbers_from 1 (length frame.scores)),
      length-numbers 1 (length frame.scores),
    )

-- the seats of some pairs
abbrev pub pairs_total : (ℕ → ℕ) → List (ℕ × ℕ) → ℕ
pairs_total w [] = 0
pairs_total w (pair ∷ pairs) = (w pair.0 + w pair.1) + pairs_total w pairs

pub pairs_append : (w : ℕ → ℕ) (xs ys : List (ℕ × ℕ)) → pairs_total w (xs ++ ys) ≡ pairs_total w xs + pairs_total w ys
pairs_append w [] ys = omega arith
pairs_append w (x ∷ xs) ys = omega (arith, pairs_append w xs ys)

module _ (w : ℕ → ℕ) (seats : List ℕ) where
  -- a number weighs what its seat does
  abbrev pub seated : ℕ → ℕ
  seated number = w (seat_of seats number)

  pairs_seated : (firsts seconds : List ℕ) → length firsts ≡ length seconds
      → pairs_total w (pairs_of seats firsts seconds) ≡ total seated firsts + total seated seconds
  pairs_seated [] [] equal = refl
  pairs_seated [] (b ∷ seconds) equal = absurd (omega arith)
  pairs_seated (a ∷ firsts) [] equal = absurd (omega arith)
  pairs_seated (a ∷ firsts) (b ∷ seconds) equal = omega (arith, pairs_seated firsts seconds (omega arith))

  -- the numbers of a bracket are those of its seats
  numbers_seated : total w seats ≡ total seated (numbers_from 1 (length seats))
  numbers_seated =
      let whole : map (seat_of seats) (numbers_from 1 (length seats)) ≡ seats =
      map-numbers_from (seat_of seats) seats 1 (λ j lt. ap (λ k. get_or seats k 0) (let e : (1 + j) - 1 ≡ j = omega arith in e)) in
      ap (total w) (sym whole) ∙ total_map w (seat_of seats) (numbers_from 1 (length seats))

module _ (w : ℕ → ℕ) (facts : Facts) (reached : Reached) where
  -- the pairs of an arrangement of a bracket, and those whom it leaves over
  pub bracket_whole : (shape : Shape) (a : Arrangement) → reached.mdps ≤ length reached.seats → IsIn a (arrangements (frame_of facts reached) shape)
      → pairs_total w (all_pairs reached.seats a) + total w (downfloaters facts reached a) ≡ total w reached.seats
  bracket_whole shape a within m =
      let frame : Frame = frame_of facts reached in
      let seats : List ℕ = reached.seats in
      let counted : length frame.scores ≡ length seats = length-map seats (score_at facts) in
      let inside : frame.mdps ≤ length frame.scores = omega (arith, within, counted) in
      let parts = parts_of frame shape a inside m in
      let firsts = pairs_seated w seats a.s1 a.s2 (parts.s1_count ∙ sym parts.s2_count) in
      let others = pairs_seated w seats a.s1r a.s2r (parts.s1r_count ∙ sym parts.s2r_count) in
      let both = pairs_append w (pairs_of seats a.s1 a.s2) (pairs_of seats a.s1r a.s2r) in
      let floats = total_map w (seat_of seats) (down frame a) in
      let count = ap (λ n. total (seated w seats) (numbers_from 1 n)) counted in
      omega (arith, arranged (seated w seats) frame shape a inside m, firsts, others, both, floats, count, numbers_seated w seats)
