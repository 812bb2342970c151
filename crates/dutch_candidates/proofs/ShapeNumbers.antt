-- Numbers of a bracket and of a shape that fits it: how many they are at most (C.04.3 B.3).
use Rattle.std.proofs.Common.{◌≡◌, ℕ, ◌+◌, ◌≤◌, true, List, length, ap, arith}
use Rattle.std.proofs.lemmas.Bool.{leb-true, and_parts}
use Rattle.std.proofs.lemmas.List.{length-map}
use Rattle.dutch_arrangements.specs.declared.bracket.Shape.{Shape}
use Rattle.dutch_arrangements.specs.Prelude.{Arrangement, Fits, remainder_pairs, numbers_from}
use Rattle.dutch_sequence.proofs.Members.{length-numbers}
use Rattle.dutch_sequence.specs.declared.numbers.TheConstants.{LIMIT}
use Rattle.dutch_player.specs.Prelude.{Facts}
use Rattle.dutch_bracket.specs.Prelude.{Reached, IsOf, frame_of, score_at, residents_down, HasFewPairs, is_of_shape}

pub small_pairs : (facts : Facts) (reached : Reached) (shape : Shape) → Fits (frame_of facts reached) shape → IsOf facts reached → shape.pairs ≤ LIMIT
small_pairs facts reached shape fits of =
    omega (arith, length-map reached.seats (score_at facts), of.sound.few, fits.residents_enough)

pub small_mdps : (facts : Facts) (reached : Reached) (shape : Shape) → Fits (frame_of facts reached) shape → IsOf facts reached → shape.mdps ≤ LIMIT
small_mdps facts reached shape fits of =
    omega (arith, fits.within_pairs, small_pairs facts reached shape fits of)

pub has_room : (facts : Facts) (reached : Reached) (shape : Shape) (count : ℕ) → Fits (frame_of facts reached) shape → IsOf facts reached → count ≤ shape.mdps
    → (count + reached.mdps) + (remainder_pairs shape + residents_down reached shape) ≤ LIMIT
has_room facts reached shape count fits of le =
    omega (arith, length-map reached.seats (score_at facts), of.sound.few, of.sound.within, fits.residents_enough, le)

-- how long lists that have room in a shape are
counts_fit : (shape : Shape) (lists : Arrangement) → is_of_shape shape lists ≡ true
    → (length lists.s1 ≤ shape.mdps) × (length lists.s2 ≤ length lists.s1) × (length lists.s1r ≤ remainder_pairs shape) × (length lists.s2r ≤ length lists.s1r)
counts_fit shape lists e =
    let counts = and_parts _ _ e in
    let first = and_parts _ _ counts.0 in
    let second = and_parts _ _ counts.1 in (
      leb-true (length lists.s1) shape.mdps first.0,
      leb-true (length lists.s2) (length lists.s1) first.1,
      leb-true (length lists.s1r) (remainder_pairs shape) second.0,
      leb-true (length lists.s2r) (length lists.s1r) second.1,
    )

pub first_few : (shape : Shape) (lists : Arrangement) → is_of_shape shape lists ≡ true → length lists.s1 ≤ shape.mdps
first_few shape lists e = (counts_fit shape lists e).0

pub numbers_fit : (facts : Facts) (reached : Reached) (shape : Shape) (lists : Arrangement) → Fits (frame_of facts reached) shape → IsOf facts reached
    → is_of_shape shape lists ≡ true → HasFewPairs lists
numbers_fit facts reached shape lists fits of e =
    let counts = counts_fit shape lists e in
    let small = small_pairs facts reached shape fits of in
    let less : shape.mdps ≤ shape.pairs = fits.within_pairs in
    record {
      moved_down = counts.1;
      residents = counts.3;
      few = omega (arith, counts.0, counts.1, counts.2, counts.3, small, less);
      few_first = omega (arith, counts.2, small, less);
    }

-- the first S1 has as many as are to be paired
pub first_length : (shape : Shape) (xs : List ℕ) → xs ≡ numbers_from 1 shape.mdps → length xs ≤ shape.mdps
first_length shape xs e = omega (arith, ap length e, length-numbers 1 shape.mdps)
