-- One bit of a table of bits is set, and the others stay.
use Rattle.std.proofs.Common.{◌≡◌, ℕ, ◌*◌, ◌/◌, ◌%◌, ◌^◌, ◌<◌, true, false, List, set, length, replicate, ◌==◌, ◌∙◌, ap, sym, inl, inr, arith, w64}
use Rattle.std.proofs.lemmas.Bool.{cases_eq, cases_lt}
use Rattle.std.proofs.lemmas.List.{get_or-set_same, get_or-set_other, get_or-replicate, get_or_past, length-replicate}
use Rattle.std.proofs.lemmas.Nat.Bits.{bit_at-zero, bit_at_set_same, bit_at_set_other}
use Rattle.std.specs.Prelude.{bit_or, slice_index}
use Rattle.std.specs.Int.{bit_at}
use Rattle.dutch_bracket.specs.Prelude.{has_bit}

pub none_set : (n i : ℕ) → has_bit (replicate n 0) i ≡ false
unfolding has_bit
none_set n i =
    let word : slice_index (replicate n 0) (i / 64) ≡ 0 =
    elim (cases_lt (i / 64) n) [ inl lt ↦ get_or-replicate n (i / 64) 0 0 lt | inr le ↦ get_or_past (replicate n 0) (i / 64) 0 (omega (arith, length-replicate {A = ℕ} n 0)) ] in
    ap (λ w. bit_at w (i % 64) == 1) word ∙ ap (λ b. b == 1) (bit_at-zero (i % 64))

-- the words with one bit set
abbrev with_bit : List ℕ → ℕ → List ℕ
with_bit words place = set words (place / 64) (bit_or (slice_index words (place / 64)) (1 * 2 ^ (place % 64) % 18446744073709551616))

pub bit_set : (words : List ℕ) (place : ℕ) → place / 64 < length words → has_bit (with_bit words place) place ≡ true
unfolding has_bit
bit_set words place lt =
    ap (λ w. bit_at w (place % 64) == 1) (get_or-set_same words (place / 64) (bit_or (slice_index words (place / 64)) (1 * 2 ^ (place % 64) % 18446744073709551616)) 0 lt)
    ∙ ap (λ b. b == 1) (bit_at_set_same w64 (slice_index words (place / 64)) (place % 64) (omega arith))

same_word : (words : List ℕ) (place i : ℕ) → place / 64 < length words → i / 64 ≡ place / 64 → (i ≡ place → ⊥) → has_bit (with_bit words place) i ≡ has_bit words i
unfolding has_bit
same_word words place i lt same other =
    ap (λ k. bit_at (slice_index (with_bit words place) k) (i % 64) == 1) same
    ∙ ap (λ w. bit_at w (i % 64) == 1) (get_or-set_same words (place / 64) (bit_or (slice_index words (place / 64)) (1 * 2 ^ (place % 64) % 18446744073709551616)) 0 lt)
    ∙ ap (λ b. b == 1) (bit_at_set_other w64 (slice_index words (place / 64)) (place % 64) (omega arith) (i % 64) (λ e. other (omega (arith, e, same))))
    ∙ ap (λ k. bit_at (slice_index words k) (i % 64) == 1) (sym same)

pub bit_kept : (words : List ℕ) (place i : ℕ) → place / 64 < length words → (i ≡ place → ⊥) → has_bit (with_bit words place) i ≡ has_bit words i
unfolding has_bit
bit_kept words place i lt other =
    elim (cases_eq (i / 64) (place / 64)) [
      | inl same ↦ same_word words place i lt same other
      | inr apart ↦ ap (λ w. bit_at w (i % 64) == 1) (get_or-set_other words (place / 64) (i / 64) (bit_or (slice_index words (place / 64)) (1 * 2 ^ (place % 64) % 18446744073709551616)) 0 apart)
    ]
