-- One mark of a path's numbers is flipped, and the others stay; and a mark tells whether a number comes in a list where none comes twice.
use Rattle.std.proofs.Common.{◌≡◌, ℕ, ◌*◌, ◌/◌, ◌%◌, ◌^◌, ◌+◌, ◌<◌, Bool, true, false, not, ◌||◌, if◌then◌else◌, List, [], ◌∷◌, ◌++◌, set, length, replicate, ◌==◌, eqb, ◌∙◌, ap, sym, refl, inl, inr, arith, zero, suc}
use Rattle.std.proofs.lemmas.Bool.{cases_eq, cases_lt, false_from_ne_true, eq-eqb, ne_eqb}
use Rattle.std.proofs.lemmas.List.{get_or-set_same, get_or-set_other, get_or-replicate, get_or_past, length-replicate}
use Rattle.std.proofs.lemmas.Nat.{one_shl}
use Rattle.std.proofs.lemmas.Nat.Bits.{bit_at-zero, bit_at-lt, bit_at_xor, bit_at-pow_same, bit_at-pow_other}
use Rattle.std.specs.Prelude.{bit_xor, slice_index}
use Rattle.std.specs.Int.{bit_at}
use Rattle.std.specs.List.{list_any}
use Rattle.dutch_sequence.specs.Prelude.{has_mark, stands_oddly, HasEachOnce, IsIn}
use Rattle.dutch_sequence.proofs.Orders.{IsIn-append}

pub none_marked : (n i : ℕ) → has_mark (replicate n 0) i ≡ false
unfolding has_mark
none_marked n i =
    let word : slice_index (replicate n 0) (i / 64) ≡ 0 =
    elim (cases_lt (i / 64) n) [ inl lt ↦ get_or-replicate n (i / 64) 0 0 lt | inr le ↦ get_or_past (replicate n 0) (i / 64) 0 (omega (arith, length-replicate {A = ℕ} n 0)) ] in
    ap (λ w. bit_at w (i % 64) == 1) word ∙ ap (λ b. b == 1) (bit_at-zero (i % 64))

-- a bit of two is flipped
flipped : (b c : ℕ) → b < 2 → c ≡ (b + 1) % 2 → (c == 1) ≡ not (b == 1)
flipped zero c low is = ap (λ n. n == 1) is
flipped (suc zero) c low is = ap (λ n. n == 1) is
flipped (suc (suc b)) c low is = absurd (omega (arith, low))

flip_same : (word k : ℕ) → k < 64 → (bit_at (bit_xor word (1 * 2 ^ k % 18446744073709551616)) k == 1) ≡ not (bit_at word k == 1)
flip_same word k low =
    flipped (bit_at word k) (bit_at (bit_xor word (1 * 2 ^ k % 18446744073709551616)) k) (bit_at-lt word k)
    (ap (λ m. bit_at (bit_xor word m) k) (one_shl k 64 low) ∙ bit_at_xor word (2 ^ k) k ∙ ap (λ b. (bit_at word k + b) % 2) (bit_at-pow_same k))

flip_other : (word k i : ℕ) → k < 64 → (i ≡ k → ⊥) → bit_at (bit_xor word (1 * 2 ^ k % 18446744073709551616)) i ≡ bit_at word i
flip_other word k i low apart =
    ap (λ m. bit_at (bit_xor word m) i) (one_shl k 64 low)
    ∙ bit_at_xor word (2 ^ k) i
    ∙ omega (arith, bit_at-pow_other k i apart, bit_at-lt word i)

-- the words with one mark flipped
abbrev with_flipped : List ℕ → ℕ → List ℕ
with_flipped marks number = set marks (number / 64) (bit_xor (slice_index marks (number / 64)) (1 * 2 ^ (number % 64) % 18446744073709551616))

mark_flipped : (marks : List ℕ) (number : ℕ) → number / 64 < length marks → has_mark (with_flipped marks number) number ≡ not (has_mark marks number)
unfolding has_mark
mark_flipped marks number lt =
    ap (λ w. bit_at w (number % 64) == 1) (get_or-set_same marks (number / 64) (bit_xor (slice_index marks (number / 64)) (1 * 2 ^ (number % 64) % 18446744073709551616)) 0 lt)
    ∙ flip_same (slice_index marks (number / 64)) (number % 64) (omega arith)

same_word : (marks : List ℕ) (number i : ℕ) → number / 64 < length marks → i / 64 ≡ number / 64 → (i ≡ number → ⊥) → has_mark (with_flipped marks number) i ≡ has_mark marks i
unfolding has_mark
same_word marks number i lt same other =
    ap (λ k. bit_at (slice_index (with_flipped marks number) k) (i % 64) == 1) same
    ∙ ap (λ w. bit_at w (i % 64) == 1) (get_or-set_same marks (number / 64) (bit_xor (slice_index marks (number / 64)) (1 * 2 ^ (number % 64) % 18446744073709551616)) 0 lt)
    ∙ ap (λ b. b == 1) (flip_other (slice_index marks (number / 64)) (number % 64) (i % 64) (omega arith) (λ e. other (omega (arith, e, same))))
    ∙ ap (λ k. bit_at (slice_index marks k) (i % 64) == 1) (sym same)

mark_kept : (marks : List ℕ) (number i : ℕ) → number / 64 < length marks → (i ≡ number → ⊥) → has_mark (with_flipped marks number) i ≡ has_mark marks i
unfolding has_mark
mark_kept marks number i lt other =
    elim (cases_eq (i / 64) (number / 64)) [
      | inl same ↦ same_word marks number i lt same other
      | inr apart ↦ ap (λ w. bit_at w (i % 64) == 1) (get_or-set_other marks (number / 64) (i / 64) (bit_xor (slice_index marks (number / 64)) (1 * 2 ^ (number % 64) % 18446744073709551616)) 0 apart)
    ]

-- the mark of one number is flipped, as its code does it
pub one_flipped : (marks : List ℕ) (number i : ℕ) → number / 64 < length marks → has_mark (with_flipped marks number) i ≡ (if number == i then not (has_mark marks i) else has_mark marks i)
one_flipped marks number i lt =
    elim (cases_eq number i) [
      | inl same ↦
          ap (has_mark (with_flipped marks number)) (sym same)
          ∙ mark_flipped marks number lt
          ∙ ap (λ n. not (has_mark marks n)) same
          ∙ ap (λ b. if b then not (has_mark marks i) else has_mark marks i) (sym (eq-eqb number i same))
      | inr apart ↦
          mark_kept marks number i lt (λ e. apart (sym e))
          ∙ ap (λ b. if b then not (has_mark marks i) else has_mark marks i) (sym (ne_eqb number i apart))
    ]

swapped : (b c d : Bool) → (if b then not (if c then not d else d) else (if c then not d else d)) ≡ (if c then not (if b then not d else d) else (if b then not d else d))
swapped true true d = refl
swapped true false d = refl
swapped false true d = refl
swapped false false d = refl

-- a number that is put behind a list
pub oddly-push : (i : ℕ) (path : List ℕ) (number : ℕ) → stands_oddly i (path ++ number ∷ []) ≡ (if number == i then not (stands_oddly i path) else stands_oddly i path)
oddly-push i [] number = refl
oddly-push i (x ∷ path) number =
    ap (λ b. if x == i then not b else b) (oddly-push i path number)
    ∙ swapped (x == i) (number == i) (stands_oddly i path)

back : (b d : Bool) → (if b then not (if b then not d else d) else (if b then not d else d)) ≡ d
back true true = refl
back true false = refl
back false d = refl

-- and one that is taken back
pub oddly-pop : (i : ℕ) (path : List ℕ) (number : ℕ) → (if number == i then not (stands_oddly i (path ++ number ∷ [])) else stands_oddly i (path ++ number ∷ [])) ≡ stands_oddly i path
oddly-pop i path number =
    ap (λ b. if number == i then not b else b) (oddly-push i path number) ∙ back (number == i) (stands_oddly i path)

-- a number that is found in a list is in it
any-in : (i : ℕ) (xs : List ℕ) → list_any (eqb i) xs ≡ true → IsIn i xs
any-in i [] found = cc
any-in i (x ∷ xs) found =
    elim (cases_eq i x) [
      | inl same ↦ inl same
      | inr apart ↦ inr (any-in i xs (ap (λ b. b || list_any (eqb i) xs) (sym (ne_eqb i x apart)) ∙ found))
    ]

-- where no number comes twice, one that comes an odd number of times is one that is there
pub oddly-once : (i : ℕ) (xs : List ℕ) → HasEachOnce xs → stands_oddly i xs ≡ list_any (eqb i) xs
oddly-once i [] once = refl
oddly-once i (x ∷ xs) once =
    elim (cases_eq x i) [
      | inl same ↦
          let out : list_any (eqb i) xs ≡ false = ap (λ n. list_any (eqb n) xs) (sym same) ∙ false_from_ne_true (list_any (eqb x) xs) (λ found. once.0 (any-in x xs found)) in
          ap (λ b. if b then not (stands_oddly i xs) else stands_oddly i xs) (eq-eqb x i same)
          ∙ ap not (oddly-once i xs once.1 ∙ out)
          ∙ ap (λ b. b || list_any (eqb i) xs) (sym (eq-eqb i x (sym same)))
      | inr apart ↦
          ap (λ b. if b then not (stands_oddly i xs) else stands_oddly i xs) (ne_eqb x i apart)
          ∙ oddly-once i xs once.1
          ∙ ap (λ b. b || list_any (eqb i) xs) (sym (ne_eqb i x (λ e. apart (sym e))))
    ]

later_none : (b c : Bool) → (b || c) ≡ false → c ≡ false
later_none true c none = cc
later_none false c none = none

in-any : (i : ℕ) (xs : List ℕ) → list_any (eqb i) xs ≡ false → IsIn i xs → ⊥
in-any i [] none there = there
in-any i (x ∷ xs) none (inl same) =
    let found : true ≡ false = ap (λ b. b || list_any (eqb i) xs) (sym (eq-eqb i x same)) ∙ none in cc
in-any i (x ∷ xs) none (inr later) = in-any i xs (later_none (eqb i x) (list_any (eqb i) xs) none) later

-- a number that is not in a list yet is put behind it
pub once-push : (xs : List ℕ) (i : ℕ) → HasEachOnce xs → list_any (eqb i) xs ≡ false → HasEachOnce (xs ++ i ∷ [])
once-push [] i once none = ((λ there. there), tt)
once-push (x ∷ xs) i once none = (
  λ there. elim (IsIn-append x xs (i ∷ []) there) [
    | inl front ↦ once.0 front
    | inr (inl same) ↦ in-any i (x ∷ xs) none (inl (sym same))
    | inr (inr never) ↦ never
  ],
  once-push xs i once.1 (later_none (eqb i x) (list_any (eqb i) xs) none),
)
