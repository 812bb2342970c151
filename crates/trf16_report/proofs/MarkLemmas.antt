-- Marks of which none is set, one of them that is set or taken away, and the places of some.
use Rattle.std.proofs.Common.{◌≡◌, ℕ, zero, suc, ◌+◌, ◌*◌, ◌<◌, ◌≤◌, Bool, true, false, cond, ◌&&◌, ◌||◌, ◌==◌, nat_eq, List, [], ◌∷◌, Option, Some, None, length, refl, sym, ap, ◌∙◌, nat_lt, slice_index_or, get_or, inl, inr, ◌≢◌, arith}
use Rattle.std.specs.List.{AllClonesOf, IsDistinct, position, position_from}
use Rattle.std.specs.Option.{option_map_or}
use Rattle.std.proofs.Math.ListN.{set}
use Rattle.std.proofs.Math.Nat.{mul-suc, mul-le-mul_left}
use Rattle.std.proofs.Math.Bool.{or-true, or-false, and-true, and-false}
use Rattle.std.proofs.lemmas.Bool.{cases_lt, cases_order, eq-eqb, ne_eqb, eqb-true}
use Rattle.std.proofs.lemmas.Bool.Decides.{eqb_tells, nat_tests}
use Rattle.std.proofs.lemmas.Grind.{get_or-set_at}
use Rattle.std.proofs.lemmas.Iterator.Adapters.{position_from-zero}
use Rattle.std.proofs.lemmas.List.{get_or-set_other, set-get_or}
use Rattle.std.proofs.lemmas.List.Quantifiers.{position-Some}
use Rattle.std.proofs.lemmas.Map.Keys.{apart_from_distinct}

-- whatever is a clone of false is false
pub none_marked : (marks : List Bool) (i : ℕ) → AllClonesOf (λ x y. y ≡ x) false marks → slice_index_or marks i false ≡ false
none_marked [] i all = refl
none_marked (mark ∷ marks) zero (inl same, rest) = same
none_marked (mark ∷ marks) zero (inr same, rest) = same
none_marked (mark ∷ marks) (suc i) (here, rest) = none_marked marks i rest

-- a place in a later row of n stands behind each in an earlier one
row_behind : (n i j k l : ℕ) → j < n → i < k → n * i + j < n * k + l
row_behind n i j k l room lt =
    let next : n * suc i ≤ n * k = mul-le-mul_left n (omega arith) in
    let one : n * suc i ≡ n * i + n = mul-suc n i in
    omega (arith, next, one, room)

-- a place among n rows of n is below all that there are
pub in_rows : (n i j : ℕ) → i < n → j < n → n * i + j < n * n
in_rows n i j lt room =
    let next : n * suc i ≤ n * n = mul-le-mul_left n (omega arith) in
    let one : n * suc i ≡ n * i + n = mul-suc n i in
    omega (arith, next, one, room)

-- a mark is set in its row and place alone
pub marked_at : (marks : List Bool) (n i j k l : ℕ) → j < n → l < n → n * i + j < length marks
    → slice_index_or (set marks (n * i + j) true) (n * k + l) false ≡ (slice_index_or marks (n * k + l) false || ((i == k) && (j == l)))
marked_at marks n i j k l room room' within =
    elim (eqb_tells i k) [
      | inl row ↦
          elim (eqb_tells j l) [
            | inl place ↦
                let same : n * k + l ≡ n * i + j = ap (λ r. n * r + l) (sym row.1) ∙ ap (λ p. n * i + p) (sym place.1) in
                get_or-set_at marks (n * i + j) (n * k + l) true false same within
                ∙ sym (rw (row.0, place.0) (or-true (slice_index_or marks (n * k + l) false)))
            | inr other ↦
                let not : n * k + l ≢ n * i + j = (λ e. other.1 (let rows : n * i ≡ n * k = ap (λ r. n * r) row.1 in omega (arith, e, rows))) in
                get_or-set_other marks (n * i + j) (n * k + l) true false not
                ∙ sym (rw (row.0, other.0) (or-false (slice_index_or marks (n * k + l) false)))
          ]
      | inr other ↦
          let not : n * k + l ≢ n * i + j = (λ e. elim (cases_lt i k) [
            | inl below ↦ let lt : n * i + j < n * k + l = row_behind n i j k l room below in omega (arith, e, lt)
            | inr above ↦
                let below : k < i = (let ne : i ≢ k = other.1 in grind arith) in
                let lt : n * k + l < n * i + j = row_behind n k l i j room' below in omega (arith, e, lt)
          ]) in
          get_or-set_other marks (n * i + j) (n * k + l) true false not
          ∙ sym (rw (other.0) (or-false (slice_index_or marks (n * k + l) false)))
    ]

-- a mark joined by another in its row and place alone
pub joined_at : (marks : List Bool) (n i j k l : ℕ) (v : Bool) → j < n → l < n → n * i + j < length marks
    → slice_index_or (set marks (n * i + j) (slice_index_or marks (n * i + j) false || v)) (n * k + l) false
    ≡ (slice_index_or marks (n * k + l) false || ((i == k) && ((j == l) && v)))
joined_at marks n i j k l true room room' within =
    ap (λ v. slice_index_or (set marks (n * i + j) v) (n * k + l) false) (or-true (slice_index_or marks (n * i + j) false))
    ∙ marked_at marks n i j k l room room' within
    ∙ ap (λ b. slice_index_or marks (n * k + l) false || ((i == k) && b)) (sym (and-true (j == l)))
joined_at marks n i j k l false room room' within =
    ap (λ v. slice_index_or (set marks (n * i + j) v) (n * k + l) false) (or-false (slice_index_or marks (n * i + j) false))
    ∙ ap (λ (xs : List Bool). slice_index_or xs (n * k + l) false) (set-get_or marks (n * i + j) false)
    ∙ sym (ap (λ b. slice_index_or marks (n * k + l) false || ((i == k) && b)) (and-false (j == l))
    ∙ ap (λ b. slice_index_or marks (n * k + l) false || b) (and-false (i == k)) ∙ or-false (slice_index_or marks (n * k + l) false))

same_in_front : (n k : ℕ) → n ≢ k → nat_lt k (n + 1) ≡ nat_lt k n
same_in_front n k other = grind (arith, nat_tests)

-- those in front of a place, and the one at it
pub row_more : (named : List Bool) (p l : ℕ) (before row : Bool)
    → ((before || (row && (nat_lt l p && slice_index_or named l false))) || (row && ((p == l) && slice_index_or named p false)))
    ≡ (before || (row && (nat_lt l (p + 1) && slice_index_or named l false)))
row_more named p l true row = refl
row_more named p l false false = refl
row_more named p l false true =
    elim (eqb_tells p l) [
      | inl same ↦
          let last : nat_lt l (p + 1) ≡ true = (let is : p ≡ l = same.1 in grind (arith, nat_tests)) in
          let front : nat_lt l p ≡ false = (let is : p ≡ l = same.1 in grind (arith, nat_tests)) in
          let value : slice_index_or named p false ≡ slice_index_or named l false = ap (λ k. slice_index_or named k false) same.1 in
          rw (last, front, same.0) value
      | inr other ↦ rw (other.0, same_in_front p l other.1) (or-false (nat_lt l p && slice_index_or named l false))
    ]

-- a key that is nowhere is not at a place, and one is at one place alone
none_here : {X : Type 0} (t : X → Bool) (i : ℕ) (x : X) (xs : List X) → position_from t i (x ∷ xs) ≡ None → (t x ≡ false) × (position_from t (i + 1) xs ≡ None)
none_here t i x xs e = by (t x) refl e
  where
    by : (b : Bool) → t x ≡ b → cond b (Some i) (position_from t (i + 1) xs) ≡ None → (t x ≡ false) × (position_from t (i + 1) xs ≡ None)
    by true is e = absurd (cc)
    by false is e = (is, e)

pub none_from : {X : Type 0} (t : X → Bool) (i : ℕ) (xs : List X) (k : ℕ) (d : X) → position_from t i xs ≡ None → k < length xs → t (get_or xs k d) ≡ false
none_from t i [] k d e lt = absurd (omega arith)
none_from t i (x ∷ xs) zero d e lt = (none_here t i x xs e).0
none_from t i (x ∷ xs) (suc k) d e lt = none_from t (i + 1) xs k d (none_here t i x xs e).1 (omega arith)

pub place_tells : (keys : List ℕ) (start k : ℕ) (found : Option ℕ) → IsDistinct nat_eq keys → found ≡ position (nat_eq start) keys → k < length keys
    → option_map_or (λ place. place == k) found false ≡ (start == slice_index_or keys k 0)
place_tells keys start k None distinct e lt = sym (none_from (nat_eq start) 0 keys k 0 (sym (position_from-zero (nat_eq start) keys) ∙ sym e) lt)
place_tells keys start k (Some i) distinct e lt =
    let found = position-Some (nat_eq start) keys i 0 (sym e) in
    elim (cases_order i k) [
      | inl same ↦ eq-eqb i k same ∙ sym (ap (λ j. nat_eq start (slice_index_or keys j 0)) (sym same) ∙ found.1)
      | inr other ↦
          elim other [
            | inl below ↦
                ne_eqb i k (λ same. omega arith)
                ∙ sym (ap (λ s. nat_eq s (slice_index_or keys k 0)) (eqb-true start (slice_index_or keys i 0) found.1) ∙ apart_from_distinct nat_eq keys i k 0 distinct below lt)
            | inr above ↦ ne_eqb i k (λ same. omega arith) ∙ sym (found.2 k above)
          ]
    ]
