-- Where a table of pairs has two numbers: two pairs of numbers have two places.
use Rattle.std.proofs.Common.{◌≡◌, ℕ, ◌+◌, ◌-◌, ◌*◌, ◌<◌, ◌≤◌, inl, inr, ap, arith, mul_comm}
use Rattle.std.proofs.Math.Nat.{mul-le-mul_right}
use Rattle.std.proofs.lemmas.Bool.{cases_lt}
use Rattle.dutch_weighing.specs.Prelude.{place_of}

row : (n r s : ℕ) → r < s → r * n + n ≤ s * n
row n r s lt = let le : (r + 1) * n ≤ s * n = mul-le-mul_right n (omega arith) in omega (arith, le)

pub same_place : (n x y a b : ℕ) → (0 < x) × (x ≤ n) → (0 < y) × (y ≤ n) → (0 < a) × (a ≤ n) → (0 < b) × (b ≤ n)
    → place_of n a b ≡ place_of n x y → (a ≡ x) × (b ≡ y)
same_place n x y a b p q u v e =
    elim (cases_lt (a - 1) (x - 1)) [
      | inl lt ↦ absurd (let le = row n (a - 1) (x - 1) lt in omega (arith, le))
      | inr ge ↦ elim (cases_lt (x - 1) (a - 1)) [
        | inl lt ↦ absurd (let le = row n (x - 1) (a - 1) lt in omega (arith, le))
        | inr le ↦
            let rows : (a - 1) * n ≡ (x - 1) * n = ap (λ k. k * n) (let same : a - 1 ≡ x - 1 = omega arith in same) in
            (omega arith, omega (arith, rows))
      ]
    ]

pub inside : (n x y : ℕ) → (0 < x) × (x ≤ n) → (0 < y) × (y ≤ n) → place_of n x y < n * n
inside n x y p q = let le = row n (x - 1) n (omega arith) in omega (arith, le)

pub next_row : (n x : ℕ) → 0 < x → place_of n x 1 + n ≡ n * x
next_row n x some =
    let up : (x - 1 + 1) * n ≡ x * n = ap (λ k. k * n) (let e : x - 1 + 1 ≡ x = omega arith in e) in
    omega (arith, up, mul_comm n x)

-- a pair of two who are no greater stands before another one, unless it is the same one
pub before : (n x y f g : ℕ) → (0 < x) × (x ≤ n) → (0 < y) × (y ≤ n) → (0 < f) × (f ≤ x) → (0 < g) × (g ≤ y) → ¬ ((f ≡ x) × (g ≡ y))
    → place_of n f g < place_of n x y
before n x y f g p q u v other =
    elim (cases_lt (f - 1) (x - 1)) [
      | inl lt ↦ let le = row n (f - 1) (x - 1) lt in omega (arith, le)
      | inr ge ↦
          let same : f ≡ x = omega arith in
          let rows : (f - 1) * n ≡ (x - 1) * n = ap (λ k. (k - 1) * n) same in
          let lt : g < y = elim (cases_lt (g - 1) (y - 1)) [
            | inl lt ↦ omega (arith, lt)
            | inr le ↦ absurd (other (same, omega arith))
          ] in
          omega (arith, rows, lt)
    ]
