-- Sums over the pairs of two lists and over those whom a list passes over, one step on.
use Rattle.std.proofs.Common.{◌≡◌, ℕ, suc, ◌+◌, ◌-◌, ◌<◌, ◌≤◌, Bool, true, false, cond, List, ◌∷◌, drop, drop-cons, get_or, length, sum_by, inl, inr, sym, ap, ◌∙◌, min, arith}
use Rattle.std.specs.List.{zip}
use Rattle.std.proofs.lemmas.List.{drop_all, drop-drop}
use Rattle.std.proofs.lemmas.List.Sums.{sum_by-cons}
use Rattle.dutch_bracket.specs.Prelude.{one_if}
use Rattle.dutch_weight_floors.specs.Prelude.{is_first, passed_over}
use Rattle.dutch_weighing.proofs.CandidateMatchings.{zip_none}
use Rattle.dutch_weight_floors.proofs.WeightsBehind.{at_met, at_none}
use Rattle.dutch_weighing.proofs.WrittenNumbers.{at_most}

shorter : (m n i : ℕ) → min m n ≤ i → n < m → n ≤ i
shorter m n i done less = omega (arith, done, less)

-- no pair is to come at the end of the shorter list
pub no_pair : (f : ℕ × ℕ → ℕ) (xs ys : List ℕ) (i : ℕ) → min (length xs) (length ys) ≤ i → sum_by f (zip (drop i xs) (drop i ys)) ≡ 0
no_pair f xs ys i done = elim (at_most (length xs) (length ys)) [
  | inl le ↦ ap (λ (zs : List ℕ). sum_by f (zip zs (drop i ys))) (drop_all i xs (omega (arith, done, le)))
  | inr less ↦
      ap (λ (zs : List ℕ). sum_by f (zip (drop i xs) zs)) (drop_all i ys (shorter (length xs) (length ys) i done less)) ∙ ap (sum_by f) (zip_none (drop i xs))
]

-- one pair more is of the two next numbers
pub one_pair : (f : ℕ × ℕ → ℕ) (xs ys : List ℕ) (i count : ℕ) → i < count → count ≡ min (length xs) (length ys)
    → sum_by f (zip (drop i xs) (drop i ys)) ≡ f (get_or xs i 0, get_or ys i 0) + sum_by f (zip (drop (i + 1) xs) (drop (i + 1) ys))
one_pair f xs ys i count more is =
    let x : drop i xs ≡ get_or xs i 0 ∷ drop (suc i) xs = drop-cons xs i 0 (omega (arith, more, is)) in
    let y : drop i ys ≡ get_or ys i 0 ∷ drop (suc i) ys = drop-cons ys i 0 (omega (arith, more, is)) in
    ap (λ (zs : List ℕ). sum_by f (zip zs (drop i ys))) x
    ∙ ap (λ (zs : List ℕ). sum_by f (zip (get_or xs i 0 ∷ drop (suc i) xs) zs)) y
    ∙ sum_by-cons f (get_or xs i 0, get_or ys i 0) (zip (drop (suc i) xs) (drop (suc i) ys))
    ∙ ap (λ k. f (get_or xs i 0, get_or ys i 0) + sum_by f (zip (drop k xs) (drop k ys))) (let e : suc i ≡ i + 1 = omega arith in e)

-- one number more is the next one, and none is to come at the end
pub one_number : (f : ℕ → ℕ) (xs : List ℕ) (i : ℕ) → i < length xs → sum_by f (drop i xs) ≡ f (get_or xs i 0) + sum_by f (drop (i + 1) xs)
one_number f xs i more =
    let x : drop i xs ≡ get_or xs i 0 ∷ drop (suc i) xs = drop-cons xs i 0 more in
    ap (sum_by f) x
    ∙ sum_by-cons f (get_or xs i 0) (drop (suc i) xs)
    ∙ ap (λ k. f (get_or xs i 0) + sum_by f (drop k xs)) (let e : suc i ≡ i + 1 = omega arith in e)

pub no_number : (f : ℕ → ℕ) (xs : List ℕ) (i : ℕ) → length xs ≤ i → sum_by f (drop i xs) ≡ 0
no_number f xs i done = ap (sum_by f) (drop_all i xs done)

module _ (f : ℕ → ℕ) (list : List ℕ) (met first count : ℕ) where
  step_at : (t : Bool) → is_first first (drop met list) ≡ t
      → sum_by f (passed_over (drop met list) first (suc count)) ≡ cond t 0 (f first) + sum_by f (passed_over (drop (met + one_if t) list) (suc first) count)
  step_at true t =
      let met' = ap (sum_by f) (at_met (drop met list) first count t) in
      let dropped = ap (λ (rest : List ℕ). sum_by f (passed_over rest (suc first) count)) (drop-drop 1 met list) in
      omega (arith, met', dropped)
  step_at false t =
      ap (sum_by f) (at_none (drop met list) first count t)
      ∙ sum_by-cons f first (passed_over (drop met list) (suc first) count)
      ∙ ap (λ k. f first + sum_by f (passed_over (drop k list) (suc first) count)) (let e : met ≡ met + 0 = omega arith in e)

-- one more is met, or passed over and added
pub one_more : (f : ℕ → ℕ) (list : List ℕ) (met above mdps : ℕ) (t : Bool) → above < mdps → t ≡ is_first (above + 1) (drop met list)
    → sum_by f (passed_over (drop met list) (above + 1) (mdps - above))
    ≡ cond t 0 (f (above + 1)) + sum_by f (passed_over (drop (met + one_if t) list) ((above + 1) + 1) (mdps - (above + 1)))
one_more f list met above mdps t more is =
    ap (λ n. sum_by f (passed_over (drop met list) (above + 1) n)) (let e : mdps - above ≡ suc (mdps - (above + 1)) = omega (arith, more) in e)
    ∙ step_at f list met (above + 1) (mdps - (above + 1)) t (sym is)
    ∙ ap (λ k. cond t 0 (f (above + 1)) + sum_by f (passed_over (drop (met + one_if t) list) k (mdps - (above + 1)))) (let e : suc (above + 1) ≡ (above + 1) + 1 = omega arith in e)

pub at_most_one : (t : Bool) → one_if t ≤ 1
at_most_one true = omega arith
at_most_one false = omega arith
