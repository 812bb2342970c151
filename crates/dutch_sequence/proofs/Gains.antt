-- Whoever is moved into a set of a rising pool stands behind whoever is moved out, and they are as many.
use Rattle.std.proofs.Common.{◌≡◌, ℕ, zero, suc, ◌+◌, ◌-◌, ◌<◌, ◌≤◌, List, [], ◌∷◌, map, length, ◌∙◌, ap, inl, inr, arith}
use Rattle.std.specs.List.Sorted.{IsStrictlyIncreasing}
use Rattle.std.proofs.lemmas.List.Kept.{AllPairs-from_increasing}
use Rattle.dutch_sequence.specs.declared.exchange.Side.TheVariants.{Out, In}
use Rattle.dutch_sequence.specs.Prelude.{subsets, IsIn, moved_out, moved_in, sum_of, total, value_of}
use Rattle.dutch_sequence.proofs.HalfWalks.{Climbs}
use Rattle.dutch_sequence.proofs.ExchangeSets.{exchange-of, set-is, moved_out-is, moved_in-is, sum_of-reverse, sum_of-map}
use Rattle.dutch_sequence.proofs.Orders.{IsIn-append, IsIn-map}

subset-short : (pool : List ℕ) (k : ℕ) (set : List ℕ) → IsIn set (subsets pool k) → k ≤ length pool
subset-short pool zero set m = omega arith
subset-short [] (suc k) set m = absurd m
subset-short (x ∷ pool) (suc k) set m =
    elim (IsIn-append set (map (λ set. x ∷ set) (subsets pool k)) (subsets pool (suc k)) m) [
      | inl first ↦ let from = IsIn-map (λ set. x ∷ set) set (subsets pool k) first in omega (arith, subset-short pool k from.0 from.2)
      | inr later ↦ omega (arith, subset-short pool (suc k) set later)
    ]

-- as many numbers, each of which is at least each of the others
pub total-pairs : (f g : ℕ → ℕ) (bound bound' low low' : ℕ) → ((i j : ℕ) → i < bound → j < bound' → f i ≤ g j) → (xs ys : List ℕ) → Climbs low bound xs → Climbs low' bound' ys → length xs ≡ length ys → total f xs ≤ total g ys
total-pairs f g bound bound' low low' over [] ys p q same = omega arith
total-pairs f g bound bound' low low' over (x ∷ xs) [] p q same = absurd (omega (arith, same))
total-pairs f g bound bound' low low' over (x ∷ xs) (y ∷ ys) p q same =
    omega (arith, over x y p.1 q.1, total-pairs f g bound bound' (suc x) (suc y) over xs ys p.2 q.2 (omega (arith, same)))

pub sums_grow : (pool : List ℕ) (k : ℕ) (set : List ℕ) → IsStrictlyIncreasing pool → IsIn set (subsets pool k) → sum_of (moved_out pool k set) ≤ sum_of (moved_in pool k set)
sums_grow pool k set rises m =
    let enough : k ≤ length pool = subset-short pool k set m in
    let by = exchange-of pool k rises enough set m in
    let outs : List ℕ = by.0 in
    let ins : List ℕ = by.1 in
    let out = value_of pool k Out in
    let inn = value_of pool k In in
    let le : total out outs ≤ total inn ins =
    total-pairs out inn k (length pool - k) 0 0 (λ i j below within. omega (arith, AllPairs-from_increasing pool rises (k - 1 - i) (k + j) 0 (omega arith) (omega arith)))
    outs ins by.2 by.3 by.4 in
    let same = by.5 ∙ set-is pool k rises enough outs ins in
    let outs-sum : sum_of (moved_out pool k set) ≡ total out outs =
    ap (λ s. sum_of (moved_out pool k s)) same
    ∙ ap sum_of (moved_out-is pool k rises enough outs ins by.2 by.3)
    ∙ sum_of-reverse (map out outs) ∙ sum_of-map out outs in
    let ins-sum : sum_of (moved_in pool k set) ≡ total inn ins =
    ap (λ s. sum_of (moved_in pool k s)) same
    ∙ ap sum_of (moved_in-is pool k rises enough outs ins by.2 by.3)
    ∙ sum_of-map inn ins in
    omega (arith, le, outs-sum, ins-sum)
