-- A list of which one after the other is swapped to the front: those who stood in front follow in their order.
use Rattle.std.proofs.Common.{◌≡◌, ℕ, zero, suc, ◌+◌, ◌<◌, List, [], ◌∷◌, ◌++◌, length, take, drop, refl, sym, ◌∙◌, ap, arith, add-one}
use Rattle.std.specs.Prelude.{slice_index, swap}
use Rattle.std.specs.List.{slice_set, slice_index_or}

-- the one at a place in front, and then the others
abbrev pub brought : ℕ → List ℕ → List ℕ
brought k xs = slice_index xs k ∷ (take k xs ++ drop (k + 1) xs)

-- a list of which so many have been in front
abbrev pub turned : ℕ → List ℕ → List ℕ
turned zero xs = xs
turned (suc k) xs = brought k xs

after : (k : ℕ) (xs : List ℕ) (d : ℕ) → suc k < length xs → slice_index_or (take k xs ++ drop (suc k) xs) k d ≡ slice_index xs (suc k)
after k [] d lt = absurd (omega arith)
after zero (x ∷ []) d lt = absurd (omega arith)
after zero (x ∷ y ∷ xs) d lt = refl
after (suc k) (x ∷ xs) d lt = after k xs d (omega arith)

put : (k : ℕ) (xs : List ℕ) → suc k < length xs → slice_set (take k xs ++ drop (suc k) xs) k (slice_index xs k) ≡ take (suc k) xs ++ drop (suc (suc k)) xs
put k [] lt = absurd (omega arith)
put zero (x ∷ []) lt = absurd (omega arith)
put zero (x ∷ y ∷ xs) lt = refl
put (suc k) (x ∷ xs) lt = ap (λ ys. x ∷ ys) (put k xs (omega arith))

pub swap-turned : (k : ℕ) (xs : List ℕ) → k < length xs → swap (turned k xs) 0 k ≡ brought k xs
swap-turned k [] lt = absurd (omega arith)
swap-turned zero (x ∷ xs) lt = refl
swap-turned (suc k) (x ∷ xs) lt =
    let all : List ℕ = x ∷ xs in
    ap (λ j. swap (slice_index all k ∷ (take k all ++ drop j all)) 0 (suc k)) (add-one k)
    ∙ ap (λ b. b ∷ slice_set (take k all ++ drop (suc k) all) k (slice_index all k)) (after k all (slice_index all k) lt)
    ∙ ap (λ ys. slice_index all (suc k) ∷ ys) (put k all lt)
    ∙ ap (λ j. slice_index all (suc k) ∷ (take (suc k) all ++ drop j all)) (sym (add-one (suc k)))

pub turned-more : (k : ℕ) (xs : List ℕ) → brought k xs ≡ turned (k + 1) xs
turned-more k xs = ap (λ j. turned j xs) (sym (add-one k))
