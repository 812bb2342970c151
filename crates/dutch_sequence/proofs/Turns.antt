-- One turn of a loop over a list: what holds of the element that is read, and how a list or a number grows by it.
use Rattle.std.proofs.Common.{◌≡◌, ◌<◌, ◌≤◌, ℕ, suc, zero, ◌+◌, List, [], ◌∷◌, ◌++◌, length, take, map, get_or, arith, ap, sym, ◌∙◌, append_assoc}
use Rattle.std.specs.List.{AllByRecursion}
use Rattle.std.proofs.lemmas.List.{take_more, take_all, map-append}

-- what holds of each element holds of the one that is read
pub at_index : (P : ℕ → Type 0) (xs : List ℕ) (i : ℕ) → AllByRecursion P xs → i < length xs → P (get_or xs i 0)
at_index P [] i all within = absurd (omega arith)
at_index P (x ∷ xs) zero all within = all.0
at_index P (x ∷ xs) (suc i) all within = at_index P xs i all.1 (omega arith)

-- a list that is made element by element has one more
pub map-turn : (f : ℕ → ℕ) (xs : List ℕ) (i x : ℕ) (before after front : List ℕ) → i < length xs → x ≡ f (get_or xs i 0) → before ≡ front ++ map f (take i xs) → after ≡ before ++ x ∷ [] → after ≡ front ++ map f (take (i + 1) xs)
map-turn f xs i x before after front within is so_far pushed =
    pushed
    ∙ ap (λ list. list ++ x ∷ []) so_far
    ∙ append_assoc front (map f (take i xs)) (x ∷ [])
    ∙ ap (λ y. front ++ (map f (take i xs) ++ y ∷ [])) is
    ∙ ap (λ list. front ++ list) (sym (ap (map f) (take_more xs i 0 within) ∙ map-append f (take i xs) (get_or xs i 0 ∷ [])))

-- and is whole where the loop ends
pub map-end : (f : ℕ → ℕ) (xs : List ℕ) (i : ℕ) (made front : List ℕ) → length xs ≤ i → made ≡ front ++ map f (take i xs) → made ≡ front ++ map f xs
map-end f xs i made front beyond so_far = so_far ∙ ap (λ list. front ++ map f list) (take_all i xs beyond)
