-- A number goes to its place, step by step along the numbers in front of it.
use Rattle.std.proofs.Common.{◌≡◌, ℕ, true, false, ◌==◌, nat_lt, ◌+◌, ◌≤◌, ◌<◌, List, [], ◌∷◌, ◌++◌, length, get_or, take, drop, refl, ap, ◌∙◌, append_assoc}
use Rattle.std.specs.Prelude.{insert}
use Rattle.std.proofs.lemmas.List.{drop_more, drop_all, take_all, take_more, take-append-drop}
use Rattle.player_lines.specs.PlayerTexts.{with_number}

-- the first i numbers, and the others with one more
abbrev pub along : ℕ → List ℕ → ℕ → List ℕ
along number all i = take i all ++ with_number number (drop i all)

pub along_more : (number : ℕ) (all : List ℕ) (i : ℕ) (d : ℕ) → i < length all → (number == get_or all i d) ≡ false → nat_lt number (get_or all i d) ≡ false
    → along number all i ≡ along number all (i + 1)
along_more number all i d lt other more =
    rw (drop_more all i d lt, take_more all i d lt, other, more, append_assoc (take i all) (get_or all i d ∷ []) (with_number number (drop (i + 1) all))) refl

pub along_same : (number : ℕ) (all : List ℕ) (i : ℕ) (d : ℕ) → i < length all → (number == get_or all i d) ≡ true → along number all i ≡ all
along_same number all i d lt same =
    let there : with_number number (drop i all) ≡ drop i all = rw (drop_more all i d lt, same) refl in
    ap (λ rest. take i all ++ rest) there ∙ take-append-drop i all

pub along_stop : (number : ℕ) (all : List ℕ) (i : ℕ) (d : ℕ) → i < length all → (number == get_or all i d) ≡ false → nat_lt number (get_or all i d) ≡ true
    → along number all i ≡ insert all i number
along_stop number all i d lt other less = rw (drop_more all i d lt, other, less) refl

pub along_end : (number : ℕ) (all : List ℕ) (i : ℕ) → length all ≤ i → along number all i ≡ all ++ number ∷ []
along_end number all i le = rw (take_all i all le, drop_all i all le) refl
