-- The scoregroups of seats: the first one is the seats at the front that have the first seat's score.
use Rattle.std.proofs.Common.{◌≡◌, ℕ, suc, ◌+◌, Bool, true, false, ◌==◌, cond, List, [], ◌∷◌, take, drop, refl, sym, ap, ◌∙◌, arith, add-one}
use Rattle.std.specs.List.{concat}
use Rattle.std.proofs.lemmas.Bool.Decides.{nat_tests}
use Rattle.std.proofs.lemmas.Bool.{eqb-true}
use Rattle.dutch_player.specs.Prelude.{Facts}
use Rattle.dutch_bracket.specs.Prelude.{score_at, onto_group, first_group, scoregroups, front_with}

swap_of : (a b : ℕ) (t : Bool) → (a == b) ≡ t → (b == a) ≡ t
swap_of a b true h = grind (arith, nat_tests)
swap_of a b false h = grind (arith, nat_tests)

-- the first group and the others, for so many seats of the first one's score
abbrev split : Facts → ℕ → ℕ → List ℕ → List (List ℕ)
split facts seat count seats = (seat ∷ take count seats) ∷ scoregroups facts (drop count seats)

-- a seat before a group: in it where it has its score, and else in one of its own
group_at : (facts : Facts) (x y : ℕ) (ys : List ℕ) (t : Bool) → (score_at facts x == score_at facts y) ≡ t
    → scoregroups facts (y ∷ ys) ≡ split facts y (front_with facts (score_at facts y) ys) ys
    → cond t ((x ∷ y ∷ take (front_with facts (score_at facts y) ys) ys) ∷ scoregroups facts (drop (front_with facts (score_at facts y) ys) ys))
    ((x ∷ []) ∷ split facts y (front_with facts (score_at facts y) ys) ys)
    ≡ split facts x (cond (score_at facts y == score_at facts x) (suc (front_with facts (score_at facts x) ys)) 0) (y ∷ ys)
group_at facts x y ys true h inner =
    ap (λ n. split facts x n (y ∷ ys)) (ap (λ s. suc (front_with facts s ys)) (sym (eqb-true (score_at facts x) (score_at facts y) h)))
    ∙ sym (ap (λ t. split facts x (cond t (suc (front_with facts (score_at facts x) ys)) 0) (y ∷ ys)) (swap_of (score_at facts x) (score_at facts y) true h))
group_at facts x y ys false h inner =
    ap (λ groups. (x ∷ []) ∷ groups) (sym inner)
    ∙ sym (ap (λ t. split facts x (cond t (suc (front_with facts (score_at facts x) ys)) 0) (y ∷ ys)) (swap_of (score_at facts x) (score_at facts y) false h))

pub first_group_is : (facts : Facts) (x : ℕ) (xs : List ℕ) → scoregroups facts (x ∷ xs) ≡ split facts x (front_with facts (score_at facts x) xs) xs
first_group_is facts x [] = refl
first_group_is facts x (y ∷ ys) =
    ap (onto_group facts x) (first_group_is facts y ys)
    ∙ group_at facts x y ys (score_at facts x == score_at facts y) refl (first_group_is facts y ys)

-- so the first group is the front with the first one's score, and the other groups are those of the seats behind it
pub first_group_taken : (facts : Facts) (x : ℕ) (xs : List ℕ) (n : ℕ) → n ≡ front_with facts (score_at facts x) xs
    → take (n + 1) (x ∷ xs) ≡ first_group facts (scoregroups facts (x ∷ xs))
first_group_taken facts x xs n e =
    ap (λ k. take k (x ∷ xs)) (add-one n) ∙ ap (λ k. x ∷ take k xs) e ∙ sym (ap (first_group facts) (first_group_is facts x xs))

pub others_dropped : (facts : Facts) (x : ℕ) (xs : List ℕ) (n : ℕ) → n ≡ front_with facts (score_at facts x) xs
    → scoregroups facts (drop (n + 1) (x ∷ xs)) ≡ drop 1 (scoregroups facts (x ∷ xs))
others_dropped facts x xs n e =
    ap (λ k. scoregroups facts (drop k (x ∷ xs))) (add-one n) ∙ ap (λ k. scoregroups facts (drop k xs)) e ∙ sym (ap (drop 1) (first_group_is facts x xs))

concat_at : (facts : Facts) (seat first : ℕ) (others : List ℕ) (groups : List (List ℕ)) (t : Bool)
    → concat (cond t ((seat ∷ first ∷ others) ∷ groups) ((seat ∷ []) ∷ (first ∷ others) ∷ groups)) ≡ seat ∷ concat ((first ∷ others) ∷ groups)
concat_at facts seat first others groups true = refl
concat_at facts seat first others groups false = refl

-- all groups together are the seats
concat_onto : (facts : Facts) (seat : ℕ) (groups : List (List ℕ)) → concat (onto_group facts seat groups) ≡ seat ∷ concat groups
concat_onto facts seat [] = refl
concat_onto facts seat ([] ∷ groups) = refl
concat_onto facts seat ((first ∷ others) ∷ groups) = concat_at facts seat first others groups (score_at facts seat == score_at facts first)

pub concat_scoregroups : (facts : Facts) (seats : List ℕ) → concat (scoregroups facts seats) ≡ seats
concat_scoregroups facts [] = refl
concat_scoregroups facts (seat ∷ seats) = concat_onto facts seat (scoregroups facts seats) ∙ ap (λ rest. seat ∷ rest) (concat_scoregroups facts seats)
