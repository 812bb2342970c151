-- The pairs of an arrangement are those of a beginning that it has, and others: place by place, and so in every sum.
use Rattle.std.proofs.Common.{◌≡◌, ℕ, ◌+◌, ◌⊎◌, List, [], ◌∷◌, ◌++◌, length, sum_by, inl, inr, refl, sym, ap, subst, ◌∙◌, arith, append-nil, length-append}
use Rattle.std.proofs.lemmas.List.Sums.{sum_by-append}
use Rattle.dutch_arrangements.specs.Prelude.{Arrangement, IsIn, GoesOn}
use Rattle.dutch_sequence.proofs.Orders.{IsIn-append, IsIn-back, IsIn-front}
use Rattle.dutch_bracket.specs.Prelude.{seat_of, pairs_of, all_pairs, HasPairsOf, LacksEndOfS2r, beyond}

pub no_seconds : (seats firsts : List ℕ) → pairs_of seats firsts [] ≡ []
no_seconds seats [] = refl
no_seconds seats (a ∷ firsts) = refl

-- where the second numbers are those of a front and more, the pairs are those of the front and more
pub pairs_on : (seats firsts front rest : List ℕ)
    → pairs_of seats firsts (front ++ rest) ≡ pairs_of seats firsts front ++ pairs_of seats (beyond front firsts) rest
pairs_on seats firsts [] rest = ap (λ (pairs : List (ℕ × ℕ)). pairs ++ pairs_of seats firsts rest) (sym (no_seconds seats firsts))
pairs_on seats [] (b ∷ front) rest = refl
pairs_on seats (a ∷ firsts) (b ∷ front) rest =
    ap (λ (pairs : List (ℕ × ℕ)). (seat_of seats a, seat_of seats b) ∷ pairs) (pairs_on seats firsts front rest)

-- the pairs of two lists that go on two others: with the same first numbers, or where the others have no second ones
goes_on : (seats firsts seconds firsts' seconds' : List ℕ) → (seconds ≡ []) ⊎ (firsts ≡ firsts') → (on : GoesOn seconds seconds')
    → pairs_of seats firsts' seconds' ≡ pairs_of seats firsts seconds ++ pairs_of seats (beyond seconds firsts') on.rest
goes_on seats firsts seconds firsts' seconds' (inl none) on =
    ap (pairs_of seats firsts') on.is
    ∙ pairs_on seats firsts' seconds on.rest
    ∙ ap (λ (pairs : List (ℕ × ℕ)). pairs ++ pairs_of seats (beyond seconds firsts') on.rest)
    (ap (pairs_of seats firsts') none ∙ no_seconds seats firsts' ∙ sym (no_seconds seats firsts) ∙ ap (pairs_of seats firsts) (sym none))
goes_on seats firsts seconds firsts' seconds' (inr same) on =
    ap (pairs_of seats firsts') on.is
    ∙ pairs_on seats firsts' seconds on.rest
    ∙ ap (λ (firsts'' : List ℕ). pairs_of seats firsts'' seconds ++ pairs_of seats (beyond seconds firsts') on.rest) (sym same)

-- a number that a list has which is the sum of those of its parts
abbrev pub AddsUp : {X : Type 0} → (List X → ℕ) → Type 0
AddsUp {X} f = (xs ys : List X) → f (xs ++ ys) ≡ f xs + f ys

-- members of which some are known: what adds up over all is the sum of what it is for these and for others, who are the rest of all
pub record Beside {X : Type 0} (known all : List X) : Type 0 where
  pub others : List X
  pub adds : (f : List X → ℕ) → AddsUp f → f all ≡ f known + f others
  pub inside : (x : X) → IsIn x others → IsIn x all
  pub either : (x : X) → IsIn x all → IsIn x known ⊎ IsIn x others

-- the pairs of an arrangement beside those of a beginning: of moved-down players, and of residents
pub beside_by : (seats : List ℕ) (b a : Arrangement) (moved_down residents : List (ℕ × ℕ)) → pairs_of seats a.s1 a.s2 ≡ pairs_of seats b.s1 b.s2 ++ moved_down
    → pairs_of seats a.s1r a.s2r ≡ pairs_of seats b.s1r b.s2r ++ residents → Beside (all_pairs seats b) (all_pairs seats a)
beside_by seats b a moved_down residents first second =
    let k1 : List (ℕ × ℕ) = pairs_of seats b.s1 b.s2 in
    let k2 : List (ℕ × ℕ) = pairs_of seats b.s1r b.s2r in
    let a1 : List (ℕ × ℕ) = pairs_of seats a.s1 a.s2 in
    let a2 : List (ℕ × ℕ) = pairs_of seats a.s1r a.s2r in
    record {
      others = moved_down ++ residents;
      adds = λ f sums. omega (arith, sums a1 a2, ap f first, ap f second, sums k1 moved_down, sums k2 residents, sums k1 k2, sums moved_down residents);
      inside = λ x m. elim (IsIn-append x moved_down residents m) [
        | inl one ↦ IsIn-front x a1 a2 (subst (IsIn x) (sym first) (IsIn-back x k1 moved_down one))
        | inr two ↦ IsIn-back x a1 a2 (subst (IsIn x) (sym second) (IsIn-back x k2 residents two))
      ];
      either = λ x m. elim (IsIn-append x a1 a2 m) [
        | inl one ↦ elim (IsIn-append x k1 moved_down (subst (IsIn x) first one)) [
          | inl known ↦ inl (IsIn-front x k1 k2 known)
          | inr more ↦ inr (IsIn-front x moved_down residents more)
        ]
        | inr two ↦ elim (IsIn-append x k2 residents (subst (IsIn x) second two)) [
          | inl known ↦ inl (IsIn-back x k1 k2 known)
          | inr more ↦ inr (IsIn-back x moved_down residents more)
        ]
      ];
    }

pub beside : (seats : List ℕ) (b a : Arrangement) → HasPairsOf b a → Beside (all_pairs seats b) (all_pairs seats a)
beside seats b a begins =
    beside_by seats b a (pairs_of seats (beyond b.s2 a.s1) begins.s2.rest) (pairs_of seats (beyond b.s2r a.s1r) begins.s2r.rest)
    (goes_on seats b.s1 b.s2 a.s1 a.s2 begins.s1 begins.s2) (goes_on seats b.s1r b.s2r a.s1r a.s2r begins.s1r begins.s2r)

-- nothing is known
pub none_known : {X : Type 0} (all : List X) → Beside [] all
none_known all = record {
  others = all;
  adds = λ f sums. let twice : f [] ≡ f [] + f [] = sums [] [] in omega (arith, twice);
  inside = λ x m. m;
  either = λ x m. inr m;
}

-- every sum over all is that over those that are known and that over the others
pub sum_beside : {X : Type 0} (f : X → ℕ) (known all : List X) → (others : Beside known all) → sum_by f all ≡ sum_by f known + sum_by f others.others
sum_beside f known all others = others.adds (sum_by f) (sum_by-append f)

pub length_beside : {X : Type 0} (known all : List X) → (others : Beside known all) → length all ≡ length known + length others.others
length_beside known all others = others.adds length length-append

-- who lacks at most the end of S2R has the pairs of the beginning
pub has_pairs : (b a : Arrangement) → LacksEndOfS2r b a → HasPairsOf b a
has_pairs b a lacks = record {
  s1 = inr lacks.s1;
  s2 = record { rest = []; is = sym lacks.s2 ∙ sym (append-nil b.s2) };
  s1r = inr lacks.s1r;
  s2r = lacks.s2r;
}
