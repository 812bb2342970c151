-- What the pairs and the players of an arrangement are, list by list.
use Rattle.std.proofs.Common.{◌≡◌, ℕ, Bool, ◌||◌, List, [], ◌∷◌, ◌++◌, refl, ap, ◌∙◌}
use Rattle.std.specs.List.{list_any, zip}
use Rattle.std.proofs.lemmas.List.Folds.{list_any-append}
use Rattle.dutch_arrangements.specs.Prelude.{Arrangement, paired, is_member, by_place, pairs_by_number}
use Rattle.dutch_sequence.proofs.Counts.{member-append}
use Rattle.dutch_bracket.specs.Prelude.{number_pairs}

zipped : (xs ys : List ℕ) → by_place xs ys ≡ zip xs ys
zipped [] ys = refl
zipped (x ∷ xs) [] = refl
zipped (x ∷ xs) (y ∷ ys) = ap (λ (pairs : List (ℕ × ℕ)). (x, y) ∷ pairs) (zipped xs ys)

pub pairs_numbered : (a : Arrangement) → pairs_by_number a ≡ number_pairs a
pairs_numbered a =
    ap (λ (pairs : List (ℕ × ℕ)). pairs ++ by_place a.s1r a.s2r) (zipped a.s1 a.s2) ∙ ap (λ (pairs : List (ℕ × ℕ)). zip a.s1 a.s2 ++ pairs) (zipped a.s1r a.s2r)

-- some pair passes a test where one of S1 with S2 does, or one of S1R with S2R
pub pairs_found : (test : ℕ × ℕ → Bool) (a : Arrangement)
    → list_any test (pairs_by_number a) ≡ (list_any test (zip a.s1 a.s2) || list_any test (zip a.s1r a.s2r))
pairs_found test a = ap (list_any test) (pairs_numbered a) ∙ list_any-append test (zip a.s1 a.s2) (zip a.s1r a.s2r)

-- a player is paired if they are in one of the four lists
pub player_found : (p : ℕ) (a : Arrangement)
    → is_member p (paired a) ≡ (is_member p a.s1 || (is_member p a.s2 || (is_member p a.s1r || is_member p a.s2r)))
player_found p a =
    member-append p a.s1 (a.s2 ++ (a.s1r ++ a.s2r))
    ∙ ap (λ t. is_member p a.s1 || t) (member-append p a.s2 (a.s1r ++ a.s2r))
    ∙ ap (λ t. is_member p a.s1 || (is_member p a.s2 || t)) (member-append p a.s1r a.s2r)
