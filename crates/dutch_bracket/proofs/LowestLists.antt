-- The lowest of some lists is one of them.
use Rattle.std.proofs.Common.{◌≡◌, ℕ, true, false, List, [], ◌∷◌, map, cond, inl, inr, refl}
use Rattle.dutch_arrangements.specs.Prelude.{Arrangement, IsIn}
use Rattle.dutch_bracket.specs.Prelude.{is_lower, lowest_list, lowest_list_upto, has_member}

-- a list is that of one of some arrangements
pub record IsOneOfThem (f : Arrangement → List ℕ) (all : List Arrangement) (low : List ℕ) : Type 0 where
  pub lists : Arrangement
  pub listed : IsIn lists all
  pub is : low ≡ f lists

skipping : (b c a : Arrangement) (others : List Arrangement) → IsIn b (a ∷ others) → IsIn b (a ∷ c ∷ others)
skipping b c a others (inl same) = inl same
skipping b c a others (inr later) = inr (inr later)

lowest_upto_is_one : (f : Arrangement → List ℕ) (a : Arrangement) (others : List Arrangement)
    → IsOneOfThem f (a ∷ others) (lowest_list_upto (f a) (map f others))
lowest_upto_is_one f a [] = record { lists = a; listed = inl refl; is = refl }
lowest_upto_is_one f a (c ∷ others) =
    elim (is_lower (f c) (f a)) as (λ t. IsOneOfThem f (a ∷ c ∷ others) (lowest_list_upto (cond t (f c) (f a)) (map f others))) [
      | true ↦
          let later = lowest_upto_is_one f c others in
          record { lists = later.lists; listed = inr later.listed; is = later.is }
      | false ↦
          let later = lowest_upto_is_one f a others in
          record { lists = later.lists; listed = skipping later.lists c a others later.listed; is = later.is }
    ]

pub lowest_is_one : (f : Arrangement → List ℕ) (all : List Arrangement) → has_member all ≡ true → IsOneOfThem f all (lowest_list (map f all))
lowest_is_one f [] has = absurd (let bad : false ≡ true = has in cc)
lowest_is_one f (a ∷ others) has = lowest_upto_is_one f a others
