-- The candidates of a shape that can be chosen, one candidate after another.
use Rattle.std.proofs.Common.{◌≡◌, ℕ, Bool, true, false, cond, List, [], ◌∷◌, filter, refl, ap, ◌∙◌, not, ◌||◌, ◌++◌}
use Rattle.dutch_arrangements.specs.Prelude.{Arrangement, Passes}
use Rattle.dutch_arrangements.specs.declared.bracket.Shape.{Shape}
use Rattle.dutch_sequence.proofs.Lists.{filter-all}
use Rattle.dutch_sequence.proofs.Skipping.{passes-more, passes-same}
use Rattle.dutch_player.specs.Prelude.{Facts}
use Rattle.dutch_bracket.specs.Prelude.{Reached, has_member, candidates_of, eligible, completable, downfloaters, is_penultimate}
use Rattle.dutch_bracket.specs.Eligible.{can_be_chosen}

-- those that can be chosen, by the test of each
pub eligible_is : (facts : Facts) (reached : Reached) (lower : List ℕ) (shape : Shape)
    → eligible facts reached lower shape ≡ filter (can_be_chosen facts reached lower) (candidates_of facts reached shape)
unfolding candidates_of eligible
eligible_is facts reached lower shape = refl

module _ (p : Arrangement → Bool) where
  pub passes_unfit : (c : Arrangement) (old new : List Arrangement) → old ≡ c ∷ new → p c ≡ false → filter p old ≡ filter p new
  passes_unfit c old new e unfit = ap (filter p) e ∙ ap (λ t. cond t (c ∷ filter p new) (filter p new)) unfit

  pub first_fit : (c : Arrangement) (old new : List Arrangement) → old ≡ c ∷ new → p c ≡ true → filter p old ≡ c ∷ filter p new
  first_fit c old new e fit = ap (filter p) e ∙ ap (λ t. cond t (c ∷ filter p new) (filter p new)) fit

  -- one more that fails the test is passed
  pub passed_more : (c : Arrangement) (all old new : List Arrangement) → Passes (λ a. p a ≡ false) all old → old ≡ c ∷ new → p c ≡ false
      → Passes (λ a. p a ≡ false) all new
  passed_more c all old new passed e unfit =
      passes-more (λ a. p a ≡ false) all old new passed (c ∷ [], e, (unfit, tt))

  -- those that stand behind the ones passed
  pub drawn_behind : (c : Arrangement) (all old new : List Arrangement) → Passes (λ a. p a ≡ false) all old → old ≡ c ∷ new
      → Passes (λ a. p a ≡ false) all (c ∷ new)
  drawn_behind c all old new passed e = passes-same (λ a. p a ≡ false) all old (c ∷ new) passed e

  pub has_none : (old : List Arrangement) → old ≡ [] → has_member (filter p old) ≡ false
  has_none old e = ap (λ all. has_member (filter p all)) e

module _ (facts : Facts) (reached : Reached) (lower : List ℕ) where
  -- elsewhere than in the penultimate bracket all candidates can be chosen
  pub eligible_all : (shape : Shape) → is_penultimate reached.kind ≡ false → eligible facts reached lower shape ≡ candidates_of facts reached shape
  unfolding eligible candidates_of
  eligible_all shape e =
      ap (λ t. filter (λ lists. not t || completable facts (downfloaters facts reached lists ++ lower)) (candidates_of facts reached shape)) e
      ∙ filter-all (candidates_of facts reached shape)

  -- in it those that leave players who can be paired out with the lower ones
  pub eligible_some : (shape : Shape) → is_penultimate reached.kind ≡ true
      → eligible facts reached lower shape ≡ filter (λ lists. completable facts (downfloaters facts reached lists ++ lower)) (candidates_of facts reached shape)
  unfolding eligible candidates_of
  eligible_some shape e =
      ap (λ t. filter (λ lists. not t || completable facts (downfloaters facts reached lists ++ lower)) (candidates_of facts reached shape)) e
