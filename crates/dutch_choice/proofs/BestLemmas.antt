-- What is chosen in the end: it is one of the candidates, and of the bracket's shape. Where nothing is wished, it is the best that is found.
use Rattle.std.proofs.Common.{◌≡◌, ℕ, Bool, true, false, List, [], ◌∷◌, Option, Some, None, is_some, refl, sym, ap, ◌∙◌, subst, arith}
use Rattle.dutch_sequence.proofs.Lists.{filter-all}
use Rattle.dutch_arrangements.specs.declared.bracket.Shape.{Shape}
use Rattle.dutch_arrangements.specs.Prelude.{Arrangement, IsIn}
use Rattle.dutch_arrangements.specs.Cursors.{◌>>=◌}
use Rattle.dutch_player.specs.Prelude.{Facts}
use Rattle.dutch_bracket.specs.Prelude.{Context, eligible_here, quality_here, Reached, frame_of, is_better, fits, shapes, has_member, Choice, eligible, is_better_in, best_of_shape, shape_of, choice, first_unbeaten, best}
use Rattle.dutch_choice.specs.Prelude.{best_wished, is_better_here}
use Rattle.dutch_choice.proofs.ChoiceLemmas.{IsOrder, order_of, best_wins, best_loses, best_alone}
use Rattle.dutch_bracket.proofs.QualityOrder.{irreflexive, transitive, total}
use Rattle.dutch_bracket.proofs.ShapeSearch.{first_has}

module _ (better : Arrangement → Arrangement → Bool) (order : IsOrder better) where
  -- of some candidates one is chosen
  some_of : (c : Arrangement) (rest : List Arrangement) → is_some (best better (c ∷ rest)) ≡ true
  some_of c [] = grind (arith, best_alone better order c)
  some_of c (d ∷ rest) = grind (arith, some_of c rest, some_of d rest, best_wins better order c d rest, best_loses better order c d rest)

  pub best_of_some : (all : List Arrangement) → has_member all ≡ true → best better all ≡ None → ⊥
  best_of_some [] h none = let bad : false ≡ true = h in cc
  best_of_some (c ∷ rest) h none = let bad : false ≡ true = sym (ap is_some none) ∙ some_of c rest in cc

-- the best of some is one of them
pub in_unbeaten : (better : Arrangement → Arrangement → Bool) (all ys : List Arrangement) (a : Arrangement) → first_unbeaten better all ys ≡ Some a → IsIn a ys
in_unbeaten better all [] a e = let bad : None ≡ Some a = e in cc
in_unbeaten better all (c ∷ rest) a e = grind (arith, in_unbeaten better all rest a)

-- a shape with its best arrangement, if it has one
abbrev with_shape : Shape → Option Arrangement → Option Choice
with_shape shape found = found >>= λ lists. Some (record { shape = shape; lists = lists })

module _ (context : Context) where
  pub order_in : IsOrder (is_better_here context)
  order_in = order_of (quality_here context) is_better irreflexive transitive total

module _ (facts : Facts) (reached : Reached) (lower : List ℕ) where
  abbrev context : Context
  context = record { facts = facts; reached = reached; lower = lower }

  abbrev shaped : Shape → Option Choice
  shaped shape = with_shape shape (best_of_shape facts reached lower shape)

  -- a shape that is found has a best candidate
  pub shape_has_best : (shape : Shape) → shape_of facts reached lower ≡ Some shape → best_of_shape facts reached lower shape ≡ None → ⊥
  unfolding shape_of best_of_shape
  shape_has_best shape found none =
      best_of_some (is_better_in facts reached lower) (order_in context) (eligible facts reached lower shape)
      (first_has (eligible facts reached lower) (fits (frame_of facts reached)) (shapes (frame_of facts reached)) shape found) none

  pub choice_is : (shape : Shape) (lists : Arrangement) → shape_of facts reached lower ≡ Some shape → best_of_shape facts reached lower shape ≡ Some lists
      → choice facts reached lower ≡ Some (record { shape = shape; lists = lists })
  unfolding choice shape_of
  choice_is shape lists found h = ap (λ (o : Option Shape). o >>= shaped) found ∙ ap (with_shape shape) h

  -- a bracket that has a shape has a choice
  pub choice_of_shape : (shape : Shape) → shape_of facts reached lower ≡ Some shape
      → (lists : Arrangement) × (choice facts reached lower ≡ Some (record { shape = shape; lists = lists }))
  choice_of_shape shape found = go (best_of_shape facts reached lower shape) refl where
    go : (o : Option Arrangement) → best_of_shape facts reached lower shape ≡ o
        → (lists : Arrangement) × (choice facts reached lower ≡ Some (record { shape = shape; lists = lists }))
    go None none = absurd (shape_has_best shape found none)
    go (Some lists) is = (lists, choice_is shape lists found is)

  abbrev IsShaped : Option Shape → Choice → Type 0
  IsShaped o chosen = (o ≡ Some chosen.shape) × IsIn chosen.lists (eligible facts reached lower chosen.shape)

  chosen_from : (chosen : Choice) (shape : Shape) (o : Option Arrangement) → best_of_shape facts reached lower shape ≡ o → with_shape shape o ≡ Some chosen
      → IsShaped (Some shape) chosen
  unfolding eligible best_of_shape
  chosen_from chosen shape None e h = let bad : None ≡ Some chosen = h in absurd (cc)
  chosen_from chosen shape (Some lists) e h =
      let same : (let made : Choice = record { shape = shape; lists = lists } in made) ≡ chosen = cc in
      subst (IsShaped (Some shape)) same (refl, in_unbeaten (is_better_in facts reached lower) (eligible facts reached lower shape) (eligible facts reached lower shape) lists e)

  chosen_at : (chosen : Choice) (o : Option Shape) → (o >>= shaped) ≡ Some chosen → IsShaped o chosen
  chosen_at chosen None h = let bad : None ≡ Some chosen = h in absurd (cc)
  chosen_at chosen (Some shape) h = chosen_from chosen shape (best_of_shape facts reached lower shape) refl h

  -- what is chosen is of the bracket's shape, and can be chosen
  pub chosen_is : (chosen : Choice) → choice facts reached lower ≡ Some chosen → IsShaped (shape_of facts reached lower) chosen
  unfolding choice shape_of best_of_shape
  chosen_is chosen = chosen_at chosen (shape_of facts reached lower)

module _ (context : Context) where
  -- where nothing is wished, the best is that of all that can be chosen
  pub nothing_wished : (shape : Shape) → best_wished context None shape ≡ best_of_shape context.facts context.reached context.lower shape
  unfolding best_wished eligible best_of_shape
  nothing_wished shape = ap (best (is_better_here context)) (filter-all (eligible_here context shape))

  -- then a shape that is found has a best one
  pub shape_has_one : (shape : Shape) → shape_of context.facts context.reached context.lower ≡ Some shape → best_wished context None shape ≡ None → ⊥
  shape_has_one shape found none = shape_has_best context.facts context.reached context.lower shape found (sym (nothing_wished shape) ∙ none)

  -- which is the choice
  pub choice_is_best : (shape : Shape) (lists : Arrangement) → shape_of context.facts context.reached context.lower ≡ Some shape → best_wished context None shape ≡ Some lists
      → choice context.facts context.reached context.lower ≡ Some (record { shape = shape; lists = lists })
  choice_is_best shape lists found h = choice_is context.facts context.reached context.lower shape lists found (sym (nothing_wished shape) ∙ h)
