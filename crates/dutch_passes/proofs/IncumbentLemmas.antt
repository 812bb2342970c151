-- The best of the incumbent and those to come: one candidate more is passed, or takes its place.
use Rattle.std.proofs.Common.{◌≡◌, Bool, true, false, not, ◌&&◌, ◌||◌, List, [], ◌∷◌, filter, Option, Some, None, arith}
use Rattle.dutch_bracket.specs.Prelude.{best_with}
use Rattle.dutch_choice.proofs.ChoiceLemmas.{IsOrder, best_alone, best_loses, best_wins}

-- one is better than the incumbent, if there is one
abbrev pub wins_over : {X : Type 0} → (X → X → Bool) → Option X → X → Bool
wins_over better None d = true
wins_over better (Some c) d = better d c

-- one candidate more, where there may be an incumbent already
module _ {X : Type 0} (better : X → X → Bool) (order : IsOrder better) (can far : X → Bool) where
  abbrev sought : X → Bool
  sought c = can c && not (far c)

  -- one that is pruned is passed
  pub passed_by : (incumbent : Option X) (d : X) (rest : List X) (won : Bool) → won ≡ wins_over better incumbent d → (not (can d) || (far d || not won)) ≡ true
      → best_with better sought incumbent (d ∷ rest) ≡ best_with better sought incumbent rest
  passed_by None d rest won e pruned = grind arith
  passed_by (Some c) d rest won e pruned = grind (arith, best_loses better order c d (filter sought rest))

  -- and one that is not becomes the incumbent
  pub kept_by : (incumbent : Option X) (d : X) (rest : List X) (won : Bool) → won ≡ wins_over better incumbent d → can d ≡ true → (far d || not won) ≡ false
      → best_with better sought (Some d) rest ≡ best_with better sought incumbent (d ∷ rest)
  kept_by None d rest won e fit wins = grind arith
  kept_by (Some c) d rest won e fit wins = grind (arith, best_wins better order c d (filter sought rest))

  pub incumbent_at_end : (incumbent : Option X) → best_with better sought incumbent [] ≡ incumbent
  incumbent_at_end incumbent = grind (arith, best_alone better order)

-- what is not better than a floor, where a better one than the floor is the target, or the incumbent is no worse
module _ {Q : Type 0} (better : Q → Q → Bool) (order : IsOrder better) where
  pub behind_incumbent : (incumbent floor q : Q) → better q floor ≡ false → not (better floor incumbent) ≡ true → not (better q incumbent) ≡ true
  behind_incumbent incumbent floor q low lost = grind (arith, order.between q floor incumbent)

  pub behind_target : (target floor q : Q) → better q floor ≡ false → (better target floor || false) ≡ true → (better target q || false) ≡ true
  behind_target target floor q low lost = grind (arith, order.within target q floor)

  pub behind_either : (target incumbent floor q : Q) → better q floor ≡ false → (better target floor || not (better floor incumbent)) ≡ true
      → (better target q || not (better q incumbent)) ≡ true
  behind_either target incumbent floor q low lost = grind (arith, order.between q floor incumbent, order.within target q floor)
