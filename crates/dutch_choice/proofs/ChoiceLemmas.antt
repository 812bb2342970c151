-- The best of candidates, step by step: of two the later one is kept only if it is better.
use Rattle.std.proofs.Common.{◌≡◌, ◌⊎◌, Bool, true, false, List, [], ◌∷◌, Some, refl, ◌∙◌, arith}
use Rattle.std.specs.List.{list_any}
use Rattle.dutch_bracket.specs.Prelude.{is_unbeaten, first_unbeaten, best}

-- what an order of better ones keeps
pub record IsOrder {X : Type 0} (better : X → X → Bool) : Type 0 where
  pub irreflexive : (a : X) → better a a ≡ false
  pub transitive : (a b c : X) → better a b ≡ true → better b c ≡ true → better a c ≡ true
  pub between : (a b c : X) → better a c ≡ true → better a b ≡ false → better b c ≡ true
  pub within : (a b c : X) → better a c ≡ true → better b c ≡ false → better a b ≡ true

module _ {X : Type 0} (better : X → X → Bool) (order : IsOrder better) where
  -- who is beaten by the one is beaten by a better one
  unbeaten_without : (c d x : X) (rest : List X) → better d c ≡ true → is_unbeaten better (c ∷ d ∷ rest) x ≡ is_unbeaten better (d ∷ rest) x
  unbeaten_without c d x rest wins = grind (arith, order.transitive d c x)

  -- and who is beaten by one that is not better than the first is beaten by the first
  unbeaten_first : (c d x : X) (rest : List X) → better d c ≡ false → is_unbeaten better (c ∷ d ∷ rest) x ≡ is_unbeaten better (c ∷ rest) x
  unbeaten_first c d x rest loses = grind (arith, order.between d c x)

  -- what is looked for in two lists that the same ones are unbeaten in
  first_same : (all others ys : List X) → ((x : X) → is_unbeaten better all x ≡ is_unbeaten better others x) → first_unbeaten better all ys ≡ first_unbeaten better others ys
  first_same all others [] h = refl
  first_same all others (y ∷ ys) h = grind (arith, h y, first_same all others ys h)

  -- if some of a list is better than the first, it is better than one that is not better than the first
  any_between : (c d : X) (rest : List X) → better d c ≡ false → list_any (λ e. better e c) rest ≡ true → list_any (λ e. better e d) rest ≡ true
  any_between c d [] loses h = h
  any_between c d (e ∷ rest) loses h = grind (arith, order.within e d c, any_between c d rest loses)

  -- of the first two the second goes on if it is better
  pub best_wins : (c d : X) (rest : List X) → better d c ≡ true → best better (c ∷ d ∷ rest) ≡ best better (d ∷ rest)
  best_wins c d rest wins = grind (arith, first_same (c ∷ d ∷ rest) (d ∷ rest) (d ∷ rest) (λ x. unbeaten_without c d x rest wins))

  -- else the first goes on
  pub best_loses : (c d : X) (rest : List X) → better d c ≡ false → best better (c ∷ d ∷ rest) ≡ best better (c ∷ rest)
  best_loses c d rest loses =
      first_same (c ∷ d ∷ rest) (c ∷ rest) (c ∷ d ∷ rest) (λ x. unbeaten_first c d x rest loses)
      ∙ grind (arith, order.irreflexive c, any_between c d rest loses)

  -- one alone is chosen
  pub best_alone : (c : X) → best better (c ∷ []) ≡ Some c
  best_alone c = grind (arith, order.irreflexive c)

module _ {X Q : Type 0} (quality_of : X → Q) (is_better : Q → Q → Bool) (irreflexive_of : (a : Q) → is_better a a ≡ false)
    (transitive_of : (a b c : Q) → is_better a b ≡ true → is_better b c ≡ true → is_better a c ≡ true)
    (total_of : (a b : Q) → (a ≡ b) ⊎ ((is_better a b ≡ true) ⊎ (is_better b a ≡ true))) where
  abbrev pub by : X → X → Bool
  by a b = is_better (quality_of a) (quality_of b)

  pub order_of : IsOrder by
  order_of = record {
    irreflexive = λ a. irreflexive_of (quality_of a);
    transitive = λ a b c. transitive_of (quality_of a) (quality_of b) (quality_of c);
    between = λ a b c wins loses. grind (arith, total_of (quality_of a) (quality_of b), transitive_of (quality_of b) (quality_of a) (quality_of c));
    within = λ a b c wins loses. grind (arith, total_of (quality_of b) (quality_of c), transitive_of (quality_of a) (quality_of c) (quality_of b));
  }
