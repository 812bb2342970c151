-- Tables of weights that are filled place by place.
use Rattle.std.proofs.Common.{◌≡◌, ℕ, Bool, ◌+◌, ◌-◌, ◌*◌, ◌<◌, ◌≤◌, List, [], ◌∷◌, ◌++◌, length, get_or, set, Option, None, MatchOption}
use Rattle.std.proofs.Common.{inl, inr, refl, sym, ap, subst, ◌∙◌, arith}
use Rattle.std.proofs.lemmas.Bool.{cases_eq, cases_lt}
use Rattle.std.proofs.lemmas.List.{get_or_append_left, get_or_push, get_or-set_other, get_or-set_same}
use Rattle.dutch_player.specs.Prelude.{Facts}
use Rattle.dutch_bracket.specs.Prelude.{no_value, NextValue, quality_with, numbers_meet, Seated}
use Rattle.dutch_weighing.specs.Prelude.{Scale, Weighing, weight_with, HasPairs, IsNumber, TellsBelowUpto, TellsPairsUpto, TellsUpto, next_weight_of, pair_weight, place_in}
use Rattle.dutch_weighing.specs.declared.weighing.NextWeight.{NextWeight}
use Rattle.dutch_weighing.specs.declared.weighing.PairTable.{PairTable}
use Rattle.dutch_weighing.specs.Classes.{IsFirstFor, TellsFirstsUpto}
use Rattle.dutch_weighing.proofs.AlikePairs.{same_weight}
use Rattle.dutch_weighing.proofs.PairPlaces.{before, inside, same_place}

-- what is said of the next bracket has no part in what weighs without it
pub next_is_pruned : (scale : Scale) (facts : Facts) (seated : Seated) (next : NextValue)
    → weight_with scale 0 [] (quality_with facts seated next) ≡ weight_with scale 0 [] (quality_with facts seated no_value)
unfolding weight_with quality_with
next_is_pruned scale facts seated next = refl

pub at_least : (n most : ℕ) → ¬ (n < most) → most ≤ n
at_least n most not = grind arith

pub at_none : {X : Type 0} (o : Option X) (P : Type 0) (Q : X → Type 0) → o ≡ None → MatchOption o P Q → P
at_none o P Q none given = subst (λ (q : Option _). MatchOption q P Q) none given

module _ (w : Weighing) where
  -- an end by another name
  pub told_same : (table : PairTable) (from end : ℕ) → from ≡ end → TellsPairsUpto w table from → TellsPairsUpto w table end
  told_same table from end same told = subst (TellsPairsUpto w table) same told

  -- one place more
  pub told_more : {X : Type 0} (of_pair : ℕ → ℕ → X) (list : List X) (x y : ℕ) (value : X) → IsNumber w.reached x → IsNumber w.reached y
      → length list ≡ length w.reached.seats * length w.reached.seats → value ≡ of_pair x y → TellsUpto w of_pair list (place_in w x y)
      → TellsUpto w of_pair (set list (place_in w x y) value) (place_in w x y + 1)
  told_more {X} of_pair list x y value p q room is told a b d u v less =
      let n : ℕ = length w.reached.seats in
      let place : ℕ = place_in w x y in
      elim (cases_eq (place_in w a b) place) [
        | inl same ↦
            let both = same_place n x y a b p q u v same in
            let here : get_or (set list place value) place d ≡ value =
            get_or-set_same list place value d (let lt : place < length list = omega (arith, room, inside n x y p q) in lt) in
            ap (λ (i : ℕ). get_or (set list place value) i d) same
            ∙ (here ∙ (is ∙ (ap (λ (k : ℕ). of_pair k y) (sym both.0) ∙ ap (λ (k : ℕ). of_pair a k) (sym both.1))))
        | inr other ↦ get_or-set_other list place (place_in w a b) value d other ∙ told a b d u v (omega arith)
      ]

  -- the numbers behind a place that was written, by another name of it
  told_by : {X : Type 0} (of_pair : ℕ → ℕ → X) (list new : List X) (x y at : ℕ) (value : X) → at ≡ place_in w x y → new ≡ set list at value
      → TellsUpto w of_pair (set list (place_in w x y) value) (place_in w x y + 1) → TellsUpto w of_pair new (place_in w x y + 1)
  told_by {X} of_pair list new x y at value same written told =
      subst (λ (l : List X). TellsUpto w of_pair l (place_in w x y + 1)) (sym (written ∙ ap (λ (i : ℕ). set list i value) same)) told

  -- a pair more, in both lists of a table
  pub told_pair : (old new : PairTable) (x y at weight : ℕ) (meets : Bool) → IsNumber w.reached x → IsNumber w.reached y → HasPairs w old
      → at ≡ place_in w x y → new.weights ≡ set old.weights at weight → new.meets.items ≡ set old.meets.items at meets
      → weight ≡ pair_weight w x y → meets ≡ numbers_meet w.facts w.reached x y
      → TellsPairsUpto w old (place_in w x y) → TellsPairsUpto w new (place_in w x y + 1)
  told_pair old new x y at weight meets p q room same weights are weighs may told = (
    told_by (pair_weight w) old.weights new.weights x y at weight same weights
        (told_more (pair_weight w) old.weights x y weight p q room.0 weighs told.0),
    told_by (numbers_meet w.facts w.reached) old.meets.items new.meets.items x y at meets same are
        (told_more (numbers_meet w.facts w.reached) old.meets.items x y meets p q room.1 may told.1),
  )

  -- what the first two of the classes of a pair weigh, who stand in a table before it, is what the pair weighs
  pub stands_before : (table : PairTable) (x y f g : ℕ) → IsNumber w.reached x → IsNumber w.reached y → IsFirstFor w x f → IsFirstFor w y g
      → ¬ ((f ≡ x) × (g ≡ y)) → TellsPairsUpto w table (place_in w x y)
      → get_or table.weights (place_in w f g) 0 ≡ pair_weight w x y
  stands_before table x y f g p q first second other told =
      told.0 f g 0 (first.0, omega (arith, first.1.0, p.1)) (second.0, omega (arith, second.1.0, q.1))
      (before (length w.reached.seats) x y f g p q (first.0, first.1.0) (second.0, second.1.0) other)
      ∙ same_weight w x y f g first.1.1 second.1.1

  -- one number more of which a first one of its class is told
  pub one_first_more : (list : List ℕ) (first : ℕ) → TellsFirstsUpto w list (length list) → IsFirstFor w (length list + 1) first
      → TellsFirstsUpto w (list ++ first ∷ []) (length list + 1)
  one_first_more list first told is a some upto =
      elim (cases_lt (a - 1) (length list)) [
        | inl lt ↦ subst (IsFirstFor w a) (sym (get_or_append_left list (first ∷ []) 0 (a - 1) lt)) (told a some (omega (arith, lt)))
        | inr ge ↦
            let here : length list + 1 ≡ a = omega (arith, some, upto, ge) in
            let at : first ≡ get_or (list ++ first ∷ []) (a - 1) 0 = sym (ap (λ (i : ℕ). get_or (list ++ first ∷ []) (i - 1) 0) (sym here) ∙ get_or_push list first 0 (length list + 1 - 1) (omega arith)) in
            subst (IsFirstFor w a) at (subst (λ (i : ℕ). IsFirstFor w i first) here is)
      ]

-- a table that tells of the first numbers, of the bracket or below, with one more put at its place
pub one_more_below : (w : Weighing) (table : List NextWeight) (end : ℕ) (value : NextWeight) → end < length table
    → TellsBelowUpto w table end → value ≡ next_weight_of w (end + 1) → TellsBelowUpto w (set table end value) (end + 1)
one_more_below w table end value inside told is a d number upto =
    elim (cases_eq (a - 1) end) [
      | inl same ↦
          let here : end + 1 ≡ a = omega (arith, same, number.0) in
          ap (λ (i : ℕ). get_or (set table end value) i d) same
          ∙ (get_or-set_same table end value d inside ∙ (is ∙ ap (next_weight_of w) here))
      | inr other ↦ get_or-set_other table end (a - 1) value d other ∙ told a d number (omega (arith, other, upto, number.0))
    ]
