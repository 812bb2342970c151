-- The candidates of a bracket by its rules as they are narrowed to a wish (C.04.3 B.3): each is a candidate of the bracket, and all that grant
-- the wish are among them.
use Rattle.std.proofs.Common.{◌≡◌, ℕ, ◌≤◌, Bool, true, false, not, ◌&&◌, ◌||◌, List, [], ◌∷◌, length, filter, Option, inl, inr, refl, sym, arith}
use Rattle.std.specs.List.{AllByRecursion, zip}
use Rattle.std.proofs.lemmas.Bool.{and_from, and_parts}
use Rattle.dutch_arrangements.specs.declared.bracket.Shape.{Shape}
use Rattle.dutch_arrangements.specs.Prelude.{Arrangement, Frame, IsIn, all_meet, arrangements, candidates, down, is_legal, leaves_one}
use Rattle.dutch_sequence.proofs.Orders.{IsIn-back, IsIn-filter, IsIn-front, filter-IsIn, member_has}
use Rattle.dutch_player.proofs.PresentLemmas.{or_more}
use Rattle.dutch_bracket.specs.Prelude.{number_pairs}
use Rattle.dutch_bracket.proofs.C07WeakerRules.{legal_weaker}
use Rattle.dutch_candidates.specs.declared.wish.Wish.{Wish}
use Rattle.dutch_candidates.specs.Wishes.{fits_as_left, fits_as_pair, is_wished, left_narrowed, meets_narrowed}
use Rattle.dutch_candidates.proofs.WishFits.{left_fits, pairs_fit}

same_truth : (s t : Bool) → (s ≡ true → t ≡ true) → (t ≡ true → s ≡ true) → s ≡ t
same_truth true t there back = sym (there refl)
same_truth false true there back = back refl
same_truth false false there back = refl

-- two tests that agree on all that are asked for let the same ones of them pass
filter_alike : {X : Type 0} (asked one other : X → Bool) (xs : List X) → ((x : X) → IsIn x xs → asked x ≡ true → one x ≡ other x)
    → filter asked (filter one xs) ≡ filter asked (filter other xs)
filter_alike asked one other [] same = refl
filter_alike asked one other (x ∷ xs) same =
    let here : asked x ≡ true → one x ≡ other x = same x (inl refl) in
    let later : filter asked (filter one xs) ≡ filter asked (filter other xs) = filter_alike asked one other xs (λ y m. same y (inr m)) in
    grind (arith, here, later)

module _ (meets : ℕ → ℕ → Bool) (may_be_left : ℕ → Bool) (wish : Option Wish) where
  -- ---- each is a candidate of the bracket

  pub narrowed_is_one : (frame : Frame) (shape : Shape) (a : Arrangement) → IsIn a (candidates (meets_narrowed wish meets) (left_narrowed wish may_be_left) frame shape)
      → IsIn a (candidates meets may_be_left frame shape)
  narrowed_is_one frame shape a m =
      let kept = IsIn-filter (is_legal (meets_narrowed wish meets) (left_narrowed wish may_be_left) frame) a (arrangements frame shape) m in
      filter-IsIn (is_legal meets may_be_left frame) a (arrangements frame shape) kept.0
      (legal_weaker (meets_narrowed wish meets) meets (left_narrowed wish may_be_left) may_be_left (λ i j e. (and_parts (fits_as_pair wish i j) (meets i j) e).1)
      (λ i e. (and_parts (fits_as_left wish i) (may_be_left i) e).1) frame a kept.1)

  -- ---- whoever grants the wish is one of them

  all_narrowed : (xs ys : List ℕ) → ((pair : ℕ × ℕ) → IsIn pair (zip xs ys) → fits_as_pair wish pair.0 pair.1 ≡ true) → all_meet meets xs ys ≡ true
      → all_meet (meets_narrowed wish meets) xs ys ≡ true
  all_narrowed [] ys fit meet = refl
  all_narrowed (x ∷ xs) [] fit meet = refl
  all_narrowed (x ∷ xs) (y ∷ ys) fit meet =
      let parts = and_parts (meets x y) (all_meet meets xs ys) meet in
      and_from (fits_as_pair wish x y && meets x y) (all_meet (meets_narrowed wish meets) xs ys)
      (and_from (fits_as_pair wish x y) (meets x y) (fit (x, y) (inl refl)) parts.0) (all_narrowed xs ys (λ pair m. fit pair (inr m)) parts.1)

  one_narrowed : (players : List ℕ) → AllByRecursion (λ v. fits_as_left wish v ≡ true) players → leaves_one may_be_left players ≡ true
      → leaves_one (left_narrowed wish may_be_left) players ≡ true
  one_narrowed [] fit left = refl
  one_narrowed (x ∷ []) fit left = and_from (fits_as_left wish x) (may_be_left x) fit.0 left
  one_narrowed (x ∷ y ∷ players) fit left = left

  module _ (frame : Frame) (shape : Shape) (within : frame.mdps ≤ length frame.scores) (fewer : shape.mdps ≤ shape.pairs) where
    legal_narrowed : (a : Arrangement) → IsIn a (arrangements frame shape) → is_wished wish a ≡ true → is_legal meets may_be_left frame a ≡ true
        → is_legal (meets_narrowed wish meets) (left_narrowed wish may_be_left) frame a ≡ true
    legal_narrowed a m granted legal =
        let first = and_parts (all_meet meets a.s1 a.s2) (all_meet meets a.s1r a.s2r && (not frame.last || leaves_one may_be_left (down frame a))) legal in
        let second = and_parts (all_meet meets a.s1r a.s2r) (not frame.last || leaves_one may_be_left (down frame a)) first.1 in
        let fit : (pair : ℕ × ℕ) → IsIn pair (number_pairs a) → fits_as_pair wish pair.0 pair.1 ≡ true =
        member_has (λ (pair : ℕ × ℕ). fits_as_pair wish pair.0 pair.1 ≡ true) (number_pairs a) (pairs_fit frame shape a within fewer m wish granted) in
        and_from (all_meet (meets_narrowed wish meets) a.s1 a.s2) _
        (all_narrowed a.s1 a.s2 (λ pair n. fit pair (IsIn-front pair (zip a.s1 a.s2) (zip a.s1r a.s2r) n)) first.0)
        (and_from (all_meet (meets_narrowed wish meets) a.s1r a.s2r) _
        (all_narrowed a.s1r a.s2r (λ pair n. fit pair (IsIn-back pair (zip a.s1 a.s2) (zip a.s1r a.s2r) n)) second.0)
        (or_more (not frame.last) (leaves_one may_be_left (down frame a)) (leaves_one (left_narrowed wish may_be_left) (down frame a))
        (one_narrowed (down frame a) (left_fits frame shape a within fewer m wish granted)) second.1))

    -- so of those that grant the wish the same ones are listed
    pub wished_alike : (asked : Arrangement → Bool) → ((a : Arrangement) → asked a ≡ true → is_wished wish a ≡ true)
        → filter asked (candidates meets may_be_left frame shape) ≡ filter asked (candidates (meets_narrowed wish meets) (left_narrowed wish may_be_left) frame shape)
    wished_alike asked granted =
        filter_alike asked (is_legal meets may_be_left frame) (is_legal (meets_narrowed wish meets) (left_narrowed wish may_be_left) frame) (arrangements frame shape)
        (λ a m e. same_truth _ _ (legal_narrowed a m (granted a e))
        (legal_weaker (meets_narrowed wish meets) meets (left_narrowed wish may_be_left) may_be_left (λ i j e. (and_parts (fits_as_pair wish i j) (meets i j) e).1)
        (λ i e. (and_parts (fits_as_left wish i) (may_be_left i) e).1) frame a))
