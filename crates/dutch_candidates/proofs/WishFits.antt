-- The pairs of an arrangement that grants a wish fit it, and so do those whom it leaves over (C.04.3 B.3): no player is in two of its pairs.
use Rattle.std.proofs.Common.{◌≡◌, ℕ, ◌≤◌, ◌⊎◌, true, false, not, List, [], ◌∷◌, ◌++◌, length, Option, Some, None, inl, inr, refl, sym, ap, subst, ◌∙◌, arith}
use Rattle.std.specs.Prelude.{◌==◌}
use Rattle.std.specs.List.{AllByRecursion, list_any}
use Rattle.std.proofs.lemmas.Bool.{and_from, and_parts, eqb-true, false_from_ne_true, not-true, not_from_false, or_cases, true≢false}
use Rattle.std.proofs.lemmas.Bool.Decides.{nat_tests}
use Rattle.dutch_arrangements.specs.declared.bracket.Shape.{Shape}
use Rattle.dutch_arrangements.specs.Prelude.{Arrangement, Frame, IsIn, NoneTwice, arrangements, by_place, down, is_member, paired, pairs_by_number, players_in, players_of}
use Rattle.dutch_listing.proofs.FormArrangements.{form-of}
use Rattle.dutch_arrangements.proofs.NoneTwice.{in-left}
use Rattle.dutch_sequence.proofs.Orders.{IsIn-append, IsIn-back, IsIn-front, all_members, in-member}
use Rattle.dutch_candidates.specs.declared.wish.Wish.{Wish}
use Rattle.dutch_candidates.specs.declared.wish.Wish.TheVariants.{Pair, LeftOver}
use Rattle.dutch_bracket.specs.Prelude.{number_pairs}
use Rattle.dutch_candidates.specs.Wishes.{are_these, fits_as_left, fits_as_pair, has_player, is_wished, parts}
use Rattle.dutch_bracket.proofs.AnyLemmas.{found_in}
use Rattle.dutch_candidates.proofs.WishLemmas.{pairs_numbered}

-- ---- players as numbers of a pair

abbrev Holds : ℕ → ℕ × ℕ → Type 0
Holds z pair = (z ≡ pair.0) ⊎ (z ≡ pair.1)

holds_so : (p : ℕ) (pair : ℕ × ℕ) → has_player p pair ≡ true → Holds p pair
holds_so p pair h = grind (arith, nat_tests)

hold_both : (p q : ℕ) (pair : ℕ × ℕ) → are_these p q pair ≡ true → Holds p pair × Holds q pair
hold_both p q pair h = (grind (arith, nat_tests), grind (arith, nat_tests))

pub place_of : (pair : ℕ × ℕ) (xs ys : List ℕ) → IsIn pair (by_place xs ys) → IsIn pair.0 xs × IsIn pair.1 ys
place_of pair [] ys m = absurd m
place_of pair (x ∷ xs) [] m = absurd m
place_of pair (x ∷ xs) (y ∷ ys) m = grind (arith, place_of pair xs ys)

-- who is in a pair is in one of the four lists
is_in : (z : ℕ) (a : Arrangement) (pair : ℕ × ℕ) → IsIn pair (pairs_by_number a) → Holds z pair → IsIn z (paired a)
is_in z a pair m (inl first) =
    subst (λ y. IsIn y (paired a)) (sym first)
    (elim (IsIn-append pair (by_place a.s1 a.s2) (by_place a.s1r a.s2r) m) [
      | inl n ↦ IsIn-front pair.0 a.s1 (a.s2 ++ (a.s1r ++ a.s2r)) (place_of pair a.s1 a.s2 n).0
      | inr n ↦
          IsIn-back pair.0 a.s1 (a.s2 ++ (a.s1r ++ a.s2r))
          (IsIn-back pair.0 a.s2 (a.s1r ++ a.s2r) (IsIn-front pair.0 a.s1r a.s2r (place_of pair a.s1r a.s2r n).0))
    ])
is_in z a pair m (inr second) =
    subst (λ y. IsIn y (paired a)) (sym second)
    (elim (IsIn-append pair (by_place a.s1 a.s2) (by_place a.s1r a.s2r) m) [
      | inl n ↦
          IsIn-back pair.1 a.s1 (a.s2 ++ (a.s1r ++ a.s2r)) (IsIn-front pair.1 a.s2 (a.s1r ++ a.s2r) (place_of pair a.s1 a.s2 n).1)
      | inr n ↦
          IsIn-back pair.1 a.s1 (a.s2 ++ (a.s1r ++ a.s2r))
          (IsIn-back pair.1 a.s2 (a.s1r ++ a.s2r) (IsIn-back pair.1 a.s1r a.s2r (place_of pair a.s1r a.s2r n).1))
    ])

-- ---- no player is in two pairs

player_in : (z : ℕ) (pair : ℕ × ℕ) (pairs : List (ℕ × ℕ)) → IsIn pair pairs → Holds z pair → IsIn z (players_in pairs)
player_in z pair [] m h = absurd m
player_in z pair (x ∷ pairs) m h = grind (arith, player_in z pair pairs)

same_pair : (z : ℕ) (one other : ℕ × ℕ) (pairs : List (ℕ × ℕ)) → NoneTwice (players_in pairs) → IsIn one pairs → IsIn other pairs
    → Holds z one → Holds z other → one ≡ other
same_pair z one other [] once m n h g = absurd m
same_pair z one other (x ∷ pairs) once m n h g = grind (arith, same_pair z one other pairs once.1.1, player_in z one pairs, player_in z other pairs)

-- so of two who meet neither has another opponent
none_parted : (p q : ℕ) (pairs : List (ℕ × ℕ)) → NoneTwice (players_in pairs) → list_any (are_these p q) pairs ≡ true
    → (other : ℕ × ℕ) → IsIn other pairs → parts p q other ≡ false
none_parted p q pairs once some other n =
    let found = found_in (are_these p q) pairs some in
    let hold = hold_both p q found.0 found.2 in
    false_from_ne_true (parts p q other) (λ apart.
    let both = and_parts (not (are_these p q other)) _ apart in
    let same : found.0 ≡ other = elim (or_cases (has_player p other) _ both.1) [
      | inl one ↦ same_pair p found.0 other pairs once found.1 n hold.0 (holds_so p other one)
      | inr two ↦ same_pair q found.0 other pairs once found.1 n hold.1 (holds_so q other two)
    ] in
    true≢false (sym found.2 ∙ ap (are_these p q) same ∙ not-true (are_these p q other) both.0))

-- ---- an arrangement that grants what is wished

module _ (frame : Frame) (shape : Shape) (a : Arrangement) (within : frame.mdps ≤ length frame.scores) (fewer : shape.mdps ≤ shape.pairs)
    (m : IsIn a (arrangements frame shape)) where
  none_out : (z : ℕ) (pair : ℕ × ℕ) → is_member z (paired a) ≡ false → IsIn pair (pairs_by_number a) → has_player z pair ≡ false
  none_out z pair out n =
      false_from_ne_true (has_player z pair) (λ t. true≢false (sym (in-member z (paired a) (is_in z a pair n (holds_so z pair t))) ∙ out))

  -- each of its pairs fits
  pub pairs_fit : (wish : Option Wish) → is_wished wish a ≡ true → AllByRecursion (λ (pair : ℕ × ℕ). fits_as_pair wish pair.0 pair.1 ≡ true) (number_pairs a)
  pairs_fit None granted = all_members (λ (pair : ℕ × ℕ). true ≡ true) (number_pairs a) (λ pair n. refl)
  pairs_fit (Some (Pair p q)) granted =
      all_members (λ (pair : ℕ × ℕ). fits_as_pair (Some (Pair p q)) pair.0 pair.1 ≡ true) (number_pairs a)
      (λ pair n. ap not (none_parted p q (pairs_by_number a) (form-of frame shape a within fewer m).none_twice granted pair
      (subst (IsIn pair) (sym (pairs_numbered a)) n)))
  pairs_fit (Some (LeftOver p)) granted =
      all_members (λ (pair : ℕ × ℕ). fits_as_pair (Some (LeftOver p)) pair.0 pair.1 ≡ true) (number_pairs a)
      (λ pair n. ap not (none_out p pair (not-true (is_member p (paired a)) granted) (subst (IsIn pair) (sym (pairs_numbered a)) n)))

  other_than : (v z : ℕ) → IsIn v (down frame a) → IsIn z (paired a) → not (v == z) ≡ true
  other_than v z n paired' =
      not_from_false (v == z) (false_from_ne_true (v == z) (λ t.
      (in-left v (players_of frame) (paired a) n).1 (subst (λ y. IsIn y (paired a)) (sym (eqb-true v z t)) paired')))

  -- and each of those whom it leaves over
  pub left_fits : (wish : Option Wish) → is_wished wish a ≡ true → AllByRecursion (λ v. fits_as_left wish v ≡ true) (down frame a)
  left_fits None granted = all_members (λ v. true ≡ true) (down frame a) (λ v n. refl)
  left_fits (Some (Pair p q)) granted =
      let found = found_in (are_these p q) (pairs_by_number a) granted in
      let hold = hold_both p q found.0 found.2 in
      all_members (λ v. fits_as_left (Some (Pair p q)) v ≡ true) (down frame a)
      (λ v n. and_from (not (v == p)) (not (v == q)) (other_than v p n (is_in p a found.0 found.1 hold.0)) (other_than v q n (is_in q a found.0 found.1 hold.1)))
  left_fits (Some (LeftOver p)) granted = all_members (λ v. true ≡ true) (down frame a) (λ v n. refl)
