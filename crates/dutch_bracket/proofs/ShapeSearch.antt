-- The first shape that has a candidate, one shape after another.
use Rattle.std.proofs.Common.{◌≡◌, ℕ, zero, suc, ◌+◌, ◌-◌, ◌*◌, ◌<◌, ◌≤◌, Bool, true, false, not, ◌&&◌, nat_lt, cond, List, [], ◌∷◌, ◌++◌, map, filter, length, Option, Some, None, inl, inr, refl, sym, ap, ◌∙◌, arith}
use Rattle.std.specs.Prelude.{flat_map}
use Rattle.std.proofs.lemmas.Bool.Decides.{nat_tests}
use Rattle.dutch_arrangements.specs.declared.bracket.Shape.{Shape}
use Rattle.dutch_arrangements.specs.Prelude.{Frame, Arrangement, Fits, remainder_pairs, Candidate, IsIn}
use Rattle.dutch_bracket.specs.Prelude.{IsFirst, down_from, fits, shapes_with, has_member, first_with}
use Rattle.std.proofs.lemmas.Bool.{and_parts}

not_below : (a b : ℕ) → not (nat_lt a b) ≡ true → b ≤ a
not_below a b h = grind (arith, nat_tests)

-- a shape that a bracket has room for, by the test
pub fits_by_test : (frame : Frame) (shape : Shape) → fits frame shape ≡ true → Fits frame shape
fits_by_test frame shape h =
    let others = (and_parts (not (nat_lt shape.pairs shape.mdps)) _ h).1 in
    record {
      within_pairs = not_below shape.pairs shape.mdps (and_parts (not (nat_lt shape.pairs shape.mdps)) _ h).0;
      within_moved_down = not_below frame.mdps shape.mdps (and_parts (not (nat_lt frame.mdps shape.mdps)) _ others).0;
      residents_enough = not_below (length frame.scores - frame.mdps) (shape.mdps + 2 * remainder_pairs shape) (and_parts (not (nat_lt frame.mdps shape.mdps)) _ others).1;
    }

-- a shape of which there is a first arrangement has one
pub first_there : (some : List Arrangement) (frame : Frame) (candidate : Candidate) → IsFirst some frame candidate → has_member some ≡ true
first_there some frame candidate h = ap has_member h.first

-- some arrangement is there exactly where one is a member
pub member_of : (some : List Arrangement) → has_member some ≡ true → (a : Arrangement) × IsIn a some
member_of [] h = absurd (cc)
member_of (a ∷ rest) h = (a, inl refl)

pub has_in : (a : Arrangement) (some : List Arrangement) → IsIn a some → has_member some ≡ true
has_in a [] m = absurd m
has_in a (b ∷ rest) m = refl

pub down_one : (n : ℕ) → 0 < n → down_from n ≡ n ∷ down_from (n - 1)
down_one zero h = let bad : ⊥ = omega (arith, h) in absurd bad
down_one (suc n) h = ap (λ k. suc n ∷ down_from k) (let e : n ≡ suc n - 1 = omega arith in e)

-- a shape with these pairs and moved-down players
abbrev pub shape_with : ℕ → ℕ → Shape
shape_with pairs mdps = record { pairs = pairs; mdps = mdps }

-- the shape that one list gives, and where it gives none that of another
abbrev or_else : Option Shape → Option Shape → Option Shape
or_else None other = other
or_else (Some shape) other = Some shape

or_cond : (t : Bool) (shape : Shape) (one other : Option Shape) → cond t (Some shape) (or_else one other) ≡ or_else (cond t (Some shape) one) other
or_cond true shape one other = refl
or_cond false shape one other = refl

module _ (eligible : Shape → List Arrangement) (room : Shape → Bool) where
  -- what is found in some shapes, of which those count that there is room for
  abbrev pub found_in : List Shape → Option Shape
  found_in shapes = first_with eligible (filter room shapes)

  -- there is room for a shape, and it has a candidate
  abbrev pub has : Shape → Bool
  has shape = room shape && has_member (eligible shape)

  first_at : (t : Bool) (shape : Shape) (rest : List Shape)
      → first_with eligible (cond t (shape ∷ rest) rest) ≡ cond (t && has_member (eligible shape)) (Some shape) (first_with eligible rest)
  first_at true shape rest = refl
  first_at false shape rest = refl

  first_of : (shape : Shape) (rest : List Shape) → found_in (shape ∷ rest) ≡ cond (has shape) (Some shape) (found_in rest)
  first_of shape rest = first_at (room shape) shape (filter room rest)

  pub taken : (shape : Shape) (rest : List Shape) → has shape ≡ true → found_in (shape ∷ rest) ≡ Some shape
  taken shape rest h = first_of shape rest ∙ ap (λ t. cond t (Some shape) (found_in rest)) h

  pub passed : (shape : Shape) (rest : List Shape) → has shape ≡ false → found_in (shape ∷ rest) ≡ found_in rest
  passed shape rest h = first_of shape rest ∙ ap (λ t. cond t (Some shape) (found_in rest)) h

  -- none of some shapes has a candidate
  pub none_in : (shapes : List Shape) → ((shape : Shape) → IsIn shape shapes → has shape ≡ false) → found_in shapes ≡ None
  none_in [] none = refl
  none_in (shape ∷ rest) none = passed shape rest (none shape (inl refl)) ∙ none_in rest (λ s m. none s (inr m))

  -- from a number of moved-down players downwards
  pub mdps_taken : (pairs n : ℕ) → has (shape_with pairs n) ≡ true → found_in (map (shape_with pairs) (down_from n)) ≡ Some (shape_with pairs n)
  mdps_taken pairs zero h = taken (shape_with pairs zero) [] h
  mdps_taken pairs (suc n) h = taken (shape_with pairs (suc n)) (map (shape_with pairs) (down_from n)) h

  pub mdps_passed : (pairs n : ℕ) → 0 < n → has (shape_with pairs n) ≡ false
      → found_in (map (shape_with pairs) (down_from n)) ≡ found_in (map (shape_with pairs) (down_from (n - 1)))
  mdps_passed pairs n more h = ap (λ ns. found_in (map (shape_with pairs) ns)) (down_one n more) ∙ passed (shape_with pairs n) (map (shape_with pairs) (down_from (n - 1))) h

  pub mdps_ended : (pairs n : ℕ) → n ≡ 0 → has (shape_with pairs n) ≡ false → found_in (map (shape_with pairs) (down_from n)) ≡ None
  mdps_ended pairs zero e h = passed (shape_with pairs zero) [] h
  mdps_ended pairs (suc n) e h = let bad : ⊥ = omega (arith, e) in absurd bad

  found_append : (front back : List Shape) → found_in (front ++ back) ≡ or_else (found_in front) (found_in back)
  found_append [] back = refl
  found_append (shape ∷ front) back =
      first_of shape (front ++ back) ∙ ap (cond (has shape) (Some shape)) (found_append front back)
      ∙ or_cond (has shape) shape (found_in front) (found_in back) ∙ ap (λ one. or_else one (found_in back)) (sym (first_of shape front))

  -- some shapes in front of others: what is found in them, and where they have none, what is found in the others
  pub some_first : (front back : List Shape) (shape : Shape) → found_in front ≡ Some shape → found_in (front ++ back) ≡ Some shape
  some_first front back shape h = found_append front back ∙ ap (λ one. or_else one (found_in back)) h

  pub none_first : (front back : List Shape) → found_in front ≡ None → found_in (front ++ back) ≡ found_in back
  none_first front back h = found_append front back ∙ ap (λ one. or_else one (found_in back)) h

  -- from a number of pairs downwards
  pub pairs_taken : (n : ℕ) (shape : Shape) → found_in (shapes_with n) ≡ Some shape → found_in (flat_map shapes_with (down_from n)) ≡ Some shape
  pairs_taken zero shape h = some_first (shapes_with zero) [] shape h
  pairs_taken (suc n) shape h = some_first (shapes_with (suc n)) (flat_map shapes_with (down_from n)) shape h

  pub pairs_passed : (n : ℕ) → 0 < n → found_in (shapes_with n) ≡ None
      → found_in (flat_map shapes_with (down_from n)) ≡ found_in (flat_map shapes_with (down_from (n - 1)))
  pairs_passed n more h =
      ap (λ ns. found_in (flat_map shapes_with ns)) (down_one n more) ∙ none_first (shapes_with n) (flat_map shapes_with (down_from (n - 1))) h

  found_has : (t : Bool) (shape wanted : Shape) (rest : List Shape) → has_member (eligible shape) ≡ t → (first_with eligible rest ≡ Some wanted → has_member (eligible wanted) ≡ true)
      → cond t (Some shape) (first_with eligible rest) ≡ Some wanted → has_member (eligible wanted) ≡ true
  found_has true shape wanted rest e later h = let same : shape ≡ wanted = cc in ap (λ s. has_member (eligible s)) (sym same) ∙ e
  found_has false shape wanted rest e later h = later h

  -- the shape that is found has a candidate
  pub first_has : (shapes : List Shape) (wanted : Shape) → first_with eligible shapes ≡ Some wanted → has_member (eligible wanted) ≡ true
  first_has [] wanted h = let bad : None ≡ Some wanted = h in absurd (cc)
  first_has (shape ∷ rest) wanted h = found_has (has_member (eligible shape)) shape wanted rest refl (first_has rest wanted) h
