-- The shape that is found is the greatest that a bracket has room for and that has a candidate (C.04.3 C.5, B.1).
use Rattle.std.proofs.Common.{◌≡◌, ℕ, zero, suc, ◌+◌, ◌-◌, ◌*◌, ◌/◌, ◌<◌, ◌≤◌, ◌↔◌, Bool, true, false, not, nat_lt, List, [], ◌∷◌, ◌++◌, length, Option, Some, None, inl, inr, refl, sym, ap, ◌∙◌, subst, arith}
use Rattle.std.specs.Prelude.{flat_map}
use Rattle.std.proofs.lemmas.Bool.{and_from, and_parts, cases_Bool, cases_lt}
use Rattle.std.proofs.lemmas.Bool.Decides.{nat_tests}
use Rattle.dutch_arrangements.specs.declared.bracket.Shape.{Shape}
use Rattle.dutch_arrangements.specs.Prelude.{IsIn, Frame, Arrangement, Fits, remainder_pairs}
use Rattle.dutch_sequence.proofs.Orders.{IsIn-append, IsIn-flat_map, IsIn-map, flat_map-IsIn, map-IsIn}
use Rattle.dutch_player.specs.Prelude.{Facts}
use Rattle.dutch_bracket.specs.Prelude.{Reached, frame_of, eligible, shape_of, IsGreater, down_from, fits, greatest_shape, has_member, shapes_upto, shapes_with, HasCandidate}
use Rattle.dutch_bracket.proofs.ShapeSearch.{fits_by_test, found_in, has, passed, shape_with, taken}

at_most : (a b : ℕ) → b ≤ a → not (nat_lt a b) ≡ true
at_most a b h = grind (arith, nat_tests)

-- a bracket that has room for a shape passes the test
test_by_fits : (frame : Frame) (shape : Shape) → Fits frame shape → fits frame shape ≡ true
test_by_fits frame shape h =
    and_from (not (nat_lt shape.pairs shape.mdps)) _ (at_most shape.pairs shape.mdps h.within_pairs)
    (and_from (not (nat_lt frame.mdps shape.mdps)) _ (at_most frame.mdps shape.mdps h.within_moved_down)
    (at_most (length frame.scores - frame.mdps) (shape.mdps + 2 * remainder_pairs shape) h.residents_enough))

pub room_by_test : (frame : Frame) (shape : Shape) → Fits frame shape ↔ (fits frame shape ≡ true)
room_by_test frame shape = (test_by_fits frame shape, fits_by_test frame shape)

half : (n p : ℕ) → 2 * p ≤ n → p ≤ n / 2
half n p h = omega (arith, h)

-- such a shape has no more pairs than half the players
few_pairs : (frame : Frame) (shape : Shape) → Fits frame shape → shape.pairs ≤ length frame.scores / 2
few_pairs frame shape h =
    half (length frame.scores) shape.pairs (omega (arith, h.within_pairs, h.within_moved_down, h.residents_enough))

not_greater : (t s : Shape) → t.pairs ≤ s.pairs → (t.pairs ≡ s.pairs → t.mdps ≤ s.mdps) → ¬ IsGreater t s
not_greater t s fewer level (inl more) = omega (arith, fewer, more)
not_greater t s fewer level (inr h) =
    let lt : s.mdps < t.mdps = h.1 in omega (arith, level (sym h.0), lt)

-- ---- shapes of which none is greater than one before it

abbrev Falls : List Shape → Type 0
Falls [] = Unit {0}
Falls (s ∷ rest) = ((t : Shape) → IsIn t rest → ¬ IsGreater t s) × Falls rest

falls_append : (xs ys : List Shape) → Falls xs → Falls ys → ((s t : Shape) → IsIn s xs → IsIn t ys → ¬ IsGreater t s) → Falls (xs ++ ys)
falls_append [] ys f g apart = g
falls_append (x ∷ xs) ys f g apart = (
  λ t m. elim (IsIn-append t xs ys m) [ inl front ↦ f.0 t front | inr back ↦ apart x t (inl refl) back ],
  falls_append xs ys f.1 g (λ s t m n. apart s t (inr m) n),
)

in_down : (k n : ℕ) → k ≤ n → IsIn k (down_from n)
in_down k zero le = inl (omega (arith, le))
in_down k (suc n) le = elim (cases_lt n k) [ inl more ↦ inl (omega (arith, le, more)) | inr few ↦ inr (in_down k n few) ]

pub down_in : (k n : ℕ) → IsIn k (down_from n) → k ≤ n
down_in k zero (inl same) = omega (arith, same)
down_in k zero (inr none) = absurd none
down_in k (suc n) (inl same) = omega (arith, same)
down_in k (suc n) (inr m) = omega (arith, down_in k n m)

pub of_pairs : (p n : ℕ) (t : Shape) → IsIn t (shapes_upto p n) → (t.pairs ≡ p) × (t.mdps ≤ n)
of_pairs p n t m =
    let from = IsIn-map (shape_with p) t (down_from n) m in
    (ap (λ (s : Shape). s.pairs) from.1, omega (arith, ap (λ (s : Shape). s.mdps) from.1, down_in from.0 n from.2))

falls_upto : (p n : ℕ) → Falls (shapes_upto p n)
falls_upto p zero = (λ t m. absurd m, tt)
falls_upto p (suc n) =
    (λ t m. let h = of_pairs p n t m in not_greater t (shape_with p (suc n)) (omega (arith, h.0)) (λ e. omega (arith, h.1)), falls_upto p n)

-- the shapes with at most so many pairs
abbrev pub all : ℕ → List Shape
all n = flat_map shapes_with (down_from n)

falls_all : (n : ℕ) → Falls (all n)
falls_all zero = (λ t m. absurd m, tt)
falls_all (suc n) =
    falls_append (shapes_with (suc n)) (all n) (falls_upto (suc n) (suc n)) (falls_all n) (λ s t m m'.
    let from = IsIn-flat_map shapes_with t (down_from n) m' in
    let low = down_in from.0 n from.1 in
    let first = of_pairs (suc n) (suc n) s m in
    let second = of_pairs from.0 from.0 t from.2 in
    not_greater t s (omega (arith, first.0, low, second.0)) (λ e. absurd (omega (arith, first.0, low, second.0, e))))

pub among : (n : ℕ) (t : Shape) → t.pairs ≤ n → t.mdps ≤ t.pairs → IsIn t (all n)
among n t few low =
    flat_map-IsIn shapes_with t t.pairs (down_from n) (in_down t.pairs n few) (map-IsIn (shape_with t.pairs) t.mdps (down_from t.pairs) (in_down t.mdps t.pairs low))

module _ (eligible_in : Shape → List Arrangement) (room : Shape → Bool) where
  abbrev counts : Shape → Bool
  counts = has eligible_in room

  -- of some shapes one is found: it counts, and none that counts is greater; or none is found: none counts
  abbrev pub IsGreatestOf : List Shape → Option Shape → Type 0
  IsGreatestOf some None = (t : Shape) → IsIn t some → counts t ≡ true → ⊥
  IsGreatestOf some (Some s) = IsIn s some × (counts s ≡ true) × ((t : Shape) → IsIn t some → counts t ≡ true → ¬ IsGreater t s)

  later_one : (s t : Shape) (rest : List Shape) → counts s ≡ false → counts t ≡ true → IsIn t (s ∷ rest) → IsIn t rest
  later_one s t rest off on (inl same) = let bad : true ≡ false = sym on ∙ ap counts same ∙ off in absurd (cc)
  later_one s t rest off on (inr m) = m

  one_more : (s : Shape) (rest : List Shape) (o : Option Shape) → counts s ≡ false → IsGreatestOf rest o → IsGreatestOf (s ∷ rest) o
  one_more s rest None off less = λ t m on. less t (later_one s t rest off on m) on
  one_more s rest (Some best) off less = (inr less.0, less.1, λ t m on. less.2 t (later_one s t rest off on m) on)

  greatest_of : (some : List Shape) → Falls some → IsGreatestOf some (found_in eligible_in room some)
  greatest_of [] falls = λ t m on. absurd m
  greatest_of (s ∷ rest) falls =
      elim (cases_Bool (counts s)) [
        | inl on ↦
            subst (IsGreatestOf (s ∷ rest)) (sym (taken eligible_in room s rest on)) (
              inl refl,
              on,
              λ t m here. elim m [
                | inl same ↦ not_greater t s (omega (arith, ap (λ (x : Shape). x.pairs) same)) (λ e. omega (arith, ap (λ (x : Shape). x.mdps) same))
                | inr later ↦ falls.0 t later
              ],
            )
        | inr off ↦
            subst (IsGreatestOf (s ∷ rest)) (sym (passed eligible_in room s rest off)) (one_more s rest (found_in eligible_in room rest) off (greatest_of rest falls.1))
      ]

-- what is found in a bracket is the greatest of its shapes
pub greatest_known : (eligible_in : Shape → List Arrangement) (frame : Frame) (o : Option Shape) → greatest_shape eligible_in frame ≡ o
    → IsGreatestOf eligible_in (fits frame) (all (length frame.scores / 2)) o
greatest_known eligible_in frame o e =
    subst (IsGreatestOf eligible_in (fits frame) (all (length frame.scores / 2))) e
    (greatest_of eligible_in (fits frame) (all (length frame.scores / 2)) (falls_all (length frame.scores / 2)))

-- ---- in a bracket

module _ (facts : Facts) (reached : Reached) (lower : List ℕ) where
  abbrev room_here : Shape → Bool
  room_here = fits (frame_of facts reached)

  abbrev all_here : List Shape
  all_here = all (length (frame_of facts reached).scores / 2)

  among_here : (t : Shape) → Fits (frame_of facts reached) t → IsIn t all_here
  among_here t h = among (length (frame_of facts reached).scores / 2) t (few_pairs (frame_of facts reached) t h) h.within_pairs

  counts_here : (t : Shape) → Fits (frame_of facts reached) t → has_member (eligible facts reached lower t) ≡ true → has (eligible facts reached lower) room_here t ≡ true
  counts_here t h has' = and_from (room_here t) (has_member (eligible facts reached lower t)) (test_by_fits (frame_of facts reached) t h) has'

  known : (o : Option Shape) → shape_of facts reached lower ≡ o → IsGreatestOf (eligible facts reached lower) room_here all_here o
  unfolding shape_of
  known o e = greatest_known (eligible facts reached lower) (frame_of facts reached) o e

  pub none_is_greater : (s t : Shape) → shape_of facts reached lower ≡ Some s → Fits (frame_of facts reached) t → has_member (eligible facts reached lower t) ≡ true → ¬ IsGreater t s
  none_is_greater s t e h has' = (known (Some s) e).2 t (among_here t h) (counts_here t h has')

  pub has_room : (s : Shape) → shape_of facts reached lower ≡ Some s → Fits (frame_of facts reached) s
  has_room s e = fits_by_test (frame_of facts reached) s (and_parts (room_here s) (has_member (eligible facts reached lower s)) (known (Some s) e).1).0

  pub has_one : (s : Shape) → shape_of facts reached lower ≡ Some s → has_member (eligible facts reached lower s) ≡ true
  has_one s e = (and_parts (room_here s) (has_member (eligible facts reached lower s)) (known (Some s) e).1).1

  pub none_has_one : (t : Shape) → shape_of facts reached lower ≡ None → Fits (frame_of facts reached) t → ¬ (has_member (eligible facts reached lower t) ≡ true)
  none_has_one t e h has' = known None e t (among_here t h) (counts_here t h has')

-- a bracket with a candidate that can be chosen has a shape
pub shape_there : (facts : Facts) (reached : Reached) (lower : List ℕ) → HasCandidate facts reached lower → shape_of facts reached lower ≡ None → ⊥
shape_there facts reached lower has none = none_has_one facts reached lower has.shape none has.room has.candidate
