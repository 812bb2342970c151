-- What a floor tells of shapes (C.04.3 C.5, B.1): one that costs less has no candidate that can be chosen; and one that costs no more, and
-- has one, is the bracket's shape.
use Rattle.std.proofs.Common.{◌≡◌, ℕ, ◌+◌, ◌-◌, ◌*◌, ◌<◌, ◌≤◌, Bool, false, true, length, Option, Some, None, inl, inr, refl, ap, ◌∙◌, arith}
use Rattle.std.proofs.lemmas.Bool.{cases_lt, false_from_ne_true, and_parts}
use Rattle.std.proofs.lemmas.List.{length-map}
use Rattle.dutch_arrangements.specs.declared.bracket.Shape.{Shape}
use Rattle.dutch_sequence.specs.declared.numbers.TheConstants.{LIMIT}
use Rattle.dutch_sequence.proofs.Orders.{IsIn-map}
use Rattle.dutch_bracket.specs.Prelude.{Context, FitsHere, IsOf, IsGreater, down_from, eligible_here, fits, frame_here, has_member, score_at, shape_here, shapes_with}
use Rattle.dutch_bracket.proofs.ShapeLaws.{has_one, has_room, none_has_one, none_is_greater}
use Rattle.dutch_bracket.proofs.ShapeSearch.{fits_by_test, found_in, has, none_in, shape_with}
use Rattle.dutch_choice.specs.declared.certified.ShapeFloor.{ShapeFloor}
use Rattle.dutch_choice.specs.ShapeCosts.{IsTooCheap, IsShapeFloor, cost_of}

module _ (context : Context) where
  pub too_cheap_by : (floor : ShapeFloor) → IsShapeFloor context floor → (shape : Shape) → floor.debt + cost_of context shape < floor.base → IsTooCheap context shape
  too_cheap_by floor bound shape beyond t room less =
      false_from_ne_true (has_member (eligible_here context t)) (λ some. omega (arith, bound t room some, less, beyond))

  -- a shape that is cheap has no candidate that can be chosen
  pub none_of : (shape : Shape) → IsTooCheap context shape → FitsHere context shape → has_member (eligible_here context shape) ≡ false
  none_of shape cheap room = cheap shape room (omega arith)

  abbrev counts : Shape → Bool
  counts = has (eligible_here context) (fits (frame_here context))

  none_there : (pairs mdps : ℕ) → IsTooCheap context (shape_with pairs 0) → counts (shape_with pairs mdps) ≡ false
  none_there pairs mdps cheap =
      false_from_ne_true (counts (shape_with pairs mdps)) (λ both.
      let parts = and_parts (fits (frame_here context) (shape_with pairs mdps)) (has_member (eligible_here context (shape_with pairs mdps))) both in
      let fewer : context.reached.mdps - mdps ≤ context.reached.mdps - 0 = omega arith in
      let less : cost_of context (shape_with pairs mdps) ≤ cost_of context (shape_with pairs 0) = omega (arith, fewer) in
      let none = cheap (shape_with pairs mdps) (fits_by_test (frame_here context) (shape_with pairs mdps) parts.0) less in
      let some = parts.1 in cc)

  -- so no shape with so many pairs is found, if the one that costs most is cheap
  pub none_with : (pairs : ℕ) → IsTooCheap context (shape_with pairs 0) → found_in (eligible_here context) (fits (frame_here context)) (shapes_with pairs) ≡ None
  none_with pairs cheap =
      none_in (eligible_here context) (fits (frame_here context)) (shapes_with pairs) (λ shape m.
      let from = IsIn-map (shape_with pairs) shape (down_from pairs) m in ap counts from.1 ∙ none_there pairs from.0 cheap)

  -- ---- the shape

  limit : LIMIT ≡ 1024
  limit = refl

  count : length (frame_here context).scores ≡ length context.reached.seats
  count = length-map context.reached.seats (score_at context.facts)

  same_cost : (n q : ℕ) (s t : Shape) → q ≤ n → n ≤ 1024 → s.pairs + s.pairs ≤ n → t.pairs + t.pairs ≤ n → s.mdps ≤ q → t.mdps ≤ q
      → 4096 * ((n - t.pairs) - t.pairs) + 2 * (q - t.mdps) ≤ 4096 * ((n - s.pairs) - s.pairs) + 2 * (q - s.mdps)
      → ¬ IsGreater t s → s ≡ t
  same_cost n q s t within small room room' few few' less level =
      let pairs : s.pairs ≡ t.pairs = elim (cases_lt s.pairs t.pairs) [
        | inl more ↦ absurd (level (inl more))
        | inr other ↦ elim (cases_lt t.pairs s.pairs) [
          | inl fewer ↦ absurd (omega (arith, fewer, within, small, room, room', few, few', less))
          | inr same ↦ omega (arith, other, same)
        ]
      ] in
      let mdps : s.mdps ≡ t.mdps = elim (cases_lt s.mdps t.mdps) [
        | inl more ↦ absurd (level (inr (pairs, more)))
        | inr other ↦ omega (arith, other, pairs, few, few', less)
      ] in
      ap (λ (p : ℕ). record { pairs = p; mdps = s.mdps }) pairs ∙ ap (λ (m : ℕ). record { pairs = t.pairs; mdps = m }) mdps

  twice : (shape : Shape) → FitsHere context shape → shape.pairs + shape.pairs ≤ length context.reached.seats
  twice shape room = omega (arith, room.within_pairs, room.within_moved_down, room.residents_enough, count)

  module _ (of' : IsOf context.facts context.reached) (small : length context.reached.seats ≤ LIMIT) (floor : ShapeFloor) (bound : IsShapeFloor context floor) (t : Shape)
      (room : FitsHere context t) (reached : floor.debt + cost_of context t ≤ floor.base) (some : has_member (eligible_here context t) ≡ true) where
    shape_at : (o : Option Shape) → shape_here context ≡ o → shape_here context ≡ Some t
    shape_at None e = absurd (none_has_one context.facts context.reached context.lower t e room some)
    shape_at (Some s) e =
        let room_s = has_room context.facts context.reached context.lower s e in
        let costs = bound s room_s (has_one context.facts context.reached context.lower s e) in
        let same : s ≡ t =
        same_cost (length context.reached.seats) context.reached.mdps s t (omega (arith, of'.sound.within, count)) (omega (arith, small, limit))
        (twice s room_s) (twice t room) room_s.within_moved_down room.within_moved_down (omega (arith, costs, reached))
        (none_is_greater context.facts context.reached context.lower s t e room some) in
        e ∙ ap (λ shape. Some shape) same

    pub shape_reached : shape_here context ≡ Some t
    shape_reached = shape_at (shape_here context) refl
