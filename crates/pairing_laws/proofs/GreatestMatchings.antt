-- The shape of a bracket is that of its greatest matchings (C.04.3 C.5, B.1).
use Rattle.std.proofs.Common.{◌≡◌, ℕ, ◌<◌, ◌≤◌, true, List, Option, Some, None, inl, inr, refl, sym, ap, subst, ◌∙◌, arith}
use Rattle.std.proofs.lemmas.Bool.{cases_lt}
use Rattle.dutch_arrangements.specs.declared.bracket.Shape.{Shape}
use Rattle.dutch_arrangements.specs.Prelude.{IsIn}
use Rattle.dutch_sequence.proofs.Orders.{IsIn-filter}
use Rattle.dutch_bracket.specs.Prelude.{Context, FitsHere, IsGreater, IsOf, can_be_chosen, candidates_of, eligible_here, has_member, is_penultimate, shape_here}
use Rattle.dutch_completion.proofs.EligibleLemmas.{eligible_is}
use Rattle.dutch_bracket.proofs.ShapeLaws.{has_one, has_room, none_has_one, none_is_greater}
use Rattle.dutch_bracket.proofs.ShapeSearch.{member_of}
use Rattle.pairing_laws.specs.GreatestMatchings.{HasGreatestMatching, IsBracketMatching, IsGreatestMatching, made_shape}
use Rattle.dutch_choice.proofs.CandidateCosts.{whole_of}
use Rattle.pairing_laws.proofs.CandidateShapes.{low_made, many_made}
use Rattle.pairing_laws.proofs.MatchingShapes.{matching_eligible, matching_fits}

-- a matching whose shape is no less than this one
record HasNoLess (context : Context) (shape : Shape) : Type 0 where
  pairs : List (ℕ × ℕ)
  out : List ℕ
  matching : IsBracketMatching context pairs out
  as_many : shape.pairs ≤ (made_shape context pairs).pairs
  as_low : shape.mdps ≤ (made_shape context pairs).mdps

-- a shape with a candidate that can be chosen has such a matching
no_less : (context : Context) → IsOf context.facts context.reached → (shape : Shape) → FitsHere context shape
    → has_member (eligible_here context shape) ≡ true → HasNoLess context shape
no_less context of' shape room some =
    let one = member_of (eligible_here context shape) some in
    let kept = IsIn-filter (can_be_chosen context.facts context.reached context.lower) one.0 (candidates_of context.facts context.reached shape)
    (subst (IsIn one.0) (eligible_is context.facts context.reached context.lower shape) one.1) in
    let all = whole_of context of' shape one.0 room kept.0 (is_penultimate context.reached.kind) refl kept.1 in
    record {
      pairs = all.pairs_all;
      out = all.out;
      matching = record { matching = all.matching; few = all.few };
      as_many = many_made context of' shape one.0 room kept.0 all.pairs_all all.more all.parts;
      as_low = low_made context of' shape one.0 room kept.0 all.pairs_all all.more all.parts;
    }

no_more : (t s : Shape) → ¬ IsGreater t s → t.pairs ≤ s.pairs
no_more t s level = elim (cases_lt s.pairs t.pairs) [ inl more ↦ absurd (level (inl more)) | inr few ↦ few ]

no_lower : (t s : Shape) → ¬ IsGreater t s → s.pairs ≡ t.pairs → t.mdps ≤ s.mdps
no_lower t s level same = elim (cases_lt s.mdps t.mdps) [ inl more ↦ absurd (level (inr (same, more))) | inr few ↦ few ]

-- two shapes are the same if one is no greater, and a third one that is no greater than it is no less than the other
between : (s m t : Shape) → s.pairs ≤ m.pairs → s.mdps ≤ m.mdps → ¬ IsGreater m t → ¬ IsGreater t s → s ≡ t
between s m t many low below level =
    let pairs : s.pairs ≡ t.pairs = omega (arith, many, no_more m t below, no_more t s level) in
    let middle : t.pairs ≡ m.pairs = omega (arith, many, no_more m t below, no_more t s level) in
    let mdps : s.mdps ≡ t.mdps = omega (arith, low, no_lower m t below middle, no_lower t s level pairs) in
    ap (λ (p : ℕ). record { pairs = p; mdps = s.mdps }) pairs ∙ ap (λ (m : ℕ). record { pairs = t.pairs; mdps = m }) mdps

not_itself : (s : Shape) → ¬ IsGreater s s
not_itself s (inl less) = omega (arith, less)
not_itself s (inr both) = let less : s.mdps < s.mdps = both.1 in omega (arith, less)

module _ (context : Context) (of' : IsOf context.facts context.reached) where
  -- no matching is greater than the bracket's shape
  none_greater : (shape : Shape) → shape_here context ≡ Some shape → (pairs : List (ℕ × ℕ)) (out : List ℕ) → IsBracketMatching context pairs out
      → ¬ IsGreater (made_shape context pairs) shape
  none_greater shape e pairs out is =
      none_is_greater context.facts context.reached context.lower shape (made_shape context pairs) e
      (matching_fits context of' pairs out is) (matching_eligible context of' pairs out is)

  no_less_here : (shape : Shape) → shape_here context ≡ Some shape → HasNoLess context shape
  no_less_here shape e =
      no_less context of' shape (has_room context.facts context.reached context.lower shape e) (has_one context.facts context.reached context.lower shape e)

  -- a bracket without a shape has no matching
  pub no_matching : shape_here context ≡ None → (pairs : List (ℕ × ℕ)) (out : List ℕ) → ¬ IsBracketMatching context pairs out
  no_matching e pairs out is =
      none_has_one context.facts context.reached context.lower (made_shape context pairs) e
      (matching_fits context of' pairs out is) (matching_eligible context of' pairs out is)

  shape_at : (pairs : List (ℕ × ℕ)) (out : List ℕ) → IsGreatestMatching context pairs out → (o : Option Shape) → shape_here context ≡ o
      → shape_here context ≡ Some (made_shape context pairs)
  shape_at pairs out is None e = absurd (no_matching e pairs out is.matching)
  shape_at pairs out is (Some shape) e =
      let best = no_less_here shape e in
      e ∙ ap (λ (s : Shape). Some s) (between shape (made_shape context best.pairs) (made_shape context pairs) best.as_many best.as_low
      (is.greatest best.pairs best.out best.matching) (none_greater shape e pairs out is.matching))

  -- the shape of a greatest matching is the bracket's
  pub greatest_told : (pairs : List (ℕ × ℕ)) (out : List ℕ) → IsGreatestMatching context pairs out → shape_here context ≡ Some (made_shape context pairs)
  greatest_told pairs out is = shape_at pairs out is (shape_here context) refl

  -- and it is the shape of one
  pub greatest_there : (shape : Shape) → shape_here context ≡ Some shape → HasGreatestMatching context shape
  greatest_there shape e =
      let best = no_less_here shape e in
      let made : Shape = made_shape context best.pairs in
      let same : shape ≡ made_shape context best.pairs =
      between shape made made best.as_many best.as_low (not_itself made) (none_greater shape e best.pairs best.out best.matching) in
      record {
        pairs = best.pairs;
        out = best.out;
        is_greatest = record {
          matching = best.matching;
          greatest = λ others left is. subst (λ (s : Shape). ¬ IsGreater (made_shape context others) s) same (none_greater shape e others left is);
        };
        has_shape = sym same;
      }
