-- A matching of a bracket's graph is the pairs of a candidate (C.04.3 B.1 to B.3, C.1 to C.4), which can be chosen if those whom it leaves
-- over may be.
use Rattle.std.proofs.Common.{◌≡◌, ℕ, ◌+◌, ◌≤◌, Bool, true, cond, ◌==◌, List, length, Option, Some, None, inl, inr, refl, sym, ap, subst, ◌∙◌, arith}
use Rattle.std.specs.List.{slice_get}
use Rattle.std.proofs.lemmas.Bool.{cases_Bool, cases_eq}
use Rattle.std.proofs.lemmas.List.{length-map}
use Rattle.matching.specs.Matchings.{Gives, IsMatching}
use Rattle.dutch_arrangements.specs.declared.bracket.Shape.{Shape}
use Rattle.dutch_sequence.specs.declared.numbers.TheConstants.{LIMIT}
use Rattle.dutch_arrangements.specs.Prelude.{numbers_from}
use Rattle.dutch_sequence.proofs.Members.{filter-length, length-numbers}
use Rattle.dutch_bracket.specs.Prelude.{Context, FitsHere, IsOf, eligible_here, frame_of, has_member, score_at, shape_here}
use Rattle.dutch_choice.specs.Mates.{mate_at, mate_of, matched_shape, may_leave, numbers_unmated}
use Rattle.dutch_choice.specs.declared.certified.ShapeFloor.{ShapeFloor}
use Rattle.dutch_choice.specs.ShapeCosts.{IsShapeFloor, are_pair, cost_of, joined, vertices}
use Rattle.dutch_choice.proofs.CheapShapes.{shape_reached}
use Rattle.dutch_choice.proofs.MateCandidates.{mates_eligible, mates_fit_here, pair_sym}

pub numbers_unmated_few : (context : Context) (partners : List (Option ℕ)) → length (numbers_unmated context partners) ≤ length context.reached.seats
numbers_unmated_few context partners =
    let numbers : List ℕ = numbers_from 1 (length context.reached.seats) in
    let test : ℕ → Bool = λ a. mate_of context partners a == a in
    omega (arith, filter-length test numbers, length-numbers 1 (length context.reached.seats))

module _ (context : Context) where
  -- whoever is not their own mate has their mate as partner, and the two may be a pair
  given_at : (o : Option (Option ℕ)) (a : ℕ) → (mate_at context a o ≡ a → ⊥)
      → (o ≡ Some (Some (mate_at context a o))) × (are_pair context a (mate_at context a o) ≡ true)
  given_at None a ne = absurd (ne refl)
  given_at (Some None) a ne = absurd (ne refl)
  given_at (Some (Some b)) a ne = elim (cases_Bool (are_pair context a b)) [
    | inl on ↦
        (let own : mate_at context a (Some (Some b)) ≡ b = ap (λ t. cond t b a) on in
        (ap (λ c. Some (Some c)) (sym own), ap (are_pair context a) own ∙ on))
    | inr off ↦ absurd (ne (ap (λ t. cond t b a) off))
  ]

  module _ (partners : List (Option ℕ)) (matching : IsMatching (vertices context) (joined context) partners)
      (within : context.reached.mdps ≤ length context.reached.seats) where
    abbrev mate : ℕ → ℕ
    mate = mate_of context partners

    are : (x : ℕ) → (mate x ≡ x → ⊥) → are_pair context x (mate x) ≡ true
    are x ne = (given_at (slice_get partners x) x ne).1

    mate_given : (a b : ℕ) → Gives partners a b → are_pair context a b ≡ true → mate a ≡ b
    mate_given a b given on = ap (mate_at context a) given ∙ ap (λ t. cond t b a) on

    back : (x : ℕ) → mate (mate x) ≡ x
    back x = elim (cases_eq (mate x) x) [
      | inl same ↦ ap mate same ∙ same
      | inr ne ↦
          mate_given (mate x) x (matching.pairs x (mate x) (given_at (slice_get partners x) x ne).0).back (pair_sym context (mate x) x ∙ are x ne)
    ]

    pub matched_fits : FitsHere context (matched_shape context partners)
    matched_fits = mates_fit_here context mate are back within

    pub matched_eligible : may_leave context (numbers_unmated context partners) ≡ true → has_member (eligible_here context (matched_shape context partners)) ≡ true
    matched_eligible = mates_eligible context mate are back within

-- what a matching tells whose pairs cost as little as a floor allows
pub told : (context : Context) (partners : List (Option ℕ)) → IsMatching (vertices context) (joined context) partners
    → IsOf context.facts context.reached → length context.reached.seats ≤ LIMIT → (floor : ShapeFloor) → IsShapeFloor context floor → (shape : Shape)
    → shape ≡ matched_shape context partners → floor.debt + cost_of context shape ≤ floor.base
    → may_leave context (numbers_unmated context partners) ≡ true → shape_here context ≡ Some shape
told context partners matching of' small floor bound shape is reached can =
    let count : length (frame_of context.facts context.reached).scores ≡ length context.reached.seats = length-map context.reached.seats (score_at context.facts) in
    let within : context.reached.mdps ≤ length context.reached.seats = omega (arith, of'.sound.within, count) in
    let here : Shape = matched_shape context partners in
    shape_reached context of' small floor bound here (matched_fits context partners matching within)
    (subst (λ (s : Shape). floor.debt + cost_of context s ≤ floor.base) is reached) (matched_eligible context partners matching within can)
    ∙ ap (λ (s : Shape). Some s) (sym is)
