-- Why no candidate that can be chosen grants a wish (C.04.3 B.1, C.4, C.5), and which shape a stage has.
use Rattle.std.proofs.Common.{◌≡◌, ◌≤◌, ◌<◌, ◌+◌, ◌⊎◌, ℕ, Bool, true, false, not, ◌&&◌, ◌||◌, cond, List, [], ◌∷◌, ◌++◌, filter, length, Some, None, inl, inr, refl, sym, ap, ◌∙◌, subst, arith}
use Rattle.std.specs.List.{list_any, AllByRecursion}
use Rattle.std.proofs.lemmas.Bool.{and_parts, and_right, cases_lt, not-true, true≢false}
use Rattle.dutch_arrangements.specs.declared.bracket.Shape.{Shape}
use Rattle.dutch_arrangements.specs.Prelude.{Arrangement, Fits, Frame, Passes}
use Rattle.dutch_player.specs.Prelude.{Facts}
use Rattle.dutch_rounds.specs.Stage.{Stage}
use Rattle.dutch_candidates.specs.declared.wish.Wish.{Wish}
use Rattle.dutch_bracket.specs.Prelude.{Context, FitsHere, IsOf, candidates_here, eligible_here, Reached, frame_of, candidates_of, eligible, is_penultimate, shape_of, fits, has_member}
use Rattle.dutch_candidates.specs.Wishes.{grants}
use Rattle.dutch_choice.specs.Prelude.{best_wished, NoneGrants, granting, is_better_here, some_grants, with_mdps}
use Rattle.dutch_rounds.specs.Prelude.{above_lower, lower_of, IsStage, choice_of}
use Rattle.dutch_choice.proofs.BestLemmas.{best_of_some, chosen_is, order_in}
use Rattle.dutch_choice.proofs.Listings.{narrowed_here, wished_inside}
use Rattle.dutch_completion.proofs.EligibleLemmas.{eligible_all}
use Rattle.dutch_bracket.proofs.ShapeLaws.{has_room, none_is_greater}
use Rattle.dutch_bracket.proofs.ShapeSearch.{fits_by_test}

-- of those that are skipped none grants the wish
front_passed : (wish : Wish) (skipped rest : List Arrangement) → AllByRecursion (λ a. not (grants wish a) ≡ true) skipped
    → list_any (grants wish) (skipped ++ rest) ≡ list_any (grants wish) rest
front_passed wish [] rest h = refl
front_passed wish (a ∷ skipped) rest h =
    ap (λ t. t || list_any (grants wish) (skipped ++ rest)) (not-true (grants wish a) h.0) ∙ front_passed wish skipped rest h.1

pub skipped_same : (wish : Wish) (before after : List Arrangement) → Passes (λ a. not (grants wish a) ≡ true) before after
    → list_any (grants wish) before ≡ list_any (grants wish) after
skipped_same wish before after (skipped, same, h) = ap (list_any (grants wish)) same ∙ front_passed wish skipped after h

kept_at : (test : Arrangement → Bool) (a : Arrangement) (rest : List Arrangement) (t : Bool) → test a ≡ t
    → list_any test rest ≡ has_member (filter test rest) → (t || list_any test rest) ≡ has_member (cond t (a ∷ filter test rest) (filter test rest))
kept_at test a rest true e same = refl
kept_at test a rest false e same = same

-- some pass a test where a filter keeps some
any_kept : (test : Arrangement → Bool) (all : List Arrangement) → list_any test all ≡ has_member (filter test all)
any_kept test [] = refl
any_kept test (a ∷ rest) = kept_at test a rest (test a) refl (any_kept test rest)

-- a candidate of a bracket grants the wish where one does that is listed by the narrower rules
pub granted_listed : (context : Context) (shape : Shape) (wish : Wish) (coming : List Arrangement) → IsOf context.facts context.reached → FitsHere context shape
    → coming ≡ narrowed_here context (Some wish) shape → list_any (grants wish) (candidates_here context shape) ≡ list_any (grants wish) coming
granted_listed context shape wish coming of' fits listed =
    any_kept (grants wish) (candidates_here context shape)
    ∙ ap has_member (wished_inside context (Some wish) shape of' fits (grants wish) (λ a granted. granted))
    ∙ sym (any_kept (grants wish) (narrowed_here context (Some wish) shape)) ∙ ap (list_any (grants wish)) (sym listed)

module _ (context : Context) (shape : Shape) (wish : Wish) where
  none_at : (t : Bool) → has_member (granting context shape wish) ≡ t → best_wished context (Some wish) shape ≡ None → t ≡ false
  unfolding best_wished
  none_at true some none = absurd (best_of_some (is_better_here context) (order_in context) (granting context shape wish) some none)
  none_at false some none = refl

  -- where there is no best one, none that can be chosen grants the wish
  pub none_granting : best_wished context (Some wish) shape ≡ None → list_any (grants wish) (eligible_here context shape) ≡ false
  none_granting none = any_kept (grants wish) (eligible_here context shape) ∙ none_at _ refl none

module _ (facts : Facts) (reached : Reached) (lower : List ℕ) (shape : Shape) (wish : Wish) where
  -- and elsewhere than in a penultimate bracket none at all
  pub none_legal : is_penultimate reached.kind ≡ false → list_any (grants wish) (eligible facts reached lower shape) ≡ false
      → list_any (grants wish) (candidates_of facts reached shape) ≡ false
  none_legal elsewhere none = ap (list_any (grants wish)) (sym (eligible_all facts reached lower shape elsewhere)) ∙ none

-- a bracket with room for a shape has as many players as it has pairs
pub few_pairs : (frame : Frame) (shape : Shape) → Fits frame shape → shape.pairs ≤ length frame.scores
few_pairs frame shape h = omega (arith, h.within_pairs, h.within_moved_down, h.residents_enough)

any_there : (test : Arrangement → Bool) (all : List Arrangement) → list_any test all ≡ true → has_member all ≡ true
any_there test [] h = absurd (true≢false (sym h))
any_there test (a ∷ rest) h = refl

-- ---- which legal candidates with as many pairs as a shape grant a wish

module _ (facts : Facts) (reached : Reached) (wish : Wish) (shape : Shape) where
  abbrev grants_with : ℕ → Bool
  grants_with mdps = some_grants facts reached wish (with_mdps shape mdps)

  abbrev NoneFrom : ℕ → ℕ → Type 0
  NoneFrom from to = NoneGrants facts reached wish shape from to

  -- the shape itself
  own : list_any (grants wish) (candidates_of facts reached shape) ≡ false → grants_with shape.mdps ≡ false
  own none = and_right (fits (frame_of facts reached) shape) (list_any (grants wish) (candidates_of facts reached shape)) none

  upto_at : (mdps : ℕ) → grants_with shape.mdps ≡ false → NoneFrom 0 shape.mdps → mdps < shape.mdps + 1 → (mdps < shape.mdps) ⊎ (shape.mdps ≤ mdps) → grants_with mdps ≡ false
  upto_at mdps one fewer below (inl less) = fewer mdps (omega arith) less
  upto_at mdps one fewer below (inr least) =
      let same : shape.mdps ≡ mdps = omega (arith, below, least) in ap grants_with (sym same) ∙ one

  -- as many moved-down players as the shape has, or fewer
  pub none_upto : list_any (grants wish) (candidates_of facts reached shape) ≡ false → NoneFrom 0 shape.mdps → NoneFrom 0 (shape.mdps + 1)
  none_upto none fewer = λ mdps least below. upto_at mdps (own none) fewer below (cases_lt mdps shape.mdps)

  -- more moved-down players than pairs
  too_many : (mdps : ℕ) (t : Bool) → fits (frame_of facts reached) (with_mdps shape mdps) ≡ t → shape.pairs < mdps → grants_with mdps ≡ false
  too_many mdps true e more =
      let room = fits_by_test (frame_of facts reached) (with_mdps shape mdps) e in
      let few : mdps ≤ shape.pairs = room.within_pairs in absurd (omega (arith, few, more))
  too_many mdps false e more = ap (λ t. t && list_any (grants wish) (candidates_of facts reached (with_mdps shape mdps))) e

  all_at : (mdps : ℕ) → NoneFrom 0 (shape.mdps + 1) → NoneFrom (shape.mdps + 1) (shape.pairs + 1) → (shape.mdps < mdps) ⊎ (mdps ≤ shape.mdps) → (shape.pairs < mdps) ⊎ (mdps ≤ shape.pairs)
      → grants_with mdps ≡ false
  all_at mdps few many (inr fewer) pairs = few mdps (omega arith) (omega (arith, fewer))
  all_at mdps few many (inl more) (inl all) = too_many mdps (fits (frame_of facts reached) (with_mdps shape mdps)) refl all
  all_at mdps few many (inl more) (inr within) = many mdps (omega (arith, more)) (omega (arith, within))

  pub none_at_all : list_any (grants wish) (candidates_of facts reached shape) ≡ false → NoneFrom 0 shape.mdps → NoneFrom (shape.mdps + 1) (shape.pairs + 1)
      → (mdps : ℕ) → grants_with mdps ≡ false
  none_at_all none fewer more mdps = all_at mdps (none_upto none fewer) more (cases_lt shape.mdps mdps) (cases_lt shape.pairs mdps)

  module _ (lower : List ℕ) where
    more_at : (mdps : ℕ) (t : Bool) → grants_with mdps ≡ t → is_penultimate reached.kind ≡ false → shape_of facts reached lower ≡ Some shape → shape.mdps < mdps → t ≡ false
    more_at mdps false e elsewhere is more = refl
    more_at mdps true e elsewhere is more =
        let wider = with_mdps shape mdps in
        let both = and_parts (fits (frame_of facts reached) wider) _ e in
        let there = any_there (grants wish) (candidates_of facts reached wider) both.1 in
        absurd (none_is_greater facts reached lower shape wider is (fits_by_test (frame_of facts reached) wider both.0)
        (ap has_member (eligible_all facts reached lower wider elsewhere) ∙ there) (inr (refl, more)))

    -- where all legal candidates can be chosen, none with as many pairs has more moved-down players in them
    pub none_more : is_penultimate reached.kind ≡ false → shape_of facts reached lower ≡ Some shape → NoneFrom (shape.mdps + 1) (shape.pairs + 1)
    none_more elsewhere is = λ mdps least below. more_at mdps (grants_with mdps) refl elsewhere is (omega (arith, least))

-- a stage's shape is its bracket's
pub stage_shape : (facts : Facts) (stage : Stage) → IsStage facts stage → shape_of facts stage.reached (lower_of facts stage.reached) ≡ Some stage.shape
stage_shape facts stage h = (chosen_is facts stage.reached (lower_of facts stage.reached) (choice_of stage) h.choice).0

-- a stage has room for its shape
stage_fits : (facts : Facts) (stage : Stage) → IsStage facts stage → Fits (frame_of facts stage.reached) stage.shape
stage_fits facts stage h =
    has_room facts stage.reached (lower_of facts stage.reached) stage.shape (stage_shape facts stage h)

-- and so has a bracket that was read as the stage's
pub read_fits : (facts : Facts) (stage : Stage) {k : Context} {shape : Shape} → k ≡ above_lower facts stage.reached → shape ≡ stage.shape → IsStage facts stage → FitsHere k shape
read_fits facts stage {k = k} read is h =
    subst (λ s. FitsHere k s) (sym is) (subst (λ (b : Context). FitsHere b stage.shape) (sym read) (stage_fits facts stage h))

-- and it is the bracket's shape
pub read_shape : (facts : Facts) (stage : Stage) {k : Context} {shape : Shape} → k ≡ above_lower facts stage.reached → shape ≡ stage.shape → IsStage facts stage
    → shape_of k.facts k.reached k.lower ≡ Some shape
read_shape facts stage read is h = ap (λ (b : Context). shape_of b.facts b.reached b.lower) read ∙ stage_shape facts stage h ∙ ap (λ s. Some s) (sym is)
