-- What a listing of a bracket lists once it begins anew, by the bracket's rules as they are narrowed to what is wished: candidates of the
-- bracket, and of those that grant that all.
use Rattle.std.proofs.Common.{◌≡◌, ℕ, Bool, true, List, Option, filter, sym, ap, subst, ◌∙◌}
use Rattle.dutch_player.specs.Prelude.{Facts}
use Rattle.dutch_arrangements.specs.declared.bracket.Shape.{Shape}
use Rattle.dutch_arrangements.specs.Prelude.{Arrangement, Frame, IsIn, Listing, candidates}
use Rattle.dutch_bracket.specs.Prelude.{Context, FitsHere, IsOf, Reached, candidates_here, candidates_of, frame_here, number_may_be_left, numbers_meet}
use Rattle.dutch_candidates.specs.declared.narrowed.NarrowedRule.{NarrowedRule}
use Rattle.dutch_candidates.specs.declared.wish.Wish.{Wish}
use Rattle.dutch_candidates.specs.Wishes.{is_wished, left_narrowed, meets_narrowed}
use Rattle.dutch_candidates.proofs.NarrowedCandidates.{narrowed_is_one, wished_alike}
use Rattle.dutch_choice.specs.Prelude.{ListsHere}

abbrev pub meets_by : Option Wish → Facts → Reached → ℕ → ℕ → Bool
meets_by wish facts reached = meets_narrowed wish (numbers_meet facts reached)

abbrev pub left_by : Option Wish → Facts → Reached → ℕ → Bool
left_by wish facts reached = left_narrowed wish (number_may_be_left facts reached)

abbrev pub narrowed_by : Option Wish → Facts → Reached → Frame → Shape → List Arrangement
narrowed_by wish facts reached frame shape = candidates (meets_by wish facts reached) (left_by wish facts reached) frame shape

abbrev pub narrowed_here : Context → Option Wish → Shape → List Arrangement
narrowed_here context wish shape = narrowed_by wish context.facts context.reached (frame_here context) shape

-- each is a candidate of the bracket
pub narrowed_inside : (context : Context) (wish : Option Wish) (shape : Shape) (a : Arrangement) → IsIn a (narrowed_here context wish shape) → IsIn a (candidates_here context shape)
unfolding candidates_of
narrowed_inside context wish shape a m =
    narrowed_is_one (numbers_meet context.facts context.reached) (number_may_be_left context.facts context.reached) wish (frame_here context) shape a m

-- of those that grant what is wished the same ones are listed
pub wished_inside : (context : Context) (wish : Option Wish) (shape : Shape) → IsOf context.facts context.reached → FitsHere context shape
    → (asked : Arrangement → Bool) → ((a : Arrangement) → asked a ≡ true → is_wished wish a ≡ true)
    → filter asked (candidates_here context shape) ≡ filter asked (narrowed_here context wish shape)
unfolding candidates_of
wished_inside context wish shape of' fits asked granted =
    wished_alike (numbers_meet context.facts context.reached) (number_may_be_left context.facts context.reached) wish (frame_here context) shape of'.sound.within
    fits.within_pairs asked granted

-- a listing that has begun, in the words of the bracket
pub listed_as : (context : Context) (wish : Option Wish) (shape : Shape) (rule : NarrowedRule) (frame : Frame) (coming : List Arrangement)
    → rule.rule.field.now ≡ context.facts → rule.rule.reached.now ≡ context.reached → rule.wish ≡ wish → frame ≡ frame_here context
    → coming ≡ narrowed_by rule.wish rule.rule.field.now rule.rule.reached.now frame shape → coming ≡ narrowed_here context wish shape
listed_as context wish shape rule frame coming field bracket wished frame' given =
    given
    ∙ ap (λ (w : Option Wish). narrowed_by w rule.rule.field.now rule.rule.reached.now frame shape) wished
    ∙ ap (λ (facts : Facts). narrowed_by wish facts rule.rule.reached.now frame shape) field
    ∙ ap (λ (reached : Reached). narrowed_by wish context.facts reached frame shape) bracket
    ∙ ap (λ (f : Frame). narrowed_by wish context.facts context.reached f shape) frame'

module _ (context : Context) (wish : Option Wish) (listing : Listing NarrowedRule) (lists : ListsHere context wish listing) where
  pub listed_narrowed : (shape : Shape) (coming : List Arrangement)
      → coming ≡ narrowed_by listing.rule.wish listing.rule.rule.field.now listing.rule.rule.reached.now listing.frame shape
      → coming ≡ narrowed_here context wish shape
  listed_narrowed shape coming given =
      listed_as context wish shape listing.rule listing.frame coming lists.field lists.bracket lists.wished lists.frame given

  -- its rule is that of the bracket
  pub meets_listed : meets_by wish context.facts context.reached ≡ meets_by listing.rule.wish listing.rule.rule.field.now listing.rule.rule.reached.now
  meets_listed =
      sym (ap (λ (w : Option Wish). meets_by w listing.rule.rule.field.now listing.rule.rule.reached.now) lists.wished
      ∙ ap (λ (facts : Facts). meets_by wish facts listing.rule.rule.reached.now) lists.field
      ∙ ap (λ (reached : Reached). meets_by wish context.facts reached) lists.bracket)

  pub left_listed : left_by wish context.facts context.reached ≡ left_by listing.rule.wish listing.rule.rule.field.now listing.rule.rule.reached.now
  left_listed =
      sym (ap (λ (w : Option Wish). left_by w listing.rule.rule.field.now listing.rule.rule.reached.now) lists.wished
      ∙ ap (λ (facts : Facts). left_by wish facts listing.rule.rule.reached.now) lists.field
      ∙ ap (λ (reached : Reached). left_by wish context.facts reached) lists.bracket)

  -- and the bracket is one of its field
  pub sound_here : IsOf context.facts context.reached
  sound_here =
      subst (λ (facts : Facts). IsOf facts context.reached) lists.field
      (subst (λ (reached : Reached). IsOf listing.rule.rule.field.now reached) lists.bracket listing.rule.rule.sound)

  -- it stays one of the bracket where it goes on
  pub lists_stay : (new : Listing NarrowedRule) → new.frame ≡ listing.frame → new.rule ≡ listing.rule → ListsHere context wish new
  lists_stay new frame rule = record {
    frame = frame ∙ lists.frame;
    field = ap (λ (r : NarrowedRule). r.rule.field.now) rule ∙ lists.field;
    bracket = ap (λ (r : NarrowedRule). r.rule.reached.now) rule ∙ lists.bracket;
    wished = ap (λ (r : NarrowedRule). r.wish) rule ∙ lists.wished;
  }
