-- A pass begins with all candidates of its shape, or with the first that can be chosen: those before it are pruned.
use Rattle.std.proofs.Common.{◌≡◌, Bool, Option, None, filter, inl, inr, refl, sym, ap, ◌∙◌, subst}
use Rattle.std.proofs.lemmas.Bool.{and_parts}
use Rattle.dutch_arrangements.specs.declared.bracket.Shape.{Shape}
use Rattle.dutch_arrangements.specs.Prelude.{Arrangement, Candidate, IsIn, Listing}
use Rattle.dutch_candidates.specs.declared.greatest.Lister.{Lister}
use Rattle.dutch_candidates.specs.declared.narrowed.NarrowedRule.{NarrowedRule}
use Rattle.dutch_candidates.specs.Wishes.{is_wished}
use Rattle.dutch_bracket.specs.Prelude.{Context, IsOf, best, can_be_chosen_here}
use Rattle.dutch_bracket.proofs.LegalPairs.{legal_of}
use Rattle.dutch_choice.specs.declared.finder.Best.{Best}
use Rattle.dutch_choice.specs.declared.start.Start.{Start}
use Rattle.dutch_choice.specs.declared.start.Start.TheVariants.{Anew}
use Rattle.dutch_choice.specs.Prelude.{StandsAt, StandsBehindFirst, is_better_here}
use Rattle.dutch_choice.proofs.Listings.{narrowed_here, narrowed_inside, wished_inside}
use Rattle.dutch_passes.specs.declared.pass.Pass.{Pass}
use Rattle.dutch_passes.specs.Prelude.{IsChosenNext, IsHere, IsIncumbent, IsLentFor, ListsFor, LooksThrough, target_in, best_near, best_yet, is_near, is_open, is_sought}
use Rattle.dutch_passes.proofs.TargetLemmas.{unfit_skipped}
use Rattle.dutch_passes.proofs.SkippedLemmas.{left_was_there}

-- the one that stands drawn is of the bracket
pub drawn_is_here : (context : Context) (shape : Shape) (listing : Listing NarrowedRule) (drawn : Candidate) → StandsBehindFirst context shape listing drawn → IsHere context drawn
drawn_is_here context shape listing drawn stands = record {
  lists = (shape, (legal_of context.facts context.reached shape drawn.lists (left_was_there _ drawn.lists _ _ stands.passes (inl refl))).arranged);
  down = stands.down_is;
}

-- once it is looked at, the pass goes on behind it
pub begun_behind : (pass : Pass) (incumbent : Option Best) (listing : Listing NarrowedRule) (drawn : Candidate) → StandsBehindFirst pass.shaped.context.now pass.shaped.shape listing drawn
    → IsIncumbent pass.shaped.context.now incumbent → IsChosenNext pass None incumbent drawn.lists → LooksThrough pass incumbent listing
unfolding best_near
begun_behind pass incumbent listing drawn stands is next = record {
  chosen = unfit_skipped pass.shaped.context.now pass.wish (target_in pass.target) _ _ stands.passes ∙ sym (next listing.coming);
  incumbent_is = is;
  inside = λ lists m. left_was_there _ lists _ _ stands.passes (inr m);
  shape_is = stands.shape_is;
}

-- a listing that begins anew has all that grant what is wished
pub begun_anew : (pass : Pass) (listing : Listing NarrowedRule) → IsOf pass.shaped.context.now.facts pass.shaped.context.now.reached
    → listing.coming ≡ narrowed_here pass.shaped.context.now pass.wish pass.shaped.shape → listing.shape ≡ pass.shaped.shape → LooksThrough pass None listing
unfolding best_near best_yet
begun_anew pass listing of' all shape =
    let context = pass.shaped.context.now in
    let sought : Arrangement → Bool = is_sought context pass.wish (target_in pass.target) in
    record {
      chosen = ap (best (is_better_here context))
          (wished_inside context pass.wish pass.shaped.shape of' pass.shaped.fits sought
          (λ a is. (and_parts (can_be_chosen_here context a) (is_wished pass.wish a) (and_parts (is_open context pass.wish a) (is_near context (target_in pass.target) a) is).0).1)
          ∙ ap (filter sought) (sym all));
      incumbent_is = tt;
      inside = λ lists m. narrowed_inside context pass.wish pass.shaped.shape lists (subst (IsIn lists) all m);
      shape_is = shape;
    }

-- of a lister that stands somewhere no more is known
pub lent_anew : (pass : Pass) (start : Start) (lister : Lister NarrowedRule) → ListsFor pass lister.listing → start ≡ Anew → IsLentFor pass start lister
lent_anew pass start lister lists anew = (lists, subst (λ (s : Start). StandsAt pass.shaped.context.now pass.shaped.shape s lister) (sym anew) tt)
