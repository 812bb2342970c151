-- One candidate more, or the end of all candidates, tells whether one grants the wish.
use Rattle.std.proofs.Common.{◌||◌, Some, [], ◌∷◌, sym, ap, ◌∙◌}
use Rattle.std.specs.List.{list_any}
use Rattle.dutch_sequence.proofs.Spending.{spends-more, spends-none}
use Rattle.dutch_candidates.specs.Wishes.{grants}
use Rattle.dutch_choice.specs.Prelude.{ListsHere}
use Rattle.dutch_choice.proofs.Listings.{left_listed, listed_narrowed, lists_stay, meets_listed, sound_here}
use Rattle.dutch_rounds.proofs.InsteadLemmas.{granted_listed, skipped_same}
use Rattle.dutch_rounds.proofs.instead.is_granted_by.Goals as goal

pub loop-candidate-init : goal.loop-candidate-init
loop-candidate-init c =
    let shaped = c.args.wished.now.shaped in
    let context = shaped.context.now in
    let wish = c.args.wished.now.wish in
    let listing = c.restart.new.self in
    let lists : ListsHere context (Some wish) listing
    = lists_stay context (Some wish) c.args.candidates.now c.requires.lists listing c.restart.ensures.frame c.restart.ensures.rule in
    record {
      same = granted_listed context shaped.shape wish listing.coming (sound_here context (Some wish) listing lists) shaped.fits
          (listed_narrowed context (Some wish) c.args.candidates.now c.requires.lists shaped.shape listing.coming c.restart.ensures.coming);
      lists = lists;
      shape = c.restart.ensures.shape;
      spends = spends-none _;
    }

pub next_within-requires-clause-frame : goal.next_within-requires-clause-frame
next_within-requires-clause-frame c = sym c.loop-candidate.invariant.lists.frame

pub next_within-requires-clause-shape : goal.next_within-requires-clause-shape
next_within-requires-clause-shape c = sym c.loop-candidate.invariant.shape

pub next_within-requires-clause-meets : goal.next_within-requires-clause-meets
next_within-requires-clause-meets c =
    meets_listed c.args.wished.now.shaped.context.now (Some c.args.wished.now.wish) c.loop-candidate.candidates c.loop-candidate.invariant.lists

pub next_within-requires-clause-may_be_left : goal.next_within-requires-clause-may_be_left
next_within-requires-clause-may_be_left c =
    left_listed c.args.wished.now.shaped.context.now (Some c.args.wished.now.wish) c.loop-candidate.candidates c.loop-candidate.invariant.lists

pub returns-then-is_granted-clause-answer : goal.returns-then-is_granted-clause-answer
returns-then-is_granted-clause-answer c =
    let wish = c.args.wished.now.wish in
    let after = c.next_within.new.self.coming in
    sym (c.loop-candidate.invariant.same
    ∙ skipped_same wish c.loop-candidate.candidates.coming (c.in-Found.candidate.lists ∷ after) c.in-Found.ensures.answer.0
    ∙ ap (λ t. t || list_any (grants wish) after) (sym c.if-is_granted.ensures))

pub returns-then-is_granted-clause-spends : goal.returns-then-is_granted-clause-spends
returns-then-is_granted-clause-spends c = spends-more c.loop-candidate.invariant.spends c.in-Found.ensures.spends

pub loop-candidate-preserved : goal.loop-candidate-preserved
loop-candidate-preserved c =
    let wish = c.args.wished.now.wish in
    let before = c.loop-candidate.candidates.coming in
    let after = c.next_within.new.self.coming in
    record {
      same = c.loop-candidate.invariant.same
          ∙ skipped_same wish before (c.in-Found.candidate.lists ∷ after) c.in-Found.ensures.answer.0
          ∙ ap (λ t. t || list_any (grants wish) after) (sym c.if-is_granted.ensures);
      lists = lists_stay c.args.wished.now.shaped.context.now (Some wish) c.loop-candidate.candidates c.loop-candidate.invariant.lists c.next_within.new.self c.in-Found.ensures.frame
          c.in-Found.ensures.rule;
      shape = c.in-Found.ensures.shape ∙ c.loop-candidate.invariant.shape;
      spends = spends-more c.loop-candidate.invariant.spends c.in-Found.ensures.spends;
    }

pub returns-in-End-clause-answer : goal.returns-in-End-clause-answer
returns-in-End-clause-answer c =
    sym (c.loop-candidate.invariant.same ∙ skipped_same c.args.wished.now.wish c.loop-candidate.candidates.coming [] c.in-End.ensures.answer.0)

pub returns-in-End-clause-spends : goal.returns-in-End-clause-spends
returns-in-End-clause-spends c = spends-more c.loop-candidate.invariant.spends c.in-End.ensures.spends

pub returns-in-Undecided-clause-spends : goal.returns-in-Undecided-clause-spends
returns-in-Undecided-clause-spends c = spends-more c.loop-candidate.invariant.spends c.in-Undecided.ensures.spends
