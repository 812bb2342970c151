-- One candidate more that cannot be chosen, one that can, or the end of all candidates.
use Rattle.std.proofs.Common.{rules, ◌≡◌, None, sym, ap, ◌∙◌, filter}
use Rattle.dutch_bracket.specs.Prelude.{can_be_chosen_here, candidates_in, candidates_of}
use Rattle.dutch_bracket.specs.Eligible.{can_be_chosen}
use Rattle.dutch_completion.proofs.EligibleLemmas.{eligible_is, passed_more}
use Rattle.dutch_sequence.proofs.Skipping.{passes-none}
use Rattle.dutch_sequence.proofs.Spending.{spends-none}
use Rattle.dutch_choice.proofs.Listings.{listed_narrowed, lists_stay}
use Rattle.dutch_choice.proofs.first_candidate.first_eligible.Goals as goal

pub loop-left-init : goal.loop-left-init
unfolding candidates_of
loop-left-init c =
    let context = c.args.shaped.now.context.now in
    let facts = context.facts in
    let reached = context.reached in
    let lower = context.lower in
    let shape = c.args.shaped.now.shape in
    let coming = c.restart.new.self.coming in
    let before = c.args.lister.now.listing in
    let listed : candidates_of facts reached shape ≡ coming =
    sym (listed_narrowed context None before c.requires.lists shape coming c.restart.ensures.coming) in
    record {
      same = eligible_is facts reached lower shape ∙ ap (filter (can_be_chosen facts reached lower)) listed;
      passed = passes-none _ _ _ listed;
      shape = c.restart.ensures.shape;
      lists = lists_stay context None before c.requires.lists c.restart.new.self c.restart.ensures.frame c.restart.ensures.rule;
      spends = spends-none _;
    }

pub loop-left-preserved : goal.loop-left-preserved
loop-left-preserved c = record {
  same = search rules;
  passed = passed_more (can_be_chosen_here c.args.shaped.now.context.now) c.put_next-drawn.new.candidate.lists (candidates_in c.args.shaped.now) c.loop-left.lister.listing.coming
      c.put_next-drawn.new.self.coming c.loop-left.invariant.passed (search rules)
      (sym c.in_ok-can_be_chosen.ensures.answer ∙ c.if-branch.false);
  shape = c.put_next-drawn.ensures.shape ∙ c.loop-left.invariant.shape;
  lists = search rules;
  spends = search rules;
}
