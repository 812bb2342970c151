use Rattle.std.proofs.Common.{◌∙◌, arith}
use Rattle.dutch_sequence.proofs.Spending.{spends-more}
use Rattle.round_lines.specs.CandidateTexts.{line_text}
use Rattle.round_lines.proofs.ListingLemmas.{underway_end, underway_line}
use Rattle.round_lines.proofs.listing.put_candidates.Goals as goal

pub returns-in-End-clause-listing : goal.returns-in-End-clause-listing
returns-in-End-clause-listing g c =
    underway_end c.args.text.now (line_text c.args.coming.bracket.field.now c.args.coming.bracket.reached.now) _ c.loop-done.candidates.coming c.loop-done.done c.args.count _ c.args.budget.now.limit c.loop-done.invariant.underway c.in-End.ensures.answer.0 c.loop-done-test.true

pub loop-done-preserved : goal.loop-done-preserved
loop-done-preserved g c = record {
  underway = underway_line c.args.coming.bracket.field.now c.args.coming.bracket.reached.now c.args.text.now _ c.loop-done.candidates.coming _ c.in-Found.candidate c.loop-done.candidates.frame c.loop-done.done _ _ c.loop-done.invariant.underway c.in-Found.ensures.answer.0 c.in-Found.ensures.answer.1 c.loop-done.invariant.frame c.in_ok-put_line-in-Found.ensures;
  frame = c.next.ensures.frame ∙ c.loop-done.invariant.frame;
  within = omega (arith, c.loop-done-test.true);
  spends = spends-more c.loop-done.invariant.spends c.next.ensures.spends;
}
