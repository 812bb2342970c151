-- A number of pairs that has no arrangement that counts is passed, and the first that has one gives the shape.
use Rattle.std.proofs.Common.{◌∙◌, arith}
use Rattle.std.proofs.lemmas.Option.{MatchOption-at_some, MatchOption-at_none}
use Rattle.dutch_bracket.specs.Prelude.{fits}
use Rattle.dutch_bracket.proofs.ShapeSearch.{pairs_taken, pairs_passed}
use Rattle.dutch_sequence.proofs.Spending.{spends-more}
use Rattle.dutch_candidates.proofs.greatest.greatest_shape.Goals as goal

pub returns-in-Some-clause-answer : goal.returns-in-Some-clause-answer
returns-in-Some-clause-answer g c =
    let found = MatchOption-at_some _ _ c.in-Some.shape c.in-Some.is c.in_ok-shape.ensures.answer in (
      c.loop-shape.invariant.found
          ∙ pairs_taken (g.S.Shapes.counting c.args.asked.now) (fits (g.S.Shapes.frame c.args.asked.now)) c.loop-shape.pairs c.in-Some.shape found.0,
      found.1,
    )

pub loop-shape-preserved : goal.loop-shape-preserved
loop-shape-preserved g c = record {
  found = c.loop-shape.invariant.found
      ∙ pairs_passed (g.S.Shapes.counting c.args.asked.now) (fits (g.S.Shapes.frame c.args.asked.now)) c.loop-shape.pairs (omega (arith, c.if-pairs-eq0.false))
      (MatchOption-at_none _ _ c.in_default.is c.in_ok-shape.ensures.answer);
  few = omega (arith, c.loop-shape.invariant.few);
  lists = c.shape_with.ensures.lists;
  spends = spends-more c.loop-shape.invariant.spends c.shape_with.ensures.spends;
}
