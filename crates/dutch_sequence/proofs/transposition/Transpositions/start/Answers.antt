use Rattle.std.proofs.Common.{◌∙◌, []}
use Rattle.dutch_sequence.proofs.TupleSearch.{transpositions-found, transpositions-trials, tuples-at, tuple-trials-at}
use Rattle.dutch_sequence.proofs.transposition.Transpositions.start.Goals as goal

pub returns-clause-coming : goal.returns-clause-coming
returns-clause-coming g c =
    tuples-at (g.R.Rule.meets c.args.rule.now) _ c.args.meeting.now.first.now _ c.args.meeting.now.pool.now _ [] _ _ 0 c.fill.ensures c.fill-2.ensures c.clear.ensures c.restart.ensures.path c.restart.ensures.number
    ∙ transpositions-found (g.R.Rule.meets c.args.rule.now) c.args.meeting.now.first.now c.args.meeting.now.pool.now c.args.meeting.now.ascends

pub returns-clause-left : goal.returns-clause-left
returns-clause-left g c =
    tuple-trials-at (g.R.Rule.meets c.args.rule.now) _ c.args.meeting.now.first.now _ c.args.meeting.now.pool.now _ [] _ _ 0 c.fill.ensures c.fill-2.ensures c.clear.ensures c.restart.ensures.path c.restart.ensures.number
    ∙ transpositions-trials (g.R.Rule.meets c.args.rule.now) c.args.meeting.now.first.now c.args.meeting.now.pool.now c.args.meeting.now.ascends
