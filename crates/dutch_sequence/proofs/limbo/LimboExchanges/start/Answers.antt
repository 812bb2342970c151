use Rattle.std.proofs.Common.{◌∙◌, arith, []}
use Rattle.dutch_sequence.specs.Prelude.{limbo_plan}
use Rattle.dutch_sequence.proofs.LimboSets.{limbo-found, limbo-at, limbo-trials-at}
use Rattle.dutch_sequence.proofs.Moves.{trials-nothing}
use Rattle.dutch_sequence.proofs.limbo.LimboExchanges.start.Goals as goal

pub returns-clause-coming : goal.returns-clause-coming
returns-clause-coming c =
    limbo-at _ c.args.scores.now c.args.k _ [] _ _ 0 c.fill.ensures c.clear.ensures c.restart.ensures.path c.restart.ensures.number
    ∙ limbo-found c.args.scores.now c.args.k c.requires.descends (λ i. omega (arith, c.type_inv.scores i))

pub returns-clause-nothing : goal.returns-clause-nothing
returns-clause-nothing c none =
    limbo-trials-at _ c.args.scores.now c.args.k _ [] _ _ 0 c.fill.ensures c.clear.ensures c.restart.ensures.path c.restart.ensures.number
    ∙ trials-nothing (limbo_plan c.args.scores.now c.args.k) (omega arith)
