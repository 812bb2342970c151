use Rattle.std.proofs.Common.{subst}
use Rattle.dutch_sequence.specs.Prelude.{GoesOn, IsSpent}
use Rattle.dutch_sequence.proofs.LeftOut.{pruned-left, past-left}
use Rattle.dutch_sequence.proofs.search.leave.Goals as goal

pub returns-clause-passes : goal.returns-clause-passes
returns-clause-passes g c =
    let plan = g.T.Tree.plan c.args.tree.now in
    let path = c.args.descent.now.path in
    pruned-left plan (GoesOn path) path c.args.descent.now.number c.end_number-descent.result
    (subst (λ path. IsSpent plan path c.end_number-descent.result) c.as_slice.ensures c.end_number-descent.ensures) (λ whole on. on)

pub returns-clause-past : goal.returns-clause-past
returns-clause-past g c =
    let plan = g.T.Tree.plan c.args.tree.now in
    past-left plan c.args.descent.now.path c.end_number-descent.result
    (subst (λ path. IsSpent plan path c.end_number-descent.result) c.as_slice.ensures c.end_number-descent.ensures)
