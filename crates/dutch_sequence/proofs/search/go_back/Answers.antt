use Rattle.std.proofs.Common.{ap, sym, ◌∙◌, arith, length, length-append, [], ◌∷◌}
use Rattle.dutch_sequence.proofs.Moves.{ahead-gone_back, ahead-ended, Walked-shorter}
use Rattle.dutch_sequence.proofs.search.go_back.Goals as goal

pub returns-in-Some-clause-same : goal.returns-in-Some-clause-same
returns-in-Some-clause-same g c =
    ahead-gone_back (g.T.Tree.plan c.args.tree.now) c.args.descent.now.path c.pop.new.self c.in-Some.number c.args.descent.now.number
    c.in-Some.ensures c.requires.stood.0 c.requires.spent

pub returns-in-None-clause-ended : goal.returns-in-None-clause-ended
returns-in-None-clause-ended g c =
    λ _. ahead-ended (g.T.Tree.plan c.args.tree.now) c.args.descent.now.path c.pop.new.self c.args.descent.now.number
    (c.in-None.ensures.1 ∙ sym c.in-None.ensures.0) (ap length c.in-None.ensures.0) c.requires.spent

pub returns-in-Some-clause-stands : goal.returns-in-Some-clause-stands
returns-in-Some-clause-stands g c =
    let popped = Walked-shorter (g.T.Tree.plan c.args.tree.now) c.args.descent.now.path c.pop.new.self c.in-Some.number c.in-Some.ensures c.requires.stood.1 in
    (omega (arith, length-append c.pop.new.self (c.in-Some.number ∷ []), ap length c.in-Some.ensures, c.requires.stood.0), popped.0)
