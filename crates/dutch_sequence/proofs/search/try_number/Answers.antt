use Rattle.std.proofs.Common.{sym, arith, rules, ap, length, length-append, subst, ◌≤◌, [], ◌∷◌}
use Rattle.dutch_sequence.specs.Prelude.{Stands}
use Rattle.dutch_sequence.proofs.Moves.{ahead-taken, ahead-pass, Walked-longer}
use Rattle.dutch_sequence.proofs.search.try_number.Goals as goal

pub returns-then-admits-clause-goes_on : goal.returns-then-admits-clause-goes_on
returns-then-admits-clause-goes_on g c =
    ahead-taken (g.T.Tree.plan c.args.tree.now) c.args.descent.now.path c.requires.opened.0 c.args.descent.now.number c.push.new.self c.first_number-descent.result
    c.requires.tried (search rules) c.push.ensures cc

pub returns-else-admits-clause-goes_on : goal.returns-else-admits-clause-goes_on
returns-else-admits-clause-goes_on g c =
    ahead-pass (g.T.Tree.plan c.args.tree.now) c.args.descent.now.path c.requires.opened.0 c.args.descent.now.number c.requires.tried (search rules)

pub returns-then-admits-clause-stands : goal.returns-then-admits-clause-stands
returns-then-admits-clause-stands g c = (
  omega (arith, length-append c.args.descent.now.path (c.args.descent.now.number ∷ []), ap length c.push.ensures),
  Walked-longer (g.T.Tree.plan c.args.tree.now) c.args.descent.now.path c.push.new.self c.args.descent.now.number
      c.push.ensures c.requires.opened.1 c.requires.tried (search rules),
)

pub first_number-descent-requires : goal.first_number-descent-requires
first_number-descent-requires g c =
    subst (Stands (g.T.Tree.plan c.args.tree.now)) (sym c.as_slice-then-admits.ensures)
    (let few : length c.push.new.self ≤ (g.T.Tree.plan c.args.tree.now).places = omega (arith, length-append c.args.descent.now.path (c.args.descent.now.number ∷ []), ap length c.push.ensures) in (
      few,
      Walked-longer (g.T.Tree.plan c.args.tree.now) c.args.descent.now.path c.push.new.self c.args.descent.now.number
          c.push.ensures c.requires.opened.1 c.requires.tried (search rules),
    ))
