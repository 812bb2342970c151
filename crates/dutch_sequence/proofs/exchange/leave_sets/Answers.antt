use Rattle.std.proofs.Common.{subst, sym}
use Rattle.dutch_sequence.specs.Prelude.{Stands, hinted, exchange_plan}
use Rattle.dutch_sequence.proofs.SearchStates.{left-known, sets-left}
use Rattle.dutch_sequence.proofs.Skipping.{passes-keeps}
use Rattle.dutch_sequence.proofs.exchange.leave_sets.Goals as goal

pub returns-clause-stands : goal.returns-clause-stands
returns-clause-stands c =
    let sides = c.args.sides.now in
    let stood = c.requires.stood in
    let left = c.leave.ensures in
    (stood.0, stood.1, subst (λ path. Stands (hinted c.args.state.now.hint.items (exchange_plan sides.pool.now sides.k c.args.state.now.size c.args.state.now.difference)) path) (sym left.path) stood.2, left-known sides.pool.now sides.k sides.ascends sides.enough c.args.state.now c.leave.new.descent stood left.beyond, passes-keeps _ _ _ _ left.passes stood.4)

pub returns-clause-passes : goal.returns-clause-passes
returns-clause-passes c =
    let sides = c.args.sides.now in
    sets-left sides.pool.now sides.k sides.ascends sides.enough c.args.state.now c.leave.new.descent c.requires.stood c.leave.ensures.beyond c.requires.exchanged c.leave.ensures.passes
