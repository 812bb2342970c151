-- It is a witness.
use Rattle.std.proofs.Common.{rules}
use Rattle.dual.specs.Prelude.{IsWitness}
use Rattle.dual.proofs.Witnesses.{completable}
use Rattle.dual.proofs.witness.tells_completable.Goals as goal

pub returns-then-may_all_meet-clause-sound : goal.returns-then-may_all_meet-clause-sound
returns-then-may_all_meet-clause-sound g c = λ e.
    let witness : IsWitness (g.R.MatchingRule.costs c.args.rule.now).meets (g.R.MatchingRule.costs c.args.rule.now).may_be_left c.args.players.now c.args.pairs.now c.args.left = search rules in
    completable (g.R.MatchingRule.costs c.args.rule.now).meets (g.R.MatchingRule.costs c.args.rule.now).may_be_left c.args.players.now c.args.pairs.now c.args.left witness
