-- The barrier is too narrow.
use Rattle.std.proofs.Common.{rules}
use Rattle.std.specs.Prelude.{slice_index}
use Rattle.dual.specs.Prelude.{IsTooNarrow}
use Rattle.dual.proofs.Barriers.{not_completable}
use Rattle.dual.proofs.barrier.tells_incompletable.Goals as goal

pub returns-then-is_barrier-clause-sound : goal.returns-then-is_barrier-clause-sound
returns-then-is_barrier-clause-sound g c = λ e.
    let narrow : IsTooNarrow (g.R.MatchingRule.costs c.args.rule.now).meets (g.R.MatchingRule.costs c.args.rule.now).may_be_left c.args.players.now (slice_index c.args.labels.now) c.args.most = search rules in
    not_completable (g.R.MatchingRule.costs c.args.rule.now).meets (g.R.MatchingRule.costs c.args.rule.now).may_be_left c.args.players.now (slice_index c.args.labels.now) c.args.most narrow
