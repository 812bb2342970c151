-- A barrier leaves over what is odd beyond its blockers.
use Rattle.std.proofs.Common.{rules, arith}
use Rattle.std.specs.Prelude.{slice_index}
use Rattle.dual.specs.Prelude.{IsBarrier}
use Rattle.dual.proofs.Barriers.{left_over}
use Rattle.dual.proofs.barrier.least_left.Goals as goal

pub returns-clause-sound : goal.returns-clause-sound
returns-clause-sound g c = λ pairs out whole met.
    let barrier : IsBarrier (g.R.MatchingRule.costs c.args.rule.now).meets c.args.players.now (slice_index c.args.labels.now) c.args.most = search rules in
    omega (
      arith,
      left_over (g.R.MatchingRule.costs c.args.rule.now).meets c.args.players.now (slice_index c.args.labels.now) c.args.most barrier pairs out whole met,
      c.saturating_sub.ensures,
      c.odd_groups.ensures.value,
      c.group_size.ensures.value,
    )
