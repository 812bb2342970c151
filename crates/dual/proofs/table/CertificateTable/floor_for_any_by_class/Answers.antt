use Rattle.std.proofs.Common.{rules, ◌%◌, ◌^◌, length}
use Rattle.dual.specs.Prelude.{GivesEvenly, IsBelow, certificate_in}
use Rattle.dual.proofs.FloorLemmas.{for_each_left}
use Rattle.dual.proofs.table.CertificateTable.floor_for_any_by_class.Goals as goal

pub returns-clause-least : goal.returns-clause-least
returns-clause-least g c =
    let even : GivesEvenly (certificate_in c.args.self.now) = search rules in
    for_each_left (g.R.MatchingRule.costs c.args.pool.now.rule.now) c.args.pool.now.players.now (certificate_in c.args.self.now)
    (IsBelow (g.R.MatchingRule.costs c.args.pool.now.rule.now) c.args.pool.now.players.now (length c.args.pool.now.players.now % 2) (certificate_in c.args.self.now) (2 ^ 1024)) even (λ remade. remade.floor) c.floor_by_class.result
    c.floor_by_class.ensures.whole c.floor_by_class.ensures.value
