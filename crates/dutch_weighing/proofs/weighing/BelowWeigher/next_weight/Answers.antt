-- A number that weighs too much one way or the other is too heavy.
use Rattle.std.proofs.Common.{◌^◌}
use Rattle.dutch_weighing.specs.Prelude.{alone_weight, met_weight}
use Rattle.dutch_weighing.specs.WeightTables.{alone, met}
use Rattle.dutch_weighing.proofs.WeighingLemmas.{at_least}
use Rattle.dutch_weighing.proofs.weighing.BelowWeigher.next_weight.Goals as goal

pub returns-in_err-met : goal.returns-in_err-met
returns-in_err-met c =
    rw c.from_residual.ensures (met c.args.a c.requires (at_least (met_weight c.args.self.now.weigher.now c.args.a) (2 ^ 1024) c.in_err-met.ensures))

pub returns-in_err-alone : goal.returns-in_err-alone
returns-in_err-alone c =
    rw c.from_residual-in_err-alone.ensures
    (alone c.args.a c.requires (at_least (alone_weight c.args.self.now.weigher.now c.args.a) (2 ^ 1024) c.in_err-alone.ensures))
