-- A power in the upper part.
use Rattle.dual.proofs.Powers.{power}
use Rattle.dual.proofs.quarter.Quarter.power_of_two.Goals as goal

pub returns-else-bit-lt128-clause-value : goal.returns-else-bit-lt128-clause-value
returns-else-bit-lt128-clause-value c = power c.args.bit c.if-bit-lt128.false c.requires
