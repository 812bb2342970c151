-- A power in the upper quarter.
use Rattle.std.proofs.Common.{arith}
use Rattle.dual.proofs.Powers.{raised}
use Rattle.dual.proofs.half.Half.power_of_two.Goals as goal

pub returns-else-bit-lt256-clause-value : goal.returns-else-bit-lt256-clause-value
returns-else-bit-lt256-clause-value c =
    let whole = raised 256 c.args.bit c.if-bit-lt256.false in
    omega (arith, whole, c.power_of_two-else-bit-lt256.ensures.value, c.from_u64-else-bit-lt256.ensures)
