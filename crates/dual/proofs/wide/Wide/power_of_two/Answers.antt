-- A power in the upper half.
use Rattle.std.proofs.Common.{arith}
use Rattle.dual.proofs.Powers.{raised}
use Rattle.dual.proofs.wide.Wide.power_of_two.Goals as goal

pub returns-then-bit-lt1024 : goal.returns-then-bit-lt1024
returns-then-bit-lt1024 c =
    let whole = raised 512 c.args.bit c.if-bit-lt512.false in
    let high = c.power_of_two-then-bit-lt1024.ensures.value in
    (c.if-bit-lt1024.true, omega (arith, whole, high, c.from_u64-then-bit-lt1024.ensures))
