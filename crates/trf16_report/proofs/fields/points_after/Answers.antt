use Rattle.std.proofs.Common.{◌+◌, ◌≤◌, arith}
use Rattle.trf16_report.proofs.FieldLemmas.{below-power}
use Rattle.trf16_report.proofs.fields.points_after.Goals as goal

pub overflow_mul-whole : goal.overflow_mul-whole
overflow_mul-whole c = let small : c.loop-i.whole + 1 ≤ 1000 = below-power c.loop-i.whole c.loop-i.i 3 c.loop-i.invariant.1 (omega arith) in omega (arith, small)

pub overflow_add-whole : goal.overflow_add-whole
overflow_add-whole c = let small : c.loop-i.whole + 1 ≤ 1000 = below-power c.loop-i.whole c.loop-i.i 3 c.loop-i.invariant.1 (omega arith) in omega (arith, small)

pub half_after-requires : goal.half_after-requires
half_after-requires c = let small : c.loop-i.whole + 1 ≤ 1000 = below-power c.loop-i.whole c.loop-i.i 3 c.loop-i.invariant.1 (omega arith) in omega (arith, small)

pub overflow_mul-result : goal.overflow_mul-result
overflow_mul-result c = let small : c.loop-i.whole + 1 ≤ 10000 = below-power c.loop-i.whole c.loop-i.i 4 c.loop-i.invariant.1 (omega arith) in omega (arith, small)

pub returns-clause-bound : goal.returns-clause-bound
returns-clause-bound c = let small : c.loop-i.whole + 1 ≤ 10000 = below-power c.loop-i.whole c.loop-i.i 4 c.loop-i.invariant.1 (omega arith) in omega (arith, small)
