use Rattle.std.proofs.Common.{◌≢◌, get_or, arith}
use borrow.Author.Count.{below_more}
use Rattle.dutch_arrangements.proofs.cursor.part_len.Goals as goal

pub returns-then-byte-separator-clause-within : goal.returns-then-byte-separator-clause-within
returns-then-byte-separator-clause-within c = omega (arith, c.loop-i-test.true)

pub returns-then-byte-separator-clause-inside : goal.returns-then-byte-separator-clause-inside
returns-then-byte-separator-clause-inside c = c.loop-i.invariant

pub returns-then-byte-separator-clause-behind : goal.returns-then-byte-separator-clause-behind
returns-then-byte-separator-clause-behind c = λ _. c.if-byte-separator.true

pub loop-i-preserved : goal.loop-i-preserved
loop-i-preserved c =
    below_more (λ k. get_or c.args.text.now k 0 ≢ c.args.separator) c.loop-i.i c.loop-i.invariant c.if-byte-separator.false

pub returns-clause-inside : goal.returns-clause-inside
returns-clause-inside c = λ k below. c.loop-i.invariant k (omega (arith, c.loop-i-test.false, below))

pub returns-clause-behind : goal.returns-clause-behind
returns-clause-behind c = λ below. absurd (omega (arith, below))
