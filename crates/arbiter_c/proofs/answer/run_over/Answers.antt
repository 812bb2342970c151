use Rattle.std.proofs.Common.{arith}
use Rattle.arbiter_c.proofs.RunLemmas.{said_by_run}
use Rattle.arbiter_c.proofs.answer.run_over.Goals as goal

pub returns : goal.returns
returns c =
    said_by_run _ _ _ _ _ _ _ _ _ _ _ _ _ _ _ c.run-status.ensures c.new-reader.ensures.rest c.new-reader.ensures.calls
    c.new-out.ensures.text c.new-out.ensures.failures (omega (arith, c.if-out-gt0.false))
    c.new-err.ensures.text c.new-err.ensures.failures (omega (arith, c.if-err-gt0.false))
