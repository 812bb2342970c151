use Rattle.std.proofs.Common.{length, ◌-◌}
use Rattle.trf16_report.proofs.OutputLemmas.{HasWritten}
use Rattle.trf16_report.proofs.output.put_all.Given as goal

abbrev pub invariant-loop-done : goal.invariant-loop-done
invariant-loop-done g l = HasWritten l.text l.done (g.W.Sink.held l.initial.sink) (g.W.Sink.held l.sink) (g.W.Sink.failures l.initial.sink) (g.W.Sink.failures l.sink)

abbrev pub decreases-loop-done : goal.decreases-loop-done
decreases-loop-done g l = length l.text - l.done
