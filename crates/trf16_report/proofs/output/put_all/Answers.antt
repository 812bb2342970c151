use Rattle.std.proofs.Common.{arith, refl}
use Rattle.std.proofs.KnownBytes.{Appends-nil}
use Rattle.std.proofs.lemmas.Result.{err_from_is_err_and}
use Rattle.trf16_report.proofs.OutputLemmas.{part_written}
use Rattle.trf16_report.proofs.output.put_all.Goals as goal

pub loop-done-init : goal.loop-done-init
loop-done-init g c = record { written = Appends-nil (g.W.Sink.held c.args.sink.now); fits = omega arith; failures = refl }

pub returns-in_err-done : goal.returns-in_err-done
returns-in_err-done g c =
    let p = err_from_is_err_and c.from_residual.result c.from_residual.ensures.1 in
    rw p.1 (part_written (g.W.Sink.held c.args.sink.now) (g.W.Sink.held c.loop-done.sink) (g.W.Sink.held c.put.new.self) c.args.text.now c.loop-done.done
    (g.W.Sink.failures c.args.sink.now) (g.W.Sink.failures c.loop-done.sink) (g.W.Sink.failures c.put.new.self) c.loop-done.invariant (omega arith)
    c.in_err-done.ensures.bytes c.in_err-done.ensures.failures)
