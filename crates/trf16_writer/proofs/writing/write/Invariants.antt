use Rattle.std.proofs.Common.{map, length}
use Rattle.trf16_report.specs.Prelude.{entry_of, use_of, lines_text, written}
use Rattle.trf16_report.proofs.OutputLemmas.{IsPutUpTo}
use Rattle.trf16_writer.proofs.writing.write.Given as goal

abbrev pub invariant-loop-line : goal.invariant-loop-line
invariant-loop-line g l =
    IsPutUpTo (written l.report) (lines_text l.report.utf8 l.lines (map entry_of l.players)) (use_of g.W.Sink.held g.W.Sink.failures l.initial.w l.w)

abbrev pub decreases-loop-line : goal.decreases-loop-line
decreases-loop-line g l = length l.lines
