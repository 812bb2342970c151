use Rattle.std.proofs.Common.{drop}
use Rattle.std.specs.List.{flat_map}
use Rattle.trf16_report.specs.Prelude.{use_of, round_text}
use Rattle.trf16_report.proofs.OutputLemmas.{IsPutUpTo}
use Rattle.trf16_writer.proofs.writing.put_rounds.Given as goal

abbrev pub invariant-loop-cell : goal.invariant-loop-cell
invariant-loop-cell g l =
    IsPutUpTo (flat_map round_text l.cells) (flat_map round_text (drop l.cell-index l.cells)) (use_of g.W.Sink.held g.W.Sink.failures l.initial.w l.w)
