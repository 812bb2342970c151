use Rattle.std.proofs.Common.{◌-◌, slice_set, ap, sym, ◌∙◌, arith}
use Rattle.trf16_report.specs.Prelude.{with_cell}
use Rattle.trf16_writer.proofs.RoundLemmas.{with_cell-blank, with_cell-set}
use Rattle.entries.proofs.entering.set_cell.Goals as goal

pub loop-cells-preserved : goal.loop-cells-preserved
loop-cells-preserved c = record {
  same = ap (with_cell (c.args.round - 1) c.args.cell) c.in_ok-push.ensures.items
      ∙ with_cell-blank (c.args.round - 1) c.args.cell c.loop-cells.cells.items (omega arith) ∙ c.loop-cells.invariant.same;
  few = omega arith;
}

pub returns-clause-set : goal.returns-clause-set
returns-clause-set c =
    ap (λ k. slice_set c.loop-cells.cells.items (k - 1) c.args.cell) c.from-place.ensures
    ∙ sym (with_cell-set (c.args.round - 1) c.args.cell c.loop-cells.cells.items (omega arith)) ∙ c.loop-cells.invariant.same
