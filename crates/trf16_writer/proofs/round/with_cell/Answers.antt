use Rattle.std.proofs.Common.{slice_set, ap, sym, ◌∙◌, arith}
use Rattle.trf16_report.specs.Prelude.{with_cell}
use Rattle.trf16_writer.proofs.RoundLemmas.{with_cell-blank, with_cell-set}
use Rattle.trf16_writer.proofs.round.with_cell.Goals as goal

pub loop-set-preserved : goal.loop-set-preserved
loop-set-preserved c = (
  ap (with_cell c.args.before c.args.cell) c.in_ok-push.ensures.items ∙ with_cell-blank c.args.before c.args.cell c.loop-set.set.items (omega arith) ∙ c.loop-set.invariant.0,
  omega arith,
)

pub returns-clause-set : goal.returns-clause-set
returns-clause-set c =
    let place = c.from-place.ensures in
    ap (λ k. slice_set c.loop-set.set.items k c.args.cell) place ∙ sym (with_cell-set c.args.before c.args.cell c.loop-set.set.items (omega arith)) ∙ c.loop-set.invariant.0
