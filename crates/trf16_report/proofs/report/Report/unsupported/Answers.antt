use Rattle.std.proofs.Common.{ap, ◌∙◌, drop, Option, ℕ, ◌+◌}
use Rattle.trf16_report.specs.Prelude.{first_of, earlier}
use Rattle.trf16_report.specs.declared.kind.LineKind.TheVariants.{Xxa}
use Rattle.trf16_report.proofs.NoteLemmas.{kinds-more, kinds-end}
use Rattle.trf16_report.proofs.report.Report.unsupported.Goals as goal

pub loop-kind-preserved : goal.loop-kind-preserved
loop-kind-preserved c =
    let i = c.loop-kind.kind-index in
    ap (λ (o : Option ℕ). earlier o (first_of (drop (i + 1) c.args.kinds.now) c.args.self.now)) (c.earlier-first.ensures ∙ ap (earlier c.loop-kind.first) c.first_line.ensures)
    ∙ kinds-more c.args.self.now c.args.kinds.now i Xxa c.loop-kind.first (first_of c.args.kinds.now c.args.self.now) c.loop-kind-test.true c.loop-kind.invariant

pub returns : goal.returns
returns c = kinds-end c.args.self.now c.args.kinds.now c.loop-kind.kind-index c.loop-kind.first (first_of c.args.kinds.now c.args.self.now) c.loop-kind-test.false c.loop-kind.invariant
