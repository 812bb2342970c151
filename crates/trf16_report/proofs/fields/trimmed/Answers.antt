use Rattle.std.proofs.Common.{sym, ◌∙◌}
use Rattle.trf16_report.proofs.FieldLemmas.{trimmed-blank, trimmed-stays}
use Rattle.trf16_report.proofs.fields.trimmed.Goals as goal

pub loop-last-preserved : goal.loop-last-preserved
loop-last-preserved c = sym (trimmed-blank _ _ _ c.in-Some.ensures.cases.0 c.if-last-ne32.false) ∙ c.loop-last.invariant

pub returns-then-last-ne32 : goal.returns-then-last-ne32
returns-then-last-ne32 c = sym (trimmed-stays _ _ _ c.in-Some.ensures.cases.0 c.if-last-ne32.true) ∙ c.loop-last.invariant
