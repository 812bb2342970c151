use Rattle.std.proofs.Common.{◌∙◌, arith}
use Rattle.trf16_report.proofs.FieldLemmas.{words-skip}
use Rattle.trf16_report.proofs.fields.blank_len.Goals as goal

pub loop-i-preserved : goal.loop-i-preserved
loop-i-preserved c = words-skip c.args.bytes.now c.loop-i.i (omega arith) c.if-byte-ne32.false ∙ c.loop-i.invariant
