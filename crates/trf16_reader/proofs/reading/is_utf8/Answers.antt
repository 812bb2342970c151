use Rattle.std.proofs.Common.{◌∙◌}
use Rattle.trf16_report.proofs.ReadingLemmas.{is_utf8_is}
use Rattle.trf16_reader.proofs.reading.is_utf8.Goals as goal

pub returns : goal.returns
returns c = c.is_ok.ensures.value ∙ is_utf8_is _ _ c.args.bytes.now c.from_utf8.result c.from_utf8.ensures.cases
