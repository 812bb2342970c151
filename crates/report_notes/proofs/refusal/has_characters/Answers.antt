use Rattle.std.proofs.Common.{◌∙◌, ap}
use Rattle.std.specs.Str.{is_utf8}
use Rattle.trf16_report.proofs.ReadingLemmas.{is_utf8_is}
use Rattle.report_notes.proofs.refusal.has_characters.Goals as goal

pub returns : goal.returns
returns c = c.is_ok.ensures.value ∙ is_utf8_is _ _ c.skip_marks.result.now c.from_utf8.result c.from_utf8.ensures.cases ∙ ap is_utf8 c.skip_marks.ensures
