use Rattle.trf16_report.proofs.LineLemmas.{lines_at}
use Rattle.trf16_report.proofs.lines.next_line.Goals as goal

pub returns-clause-first : goal.returns-clause-first
returns-clause-first c =
    rw (c.behind_end.ensures.value, c.split_at.ensures.front, c.split_at.ensures.back)
    (lines_at c.args.bytes.now c.line_len.result c.requires c.line_len.ensures.within c.line_len.ensures.inside c.line_len.ensures.behind)
