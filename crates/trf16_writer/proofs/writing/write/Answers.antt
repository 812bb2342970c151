use Rattle.std.proofs.Common.{map}
use Rattle.std.specs.Prelude.{option_copied}
use Rattle.std.proofs.lemmas.Result.{err_from_is_err_and}
use Rattle.trf16_report.specs.Prelude.{entry_of, lines_text, written}
use Rattle.trf16_writer.specs.Steps.{next_text}
use Rattle.trf16_report.proofs.OutputLemmas.{put_next, put_fails}
use Rattle.trf16_writer.proofs.WritingLemmas.{lines_next}
use Rattle.trf16_writer.proofs.writing.write.Goals as goal

pub returns-in_err-put_next : goal.returns-in_err-put_next
returns-in_err-put_next g c =
    let p = err_from_is_err_and c.from_residual.result c.from_residual.ensures.1 in
    let utf8 = c.args.report.now.utf8 in
    let line = option_copied c.in-Some.line in
    let players = map entry_of c.loop-line.players in
    let behind = map entry_of c.put_next.new.players in
    rw p.1 (put_fails (written c.args.report.now) (lines_text utf8 c.loop-line.lines players) (next_text utf8 line players)
    (lines_text utf8 c.next.new.self behind) _ _ _ _ _ _ c.loop-line.invariant
    (lines_next utf8 c.loop-line.lines c.next.new.self line players behind c.in-Some.ensures c.put_next.ensures.players)
    (rw c.is_utf8.ensures at c.in_err-put_next.ensures.text))

pub loop-line-preserved : goal.loop-line-preserved
loop-line-preserved g c =
    let utf8 = c.args.report.now.utf8 in
    let line = option_copied c.in-Some.line in
    let players = map entry_of c.loop-line.players in
    let behind = map entry_of c.put_next.new.players in
    put_next (written c.args.report.now) (lines_text utf8 c.loop-line.lines players) (next_text utf8 line players)
    (lines_text utf8 c.next.new.self behind) _ _ _ _ _ _ c.loop-line.invariant
    (lines_next utf8 c.loop-line.lines c.next.new.self line players behind c.in-Some.ensures c.put_next.ensures.players)
    (rw c.is_utf8.ensures at c.in_ok-put_next.ensures.text)
