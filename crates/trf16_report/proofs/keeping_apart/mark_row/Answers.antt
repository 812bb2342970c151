use Rattle.std.proofs.Common.{◌+◌, ◌*◌, ◌<◌, ◌&&◌, ◌||◌, ◌==◌, false, length, slice_index_or, ap, ◌∙◌, arith}
use Rattle.trf16_report.proofs.MarkLemmas.{in_rows, joined_at, row_more}
use Rattle.trf16_report.proofs.keeping_apart.mark_row.Goals as goal

pub loop-place-preserved : goal.loop-place-preserved
loop-place-preserved c =
    let named = c.args.named.now in
    let n = length named in
    let i = c.args.i in
    let place = c.loop-place.place in
    let value = slice_index_or named place false in
    let inside : n * i + place < n * n = in_rows n i place c.requires.row (omega arith) in
    λ k m lt.
    joined_at c.loop-place.marks n i place k m value (omega arith) lt (omega (arith, inside, c.requires.room))
    ∙ ap (λ b. b || ((i == k) && ((place == m) && value))) (c.loop-place.invariant k m lt)
    ∙ row_more named place m (slice_index_or c.args.marks.now (n * k + m) false) (i == k)
