use Rattle.std.proofs.Common.{rules, ap, ◌∙◌, arith}
use Rattle.trf16_report.specs.Prelude.{columns}
use Rattle.trf16_report.proofs.ColumnLemmas.{columns-less, columns-few}
use Rattle.trf16_report.proofs.columns.column_count.Goals as goal

pub overflow_add-count : goal.overflow_add-count
overflow_add-count c =
    let some = columns-less c.args.utf8 c.loop-rest.rest.now c.split_at.result.1.now (search (rules))
    (ap (columns c.args.utf8) c.split_at.ensures.back ∙ c.column_len.ensures.rest) in
    omega (arith, some, c.loop-rest.invariant, columns-few c.args.utf8 c.args.bytes.now)

pub loop-rest-smaller : goal.loop-rest-smaller
loop-rest-smaller c =
    let some = columns-less c.args.utf8 c.loop-rest.rest.now c.split_at.result.1.now (search (rules))
    (ap (columns c.args.utf8) c.split_at.ensures.back ∙ c.column_len.ensures.rest) in
    omega (arith, some)

pub loop-rest-preserved : goal.loop-rest-preserved
loop-rest-preserved c =
    let some = columns-less c.args.utf8 c.loop-rest.rest.now c.split_at.result.1.now (search (rules))
    (ap (columns c.args.utf8) c.split_at.ensures.back ∙ c.column_len.ensures.rest) in
    omega (arith, some, c.loop-rest.invariant)
