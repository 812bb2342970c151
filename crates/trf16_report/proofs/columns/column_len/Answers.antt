use Rattle.trf16_report.proofs.ColumnLemmas.{first_character}
use Rattle.trf16_report.proofs.columns.column_len.Goals as goal

pub returns-then-utf8-clause-first : goal.returns-then-utf8-clause-first
returns-then-utf8-clause-first c =
    let one = first_character c.args.bytes.now c.in-Some.field-0-0.now c.in-Some.rest.now c.follow_len.result c.in-Some.ensures.cases.0
    c.follow_len.ensures.within c.follow_len.ensures.inside c.follow_len.ensures.behind in
    rw c.if-utf8.true one.first

pub returns-then-utf8-clause-rest : goal.returns-then-utf8-clause-rest
returns-then-utf8-clause-rest c =
    let one = first_character c.args.bytes.now c.in-Some.field-0-0.now c.in-Some.rest.now c.follow_len.result c.in-Some.ensures.cases.0
    c.follow_len.ensures.within c.follow_len.ensures.inside c.follow_len.ensures.behind in
    rw c.if-utf8.true one.rest
