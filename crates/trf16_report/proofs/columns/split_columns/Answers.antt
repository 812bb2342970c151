use Rattle.std.proofs.Common.{◌≡◌, ◌≤◌, length, drop, subst, ap, ◌∙◌, arith}
use Rattle.trf16_report.specs.Prelude.{columns, IsStart}
use Rattle.trf16_report.proofs.ColumnLemmas.{IsFirst, IsStart-next, joined-behind}
use Rattle.trf16_report.proofs.columns.split_columns.Goals as goal

pub loop-preserved : goal.loop-preserved
loop-preserved c =
    let len = c.column_len-len.result in
    let rest = c.split_at.ensures.back in
    let within : len ≤ length (drop c.loop.len c.args.bytes.now) = rw (← rest) c.column_len-len.ensures.within in
    let one : IsFirst c.args.utf8 (drop c.loop.len c.args.bytes.now) len =
    rw (← rest) (record { first = c.column_len-len.ensures.first; rest = c.column_len-len.ensures.rest }) in
    IsStart-next c.args.utf8 c.args.bytes.now c.loop.counter c.loop.len len c.loop.invariant within one

pub returns-clause-front : goal.returns-clause-front
returns-clause-front c =
    let all : c.loop.counter ≡ c.args.count = omega arith in
    let start : IsStart c.args.utf8 c.args.bytes.now c.args.count c.loop.len = subst (λ n. IsStart c.args.utf8 c.args.bytes.now n c.loop.len) all c.loop.invariant in
    c.split_at-2.ensures.front ∙ start.front

pub returns-clause-back : goal.returns-clause-back
returns-clause-back c =
    let all : c.loop.counter ≡ c.args.count = omega arith in
    let start : IsStart c.args.utf8 c.args.bytes.now c.args.count c.loop.len = subst (λ n. IsStart c.args.utf8 c.args.bytes.now n c.loop.len) all c.loop.invariant in
    ap (columns c.args.utf8) c.split_at-2.ensures.back ∙ start.back

pub returns-clause-rest : goal.returns-clause-rest
returns-clause-rest c =
    let all : c.loop.counter ≡ c.args.count = omega arith in
    let start : IsStart c.args.utf8 c.args.bytes.now c.args.count c.loop.len = subst (λ n. IsStart c.args.utf8 c.args.bytes.now n c.loop.len) all c.loop.invariant in
    c.split_at-2.ensures.back ∙ joined-behind c.args.utf8 c.args.bytes.now c.args.count c.loop.len start
