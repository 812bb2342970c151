use Rattle.std.proofs.Common.{List, rules, ◌++◌, ap, ◌∙◌}
use Rattle.std.specs.Prelude.{slice_index_or}
use Rattle.replies.specs.Prelude.{LabelFacts, gap, padded_label}
use Rattle.replies.proofs.TableLemmas.{label_more}
use Rattle.replies.proofs.table.put_line.Goals as goal

pub loop-i-preserved : goal.loop-i-preserved
loop-i-preserved c =
    let labels = c.as_slice-labels.result.now in
    let wide = slice_index_or c.args.widths.now c.loop-i.i 0 in
    let old = c.loop-i.text in
    let put = c.put.new.text in
    label_more c.args.utf8 c.args.widths.now c.loop-i.i labels c.index-labels-i.result old put c.put_gap.new.text _ c.loop-i-test.true
    (c.in_ok-put.ensures ∙ ap (λ w. old ++ padded_label c.args.utf8 w c.index-labels-i.result) (search rules)
    ∙ ap (λ (l : LabelFacts). old ++ padded_label c.args.utf8 wide l) c.index-labels-i.is)
    (c.in_ok-put_gap.ensures ∙ ap (λ (behind : List LabelFacts). put ++ gap behind) c.split_at.ensures.back)
    c.loop-i.invariant
