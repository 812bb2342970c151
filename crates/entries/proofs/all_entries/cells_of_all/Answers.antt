use Rattle.std.proofs.Common.{sym, ◌∙◌}
use Rattle.std.proofs.lemmas.Result.{err_from_is_err_and}
use Rattle.std.proofs.Common.{get_or, []}
use Rattle.entries.specs.Entered.{with_entries, with_entry}
use Rattle.entries.proofs.EntryLemmas.{Fails-on, entries-end, entries-fail, entries-more}
use Rattle.entries.proofs.all_entries.cells_of_all.Goals as goal

pub loop-entry-preserved : goal.loop-entry-preserved
loop-entry-preserved c = record {
  same = sym (entries-more c.args.options c.args.report.now c.loop-entry.so_far.items c.put_entry.new.so_far.items c.args.entries.now c.loop-entry.entry-index _
      c.loop-entry-test.true c.in_ok-put_entry.ensures.given) ∙ c.loop-entry.invariant.same;
  within = c.in_ok-put_entry.ensures.all;
}

pub returns-in_err-put_entry-clause-given : goal.returns-in_err-put_entry-clause-given
returns-in_err-put_entry-clause-given c =
    let p = err_from_is_err_and c.from_residual.result c.from_residual.ensures.1 in
    let sheet = c.args.report.now in
    rw (p.1, p.2) (Fails-on c.in_err-put_entry.field-0.0 (with_entry c.args.options sheet c.loop-entry.so_far.items (get_or c.args.entries.now c.loop-entry.entry-index _))
    (with_entries c.args.options sheet [] c.args.entries.now)
    (λ fault e. sym c.loop-entry.invariant.same
    ∙ entries-fail c.args.options sheet c.loop-entry.so_far.items c.args.entries.now c.loop-entry.entry-index _ fault c.loop-entry-test.true e)
    c.in_err-put_entry.ensures.given)

pub returns-clause-given : goal.returns-clause-given
returns-clause-given c =
    sym c.loop-entry.invariant.same
    ∙ entries-end c.args.options c.args.report.now c.loop-entry.so_far.items c.args.entries.now c.loop-entry.entry-index c.loop-entry-test.false
