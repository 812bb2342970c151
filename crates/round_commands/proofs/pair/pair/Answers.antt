-- The report that is seen has the start ranks of the one that was read.
use Rattle.std.proofs.Common.{◌∙◌, sym}
use Rattle.round_commands.proofs.PairLemmas.{seen_own}
use Rattle.round_commands.proofs.pair.pair.Goals as goal

pub of_report-requires-clause-own : goal.of_report-requires-clause-own
of_report-requires-clause-own g c = seen_own c.args.bytes.now c.args.bye c.args.options.round c.in-Ok.report (sym c.in-Ok.is ∙ c.in_ok-report.ensures)
