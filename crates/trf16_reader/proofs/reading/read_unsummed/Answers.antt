use Rattle.std.proofs.Common.{refl}
use Rattle.trf16_report.specs.Prelude.{all_cells_fit, verdict_unsummed}
use Rattle.trf16_report.proofs.ReadingLemmas.{accepted-gives}
use Rattle.trf16_reader.proofs.reading.read_unsummed.Goals as goal

pub returns : goal.returns
unfolding verdict_unsummed
returns c =
    let sheet = c.in_ok-report.report in
    accepted-gives sheet c.all_cells_fit-fits.result (all_cells_fit sheet sheet.players) c.report_if_fitting.result (verdict_unsummed c.args.bytes.now c.args.bye) c.report_if_fitting.ensures c.all_cells_fit-fits.ensures
    (rw c.in_ok-report.ensures refl)
