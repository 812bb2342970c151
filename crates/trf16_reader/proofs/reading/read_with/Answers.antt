use Rattle.std.proofs.Common.{refl}
use Rattle.trf16_report.specs.Prelude.{players_fit, verdict}
use Rattle.trf16_report.proofs.ReadingLemmas.{accepted-gives}
use Rattle.trf16_reader.proofs.reading.read_with.Goals as goal

pub returns : goal.returns
unfolding verdict
returns c =
    let sheet = c.in_ok-report.report in
    accepted-gives sheet c.players_fit-fits.result (players_fit sheet sheet.players) c.report_if_fitting.result (verdict c.args.bytes.now c.args.bye) c.report_if_fitting.ensures c.players_fit-fits.ensures
    (rw c.in_ok-report.ensures refl)
