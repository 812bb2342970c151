use Rattle.trf16_laws.proofs.WrittenReport.{round_trip}
use Rattle.trf16_laws.proofs.written.law_round_trip.Goals as goal

pub returns : goal.returns
returns c = round_trip
