use Rattle.trf16_laws.proofs.PairedRound.{round_again}
use Rattle.trf16_laws.proofs.written.law_round_trip_with_round.Goals as goal

pub returns : goal.returns
returns c = round_again
