use Rattle.dutch_player.proofs.StartLemmas.{tells_seat}
use Rattle.report_laws.proofs.players.seats_are_found_by_start_ranks.Goals as goal

pub returns : goal.returns
returns c = tells_seat
