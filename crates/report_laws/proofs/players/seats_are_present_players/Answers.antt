use Rattle.dutch_player.proofs.PresentLemmas.{field_of}
use Rattle.report_laws.proofs.players.seats_are_present_players.Goals as goal

pub returns : goal.returns
returns c = field_of
