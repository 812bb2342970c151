use Rattle.dutch_player.proofs.PresentLemmas.{seats_apart}
use Rattle.report_laws.proofs.players.the_report_tells_who_is_kept_apart.Goals as goal

pub returns : goal.returns
returns c = seats_apart
