use Rattle.dutch_player.proofs.LawLemmas.{meeting_sym}
use Rattle.report_laws.proofs.players.meeting_is_symmetric.Goals as goal

pub returns : goal.returns
returns c = meeting_sym
