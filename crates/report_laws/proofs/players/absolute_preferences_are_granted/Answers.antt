use Rattle.dutch_player.proofs.LawLemmas.{grants_both}
use Rattle.report_laws.proofs.players.absolute_preferences_are_granted.Goals as goal

pub returns : goal.returns
returns c = grants_both
