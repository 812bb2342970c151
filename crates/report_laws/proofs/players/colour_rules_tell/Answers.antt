use Rattle.dutch_player.proofs.LawLemmas.{tells_rule}
use Rattle.report_laws.proofs.players.colour_rules_tell.Goals as goal

pub returns : goal.returns
returns c = tells_rule
