use Rattle.dutch_player.proofs.LawLemmas.{rule_sym}
use Rattle.report_laws.proofs.players.colour_rules_are_symmetric.Goals as goal

pub returns : goal.returns
returns c = rule_sym
