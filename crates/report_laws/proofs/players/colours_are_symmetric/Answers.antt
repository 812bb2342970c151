use Rattle.dutch_player.proofs.LawLemmas.{colours_sym}
use Rattle.report_laws.proofs.players.colours_are_symmetric.Goals as goal

pub returns : goal.returns
returns c = colours_sym
