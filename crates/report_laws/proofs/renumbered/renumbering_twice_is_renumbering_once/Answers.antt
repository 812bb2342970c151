use Rattle.trf16_writer.proofs.StartRanks.{own_starts}
use Rattle.report_laws.proofs.Twice.{few_players, renumbered_twice}
use Rattle.report_laws.proofs.renumbered.renumbering_twice_is_renumbering_once.Goals as goal

pub returns : goal.returns
returns c bytes bye sheet e = renumbered_twice sheet (few_players bytes bye sheet e) (own_starts bytes bye sheet e).different
