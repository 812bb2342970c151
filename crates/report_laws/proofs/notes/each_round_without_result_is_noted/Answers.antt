use Rattle.report_laws.proofs.NotedResults.{each_is_noted}
use Rattle.report_laws.proofs.notes.each_round_without_result_is_noted.Goals as goal

pub returns : goal.returns
returns c = each_is_noted
