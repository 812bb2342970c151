use Rattle.trf16_laws.proofs.MeetingLemmas.{answered}
use Rattle.trf16_laws.proofs.accepted.opponents_answer_each_other.Goals as goal

pub returns : goal.returns
returns c = answered
