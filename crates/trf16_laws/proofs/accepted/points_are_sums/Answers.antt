use Rattle.trf16_laws.proofs.MeetingLemmas.{have_points}
use Rattle.trf16_laws.proofs.accepted.points_are_sums.Goals as goal

pub returns : goal.returns
returns c = have_points
