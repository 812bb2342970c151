use Rattle.entry_laws.proofs.Answered.{answered}
use Rattle.entry_laws.proofs.Commute.{commute}
use Rattle.entry_laws.proofs.entered.entries_for_different_games_commute.Goals as goal

pub returns : goal.returns
returns c = λ bytes bye options a b sheet new read apart e. commute options sheet new a b (answered bytes bye sheet read) apart e
