use Rattle.entry_laws.proofs.TheRest.{rest_stays}
use Rattle.entry_laws.proofs.entered.the_rest_stays.Goals as goal

pub returns : goal.returns
returns c = rest_stays
