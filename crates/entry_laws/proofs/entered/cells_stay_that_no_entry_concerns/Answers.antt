use Rattle.entry_laws.proofs.AllEntries.{unconcerned}
use Rattle.entry_laws.proofs.Answered.{answered}
use Rattle.entry_laws.proofs.entered.cells_stay_that_no_entry_concerns.Goals as goal

pub returns : goal.returns
returns c = λ bytes bye options entries sheet new slot read e some other. unconcerned options entries sheet new slot (answered bytes bye sheet read) e some other
