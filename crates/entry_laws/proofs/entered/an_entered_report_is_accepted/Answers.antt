use Rattle.entry_laws.proofs.AcceptedEntries.{accepted_again, summed_again}
use Rattle.entry_laws.proofs.entered.an_entered_report_is_accepted.Goals as goal

pub returns-clause-summed : goal.returns-clause-summed
returns-clause-summed c = summed_again

pub returns-clause-accepted : goal.returns-clause-accepted
returns-clause-accepted c = accepted_again
