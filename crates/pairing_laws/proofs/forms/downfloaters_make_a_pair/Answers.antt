use Rattle.dutch_listing.proofs.FormInsertions.{takes-pair}
use Rattle.pairing_laws.proofs.forms.downfloaters_make_a_pair.Goals as goal

pub returns : goal.returns
returns c = takes-pair
