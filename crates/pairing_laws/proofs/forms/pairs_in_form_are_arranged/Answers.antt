use Rattle.dutch_listing.proofs.FormArrangements.{form-arrangement, form-of}
use Rattle.pairing_laws.proofs.forms.pairs_in_form_are_arranged.Goals as goal

pub returns-clause-arranged : goal.returns-clause-arranged
returns-clause-arranged c = form-arrangement

pub returns-clause-in_form : goal.returns-clause-in_form
returns-clause-in_form c = form-of
