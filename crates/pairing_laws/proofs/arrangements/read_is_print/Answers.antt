use Rattle.dutch_listing.proofs.CursorReads.{read-is, is-read}
use Rattle.pairing_laws.proofs.arrangements.read_is_print.Goals as goal

pub returns : goal.returns
returns c = λ frame shape bytes a is. (read-is frame shape bytes a is, λ given. is-read frame shape bytes a is given.0 given.1)
