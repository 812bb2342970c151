use Rattle.dutch_arrangements.specs.Prelude.{parsed}
use Rattle.dutch_listing.proofs.CursorReads.{told}
use Rattle.pairing_laws.proofs.arrangements.syntax_is_told.Goals as goal

pub returns : goal.returns
returns c = λ frame shape bytes. told frame shape (parsed bytes)
