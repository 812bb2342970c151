use Rattle.dutch_arrangements.proofs.CursorArrangements.{of-in, in-of}
use Rattle.pairing_laws.proofs.arrangements.arrangements_are_of.Goals as goal

pub returns : goal.returns
returns c = λ frame shape a is-bracket. (of-in frame shape a is-bracket.within, in-of frame shape a is-bracket.within)
