use Rattle.dutch_bracket.proofs.ShapeLaws.{has_room}
use Rattle.pairing_laws.proofs.brackets.the_shape_is_the_greatest.Goals as goal

pub returns-clause-room : goal.returns-clause-room
returns-clause-room c = has_room
