-- Each matching would give a shape with a candidate that can be chosen.
use Rattle.pairing_laws.proofs.GreatestMatchings.{no_matching}
use Rattle.pairing_laws.proofs.shapes.the_shape_is_that_of_a_greatest_matching.Goals as goal

pub returns-clause-none : goal.returns-clause-none
returns-clause-none c = no_matching
