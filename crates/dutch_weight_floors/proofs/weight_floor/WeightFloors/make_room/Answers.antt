-- Some of the floors are floors too.
use Rattle.dutch_weight_floors.proofs.WeightsBehind.{fewer}
use Rattle.dutch_weight_floors.proofs.weight_floor.WeightFloors.make_room.Goals as goal

pub invariant_of-self : goal.invariant_of-self
invariant_of-self c = fewer _ _ _ c.self.invariant c.make_room.ensures.hold c.make_room.ensures.checked
