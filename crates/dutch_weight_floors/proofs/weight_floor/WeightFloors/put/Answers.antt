-- The floor that was checked is one of the bracket's weights in its scope.
use Rattle.dutch_weight_floors.proofs.WeightsBehind.{one_more}
use Rattle.dutch_weight_floors.proofs.weight_floor.WeightFloors.put.Goals as goal

pub invariant_of-self : goal.invariant_of-self
invariant_of-self c =
    one_more _ _ _ _ c.in-Some.checked.kept c.self.view_is c.self.invariant c.keep.ensures.hold c.keep.ensures.checked
    (rw c.in-Some.is at c.in_ok-checked.ensures.hold) (rw c.in-Some.is at c.in_ok-checked.ensures.checked)

pub invariant_of-self-2 : goal.invariant_of-self-2
invariant_of-self-2 c =
    one_more _ _ _ _ c.in-Some.checked.kept c.self.view_is c.self.invariant c.keep.ensures.hold c.keep.ensures.checked
    (rw c.in-Some.is at c.in_ok-checked.ensures.hold) (rw c.in-Some.is at c.in_ok-checked.ensures.checked)
