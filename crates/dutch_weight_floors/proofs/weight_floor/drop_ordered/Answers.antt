-- What holds of all floors holds of those that stay.
use Rattle.dutch_weight_floors.specs.Prelude.{IsCheckedIn, IsWeightFloor}
use Rattle.dutch_weight_floors.proofs.KeptFloors.{they_stay}
use Rattle.dutch_weight_floors.proofs.weight_floor.drop_ordered.Goals as goal

pub returns-in_default : goal.returns-in_default
returns-in_default c = record { hold = λ w all. all; checked = λ w all. all }

pub returns : goal.returns
returns c = record {
  hold = λ w. they_stay (IsWeightFloor w) c.args.floors.now.items c.remove.new.self.items c.in-Some.place c.remove.ensures.items;
  checked = λ w. they_stay (IsCheckedIn w) c.args.floors.now.items c.remove.new.self.items c.in-Some.place c.remove.ensures.items;
}
