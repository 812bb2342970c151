-- What holds of all floors holds of those that stay.
use Rattle.dutch_weight_floors.specs.Prelude.{IsCheckedIn}
use Rattle.dutch_weight_floors.proofs.KeptFloors.{they_stay}
use Rattle.dutch_weight_floors.proofs.weight_floor.drop_oldest.Goals as goal

pub returns-clause-checked : goal.returns-clause-checked
returns-clause-checked c = λ w.
    they_stay (IsCheckedIn w) c.args.floors.now.items c.remove.new.self.items c.if-is_none.place c.remove.ensures.items
