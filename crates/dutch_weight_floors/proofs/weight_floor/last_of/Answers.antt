-- What holds of all floors holds of the one at a place.
use Rattle.std.proofs.Common.{◌<◌, length, sym, subst, arith}
use Rattle.std.proofs.lemmas.Grind.{common_steps}
use Rattle.dutch_weight_floors.specs.Prelude.{IsCheckedIn}
use Rattle.dutch_weight_floors.proofs.weight_floor.last_of.Goals as goal

pub returns-clause-checked : goal.returns-clause-checked
returns-clause-checked c = λ w all.
    let within : c.in_ok-place.place < length c.args.floors.now = grind (arith, common_steps) in
    subst (IsCheckedIn w) (sym c.index-floors-place.is) (all c.in_ok-place.place c.index-floors-place.result within)
