-- What holds of all floors holds of those that stay, whichever go.
use Rattle.std.proofs.Common.{Vec, Global, All, sym, subst}
use Rattle.dutch_weight_floors.specs.Prelude.{IsCheckedIn, ScopedFloor}
use Rattle.dutch_weight_floors.proofs.weight_floor.make_room.Goals.{then-counts_order, else-counts_order}
use Rattle.dutch_weight_floors.proofs.weight_floor.make_room.Goals as goal

pub returns-clause-checked : goal.returns-clause-checked
returns-clause-checked c = λ w all.
    let before : All (IsCheckedIn w) c.if-counts_order.floors.items = elim c.if-counts_order.branch [
      | then-counts_order b ↦ subst (λ (v : Vec ScopedFloor Global). All (IsCheckedIn w) v.items) (sym b.floors-is) (b.drop_ordered.ensures.checked w all)
      | else-counts_order b ↦ subst (λ (v : Vec ScopedFloor Global). All (IsCheckedIn w) v.items) (sym b.floors-is) all
    ] in
    c.drop_oldest.ensures.checked w before
