-- All floors that are kept were checked, so this one was.
use Rattle.std.proofs.Common.{List, All, Option, Some, None, IfSome, sym, subst}
use Rattle.dutch_weight_floors.specs.Prelude.{IsCheckedIn, ScopedFloor, Weighed}
use Rattle.dutch_weight_floors.proofs.weight_floor.WeightFloors.last_beside.Goals as goal

if_there : {X : Type 0} (P Q : X → Type 0) (found : Option X) → IfSome found P → ((x : X) → P x → Q x) → IfSome found Q
if_there P Q None holds so = tt
if_there P Q (Some x) holds so = so x holds

pub returns-clause-checked : goal.returns-clause-checked
returns-clause-checked c =
    let all = subst (λ (u : Weighed). All (IsCheckedIn u) c.self.inside.floors.items) c.self.view_is c.self.invariant.checked in
    let here = subst (λ (floors : List ScopedFloor). All (IsCheckedIn c.args.self.now) floors) (sym c.deref.ensures.value) all in
    if_there _ _ c.last_of.result c.last_of.ensures.checked (λ kept told. told c.args.self.now here)
