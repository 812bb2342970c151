-- One floor more is behind those that stay.
use Rattle.std.proofs.Common.{◌≡◌, List, [], ◌∷◌, ◌++◌, All, sym, subst}
use Rattle.std.proofs.lemmas.List.Elements.{All-push}
use Rattle.dutch_weight_floors.specs.Prelude.{IsCheckedIn, IsWeightFloor, ScopedFloor}
use Rattle.dutch_weight_floors.proofs.weight_floor.keep.Goals as goal

one_behind : (P : ScopedFloor → Type 0) (old new : List ScopedFloor) (floor : ScopedFloor) → new ≡ old ++ (floor ∷ []) → All P old → P floor → All P new
one_behind P old new floor is all one = subst (λ (floors : List ScopedFloor). All P floors) (sym is) (All-push P old floor all one)

same : (P : ScopedFloor → Type 0) (old new : List ScopedFloor) → new ≡ old → All P old → All P new
same P old new is all = subst (λ (floors : List ScopedFloor). All P floors) (sym is) all

pub returns-in_err-push : goal.returns-in_err-push
returns-in_err-push c = record {
  hold = λ w all one. same (IsWeightFloor w) _ _ c.in_err-push.ensures.items (c.make_room.ensures.hold w all);
  checked = λ w all one. same (IsCheckedIn w) _ _ c.in_err-push.ensures.items (c.make_room.ensures.checked w all);
}

pub returns : goal.returns
returns c = record {
  hold = λ w all one. one_behind (IsWeightFloor w) c.make_room.new.floors.items _ c.args.floor c.in_ok-push.ensures.items (c.make_room.ensures.hold w all) one;
  checked = λ w all one. one_behind (IsCheckedIn w) c.make_room.new.floors.items _ c.args.floor c.in_ok-push.ensures.items (c.make_room.ensures.checked w all) one;
}
