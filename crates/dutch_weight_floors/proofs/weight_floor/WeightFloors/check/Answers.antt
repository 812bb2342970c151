-- The floor of a certificate is one of the bracket's weights in the scope, and what is kept of it was checked.
use Rattle.std.proofs.Common.{◌≡◌, sym, ap, ◌∙◌}
use Rattle.dutch_weight_floors.specs.Prelude.{Scope, ScopedFloor, scoped_by}
use Rattle.dutch_weight_floors.proofs.WeightsBehind.{checked_put, floor_put}
use Rattle.dutch_weight_floors.proofs.weight_floor.WeightFloors.check.Goals as goal

pub returns : goal.returns
returns c =
    let w = c.args.self.now in
    let reach = c.reach-reach.result in
    let kept : ScopedFloor = record {
      scope = c.copied-scope.result;
      order = c.args.order;
      reach = reach;
      table = c.args.table;
      floor = c.kept-floor.result;
    } in
    let scoped : c.scoped_by-scoped.result ≡ scoped_by w kept.scope reach kept.order =
    c.scoped_by-scoped.ensures.value ∙ ap (λ (s : Scope). scoped_by w s reach c.args.order) (sym c.copied-scope.ensures) in
    let is = rw c.in-Some.is at c.in_ok-remade.ensures in
    record {
      hold = floor_put w c.scoped_by-scoped.ensures.scaled kept c.reach-reach.ensures.lower c.reach-reach.ensures.next
          c.scoped_by-scoped.result c.in-Some.remade.floor scoped c.kept-floor.ensures is;
      checked = checked_put w kept c.scoped_by-scoped.result c.in-Some.remade.floor scoped c.kept-floor.ensures is;
    }
