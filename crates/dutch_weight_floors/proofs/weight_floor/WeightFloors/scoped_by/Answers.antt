-- The weights of a bracket in a scope are those that its floors are for.
use Rattle.std.proofs.Common.{ap, subst, ◌∙◌}
use Rattle.dutch_weight_floors.specs.Prelude.{IsScaled, Weighed, scoped_by}
use Rattle.dutch_weight_floors.proofs.weight_floor.WeightFloors.scoped_by.Goals as goal

pub returns : goal.returns
returns c = record {
  value = c.new.ensures ∙ ap (λ (v : Weighed). scoped_by v c.args.scope.now c.args.reach c.args.order.now) c.self.view_is;
  scaled = subst IsScaled c.self.view_is c.self.invariant.scaled;
}
