-- What a search for a bracket's choice stands on. Only private functions' clauses cite these.
use Rattle.std.specs.Prelude.{Option}
use Rattle.std.specs.Option.{ForSome}
use Rattle.dutch_passes.specs.declared.pass.Pass.{Pass}
use Rattle.dutch_floors.specs.Behind.{IsBasisFor}
use Rattle.dutch_weight_floors.specs.Prelude.{AreOf, Weighed}
use Rattle.dutch_search.specs.declared.both.BothFloors.{BothFloors}

-- floors by weight, if there are any, are those of the bracket, the shape and the wish of a pass
abbrev pub HasWeights : Pass → Option Weighed → Type 0
HasWeights pass weights = ForSome weights (AreOf pass.shaped.context.now pass.shaped.shape pass.wish)

-- so are floors of both kinds
abbrev pub AreFor : Pass → BothFloors → Type 0
AreFor pass floors = IsBasisFor pass.shaped floors.counts × HasWeights pass floors.weights.value
