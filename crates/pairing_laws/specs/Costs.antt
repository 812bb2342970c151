-- What the laws of weights name (C.04.3 C.6 to C.19).
use Rattle.dual.specs.Prelude.{Costs}
use Rattle.std.specs.Prelude.{Option}
use Rattle.dutch_candidates.specs.declared.wish.Wish.{Wish}
use Rattle.dutch_bracket.specs.Prelude.{Context}
use Rattle.dutch_weight_floors.specs.Prelude.{Scope, Order, costs_in}
use Rattle.dutch_weighing.specs.Prelude.{Scale}
use Rattle.dutch_weight_floors.specs.declared.scoped.Reach.{Reach}

-- `costs_in` for a bracket above its lower seats, on a scale [own]
abbrev pub costs_here : Context → Scale → Scope → Option Wish → Reach → Order → Costs
costs_here context scale scope wish reach order = costs_in (record {
  weighing = record { facts = context.facts; reached = context.reached; lower = context.lower; scale = scale };
  scope = scope;
  wish = wish;
  reach = reach;
  order = order;
})
