-- With none of the numbers of moved-down players tried so far a candidate grants the wish.
use Rattle.std.proofs.Common.{◌≤◌}
use Rattle.dutch_arrangements.specs.Prelude.{Spends}
use Rattle.dutch_choice.specs.Prelude.{NoneGrants}
use Rattle.dutch_rounds.proofs.instead.is_granted_within.Given as goal

abbrev pub decreases-loop-mdps : goal.decreases-loop-mdps
decreases-loop-mdps l = l.mdps

abbrev pub invariant-loop-mdps : goal.invariant-loop-mdps
invariant-loop-mdps l = record {
  within : l.mdps ≤ l.to;
  none : NoneGrants l.wished.shaped.context.now.facts l.wished.shaped.context.now.reached l.wished.wish l.wished.shaped.shape l.mdps l.to;
  spends : Spends l.initial.budget l.budget;
}
