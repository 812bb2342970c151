-- What the check confirms for the numbers of all players is a floor of the bracket's shapes.
use Rattle.std.proofs.Common.{◌≡◌, ℕ, IfSome, Option, List, ap, ◌∙◌, subst}
use Rattle.dual.specs.Prelude.{FloorTable, IsFloor}
use Rattle.dutch_arrangements.specs.Prelude.{numbers_from}
use Rattle.dutch_choice.specs.ShapeCosts.{count_all, shape_costs}
use Rattle.dutch_choice.proofs.CandidateCosts.{floor_told}
use Rattle.dutch_choice.proofs.certified.confirmed_floor.Goals as goal

pub returns-in-Some : goal.returns-in-Some
returns-in-Some c =
    let context = c.args.players.now in
    let numbers : List ℕ = c.deref.result.now in
    let are : numbers ≡ numbers_from 1 (count_all context) = c.deref.ensures.0 ∙ c.numbered_from-numbers.ensures.items ∙ ap (numbers_from 1) c.count.ensures.value in
    let least : (left : ℕ) → IsFloor (shape_costs context) numbers left c.in-Some.floor =
    subst (λ (o : Option FloorTable). IfSome o (λ floor. (left : ℕ) → IsFloor (shape_costs context) numbers left floor)) c.in-Some.is c.in_ok-floor.ensures.least in
    floor_told context c.count.ensures.sound numbers are c.in-Some.floor least (record { base = c.base.result; debt = c.debt.result }) c.base.ensures c.debt.ensures
