-- Where the matchings go over the bracket alone, they leave over no more than it has; with all lower players, one at most; the floor for any
-- number is that of the next bracket.
use Rattle.std.proofs.Common.{◌≡◌, ℕ, ◌∙◌, ◌%◌, List, length, IfOk, IfSome, sym, ap, subst, arith}
use Rattle.dual.specs.Prelude.{IsFloor}
use Rattle.dutch_sequence.proofs.Members.{length-numbers}
use Rattle.dutch_weight_floors.specs.Prelude.{IsFloorBy, Scoped, all_numbers, costs_in, size_by}
use Rattle.dutch_weight_floors.specs.declared.scoped.Reach.{Reach}
use Rattle.dutch_weight_floors.specs.declared.scoped.Reach.TheVariants.{Bracket, Lower, Next}
use Rattle.dutch_weight_floors.proofs.scoped.Scoped.floor.Goals as goal

pub floor_by_class-requires-clause-some : goal.floor_by_class-requires-clause-some
floor_by_class-requires-clause-some c =
    let s : Scoped = c.args.self.now in
    let reach : s.reach ≡ Bracket = ap (λ (v : Scoped). v.reach) (sym c.self.view_is) ∙ c.in-Bracket.is in
    let players : c.deref.result.now ≡ all_numbers s = c.deref.ensures.0 ∙ c.players-players.ensures.items in
    let count = length-numbers 1 (size_by s.reach s.weighing) ∙ ap (λ (r : Reach). size_by r s.weighing) reach in
    omega (arith, c.requires, ap length players, count)

pub returns-in-Bracket-clause-floor : goal.returns-in-Bracket-clause-floor
returns-in-Bracket-clause-floor c =
    let s : Scoped = c.args.self.now in
    let reach : s.reach ≡ Bracket = ap (λ (v : Scoped). v.reach) (sym c.self.view_is) ∙ c.in-Bracket.is in
    let players : c.deref.result.now ≡ all_numbers s = c.deref.ensures.0 ∙ c.players-players.ensures.items in
    subst (λ (r : Reach). IfOk c.floor_by_class.result (λ found. IfSome found (λ remade. IsFloorBy r s c.args.left remade.floor))) (sym reach)
    (subst (λ (xs : List ℕ). IfOk c.floor_by_class.result (λ found. IfSome found (λ remade. IsFloor (costs_in s) xs c.args.left remade.floor)))
    players c.floor_by_class.ensures.least)

pub returns-in-Lower-clause-floor : goal.returns-in-Lower-clause-floor
returns-in-Lower-clause-floor c =
    let s : Scoped = c.args.self.now in
    let reach : s.reach ≡ Lower = ap (λ (v : Scoped). v.reach) (sym c.self.view_is) ∙ c.in-Lower.is in
    let players : c.deref.result.now ≡ all_numbers s = c.deref.ensures.0 ∙ c.players-players.ensures.items in
    let count = c.len.ensures.value ∙ ap length c.players-players.ensures.items in
    subst (λ (r : Reach). IfOk c.floor_by_class-in-Lower.result (λ found. IfSome found (λ remade. IsFloorBy r s c.args.left remade.floor))) (sym reach)
    (subst (λ (n : ℕ). IfOk c.floor_by_class-in-Lower.result (λ found. IfSome found (λ remade. IsFloor (costs_in s) (all_numbers s) (n % 2) remade.floor)))
    count
    (subst (λ (xs : List ℕ). IfOk c.floor_by_class-in-Lower.result (λ found. IfSome found (λ remade. IsFloor (costs_in s) xs (c.len.result % 2) remade.floor)))
    players c.floor_by_class-in-Lower.ensures.least))

pub returns-clause-floor : goal.returns-clause-floor
returns-clause-floor c =
    let s : Scoped = c.args.self.now in
    let reach : s.reach ≡ Next = ap (λ (v : Scoped). v.reach) (sym c.self.view_is) ∙ c.in-Next.is in
    let players : c.deref.result.now ≡ all_numbers s = c.deref.ensures.0 ∙ c.players-players.ensures.items in
    subst (λ (r : Reach). IfOk c.floor_for_any_by_class.result (λ found. IfSome found (λ remade. IsFloorBy r s c.args.left remade.floor))) (sym reach)
    (subst (λ (xs : List ℕ). IfOk c.floor_for_any_by_class.result (λ found. IfSome found (λ remade. (count : ℕ) → IsFloor (costs_in s) xs count remade.floor)))
    players c.floor_for_any_by_class.ensures.least)
