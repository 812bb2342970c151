-- The base and what is known add up to the bound, what is owed on top.
use Rattle.std.proofs.Common.{◌≡◌, sum_by, ap, arith, ◌∙◌}
use Rattle.std.specs.List.{zip}
use Rattle.std.proofs.lemmas.List.Sums.{sum_by-append}
use Rattle.dual.specs.Prelude.{slack_in}
use Rattle.dutch_arrangements.specs.Prelude.{Arrangement}
use Rattle.dutch_bracket.specs.Prelude.{fixed_lists}
use Rattle.dutch_weight_floors.specs.Prelude.{bound_behind}
use Rattle.dutch_weight_floors.proofs.AboveLemmas.{back_by}
use Rattle.dutch_weight_floors.proofs.weight_floor.bound_behind.Goals as goal

pub returns : goal.returns
returns c =
    let f = slack_in c.args.floor.now in
    let lists : Arrangement = fixed_lists c.args.prefix.now in
    let viewed = c.lists.view_is ∙ c.fixed_lists-lists.ensures in
    let one = ap (λ (l : Arrangement). sum_by f (zip l.s1 l.s2)) viewed in
    let two = ap (λ (l : Arrangement). sum_by f (zip l.s1r l.s2r)) viewed in
    let both = sum_by-append f (zip lists.s1 lists.s2) (zip lists.s1r lists.s2r) in
    let same : c.in_ok-all.all ≡ bound_behind c.args.floor.now c.args.mdps c.args.prefix.now =
    omega (arith, c.in_ok-all.ensures, c.in_ok-second.ensures, c.in_ok-first.ensures, c.base.ensures, one, two, both) in
    back_by c.minus.result c.in_ok-all.all c.debt.result c.args.floor.now.debt (bound_behind c.args.floor.now c.args.mdps c.args.prefix.now) c.debt.ensures same
    c.minus.ensures
