use Rattle.std.proofs.Common.{◌≡◌, ◌+◌, ◌<◌, ℕ, suc, [], length, ◌∙◌, ap, subst, sym, arith, rules}
use Rattle.dutch_sequence.specs.Prelude.{least_difference, stages_ahead, hinted, exchange_plan, most_exchanged, Walked}
use Rattle.dutch_sequence.proofs.StageMoves.{sets-entered, trials-entered, sets-next, trials-next, sets-larger, trials-larger, stages-larger, sets-none, trials-none}
use Rattle.dutch_sequence.proofs.SearchStates.{new-state}
use Rattle.dutch_sequence.proofs.exchange.next_stage.Goals as goal

one_up : (n : ℕ) → n + 1 ≡ suc n
one_up n = omega arith

pub returns-in-Some-clause-sets : goal.returns-in-Some-clause-sets
returns-in-Some-clause-sets c =
    let p = c.args.state.now in
    let entered = c.enter.ensures in
    sets-entered c.args.sides.now.pool.now c.args.sides.now.k c.enter.new.self p.size c.in-Some.next entered.size entered.difference entered.hint entered.path entered.number entered.beyond
    ∙ sets-next c.args.sides.now.pool.now c.args.sides.now.k p.hint.items p.size p.difference p.descent.path p.descent.number p.descent.beyond c.requires.spent c.in-Some.next (search rules)

pub returns-in-Some-clause-trials : goal.returns-in-Some-clause-trials
returns-in-Some-clause-trials c =
    let p = c.args.state.now in
    let entered = c.enter.ensures in
    trials-entered c.args.sides.now.pool.now c.args.sides.now.k c.enter.new.self p.size c.in-Some.next entered.size entered.difference entered.hint entered.path entered.number entered.beyond
    ∙ trials-next c.args.sides.now.pool.now c.args.sides.now.k p.hint.items p.size p.difference p.descent.path p.descent.number p.descent.beyond c.requires.spent c.in-Some.next (search rules)

pub returns-then-state-min-clause-sets : goal.returns-then-state-min-clause-sets
returns-then-state-min-clause-sets c =
    let p = c.args.state.now in
    let entered = c.enter-then-state-min.ensures in
    sets-entered c.args.sides.now.pool.now c.args.sides.now.k c.enter-then-state-min.new.self (suc p.size) (least_difference c.args.sides.now.pool.now c.args.sides.now.k (suc p.size)) (entered.size ∙ one_up p.size)
    (entered.difference ∙ c.least_of.ensures ∙ ap (least_difference c.args.sides.now.pool.now c.args.sides.now.k) (one_up p.size)) entered.hint entered.path entered.number entered.beyond
    ∙ sets-larger c.args.sides.now.pool.now c.args.sides.now.k p.hint.items p.size p.difference p.descent.path p.descent.number p.descent.beyond c.requires.spent (search rules) (search rules)

pub returns-then-state-min-clause-trials : goal.returns-then-state-min-clause-trials
returns-then-state-min-clause-trials c =
    let p = c.args.state.now in
    let entered = c.enter-then-state-min.ensures in
    trials-entered c.args.sides.now.pool.now c.args.sides.now.k c.enter-then-state-min.new.self (suc p.size) (least_difference c.args.sides.now.pool.now c.args.sides.now.k (suc p.size)) (entered.size ∙ one_up p.size)
    (entered.difference ∙ c.least_of.ensures ∙ ap (least_difference c.args.sides.now.pool.now c.args.sides.now.k) (one_up p.size)) entered.hint entered.path entered.number entered.beyond
    ∙ trials-larger c.args.sides.now.pool.now c.args.sides.now.k p.hint.items p.size p.difference p.descent.path p.descent.number p.descent.beyond c.requires.spent (search rules) (search rules)

pub returns-then-state-min-clause-nearer : goal.returns-then-state-min-clause-nearer
returns-then-state-min-clause-nearer c _ =
    let p = c.args.state.now in
    let entered = c.enter-then-state-min.ensures in
    let larger : stages_ahead c.args.sides.now.pool.now c.args.sides.now.k (suc p.size) (least_difference c.args.sides.now.pool.now c.args.sides.now.k (suc p.size)) < stages_ahead c.args.sides.now.pool.now c.args.sides.now.k p.size p.difference =
    stages-larger c.args.sides.now.pool.now c.args.sides.now.k p.hint.items p.size p.difference p.descent.path p.descent.number p.descent.beyond c.requires.spent (search rules) (search rules) in
    subst (λ size. stages_ahead c.args.sides.now.pool.now c.args.sides.now.k size c.enter-then-state-min.new.self.difference < stages_ahead c.args.sides.now.pool.now c.args.sides.now.k p.size p.difference) (sym (entered.size ∙ one_up p.size))
    (subst (λ d. stages_ahead c.args.sides.now.pool.now c.args.sides.now.k (suc p.size) d < stages_ahead c.args.sides.now.pool.now c.args.sides.now.k p.size p.difference)
    (sym (entered.difference ∙ c.least_of.ensures ∙ ap (least_difference c.args.sides.now.pool.now c.args.sides.now.k) (one_up p.size))) larger)

pub returns-clause-ended : goal.returns-clause-ended
returns-clause-ended c _ =
    let p = c.args.state.now in (
      sets-none c.args.sides.now.pool.now c.args.sides.now.k p.hint.items p.size p.difference p.descent.path p.descent.number p.descent.beyond c.requires.spent (search rules) (search rules),
      trials-none c.args.sides.now.pool.now c.args.sides.now.k p.hint.items p.size p.difference p.descent.path p.descent.number p.descent.beyond c.requires.spent (search rules) (search rules),
    )

pub returns-in-Some-clause-stands : goal.returns-in-Some-clause-stands
returns-in-Some-clause-stands c =
    let entered = c.enter.ensures in
    let state = c.enter.new.self in
    let new = new-state c.args.sides.now.pool.now c.args.sides.now.k c.args.sides.now.ascends c.args.sides.now.enough state entered.hint entered.path entered.number entered.beyond in (
      omega (arith, entered.size, c.requires.standing.0),
      omega (arith, entered.size, c.requires.standing.1),
      (omega (arith, ap length entered.path), subst (Walked (hinted state.hint.items (exchange_plan c.args.sides.now.pool.now c.args.sides.now.k state.size state.difference)) []) (sym entered.path) tt),
      new.0,
      new.1,
    )

pub returns-then-state-min-clause-stands : goal.returns-then-state-min-clause-stands
returns-then-state-min-clause-stands c =
    let entered = c.enter-then-state-min.ensures in
    let state = c.enter-then-state-min.new.self in
    let larger : c.args.state.now.size < most_exchanged c.args.sides.now.pool.now c.args.sides.now.k = search rules in
    let new = new-state c.args.sides.now.pool.now c.args.sides.now.k c.args.sides.now.ascends c.args.sides.now.enough state entered.hint entered.path entered.number entered.beyond in (
      omega (arith, entered.size, larger),
      omega (arith, entered.size, larger),
      (omega (arith, ap length entered.path), subst (Walked (hinted state.hint.items (exchange_plan c.args.sides.now.pool.now c.args.sides.now.k state.size state.difference)) []) (sym entered.path) tt),
      new.0,
      new.1,
    )
