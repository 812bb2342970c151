use Rattle.std.proofs.Common.{◌≡◌, ap, refl, sym, subst, arith, ◌-◌, [], None, length}
use Rattle.std.specs.List.Sorted.{IsStrictlyIncreasing}
use Rattle.dutch_sequence.specs.Prelude.{hinted, Walked, exchange_plan, trials_ahead, trials_of_stages, trials_of_sizes, most_exchanged}
use Rattle.dutch_sequence.proofs.SearchStates.{new-state}
use Rattle.dutch_sequence.proofs.StageSets.{exchanges-found}
use Rattle.dutch_sequence.proofs.Moves.{trials-nothing}
use Rattle.dutch_sequence.proofs.exchange.Exchanges.start.Goals as goal

pub returns-clause-coming : goal.returns-clause-coming
returns-clause-coming c =
    let all = exchanges-found c.args.sides.now.pool.now c.args.sides.now.k c.args.sides.now.ascends c.args.sides.now.enough in cc

pub returns-clause-nothing : goal.returns-clause-nothing
unfolding trials_of_stages trials_of_sizes trials_ahead
returns-clause-nothing c none =
    let here = trials-nothing (exchange_plan c.args.sides.now.pool.now c.args.sides.now.k 0 0) refl in
    let sizes : trials_of_sizes c.args.sides.now.pool.now c.args.sides.now.k (most_exchanged c.args.sides.now.pool.now c.args.sides.now.k - 0) 1 ≡ 0 =
    ap (λ count. trials_of_sizes c.args.sides.now.pool.now c.args.sides.now.k count 1) (let e : most_exchanged c.args.sides.now.pool.now c.args.sides.now.k - 0 ≡ 0 = omega (arith, none) in e) in
    let none : trials_ahead c.args.sides.now.pool.now c.args.sides.now.k [] 0 0 [] 0 None ≡ 0 = omega (arith, here, sizes) in
    cc

pub invariant_of-self : goal.invariant_of-self
invariant_of-self c =
    let entered = c.enter.ensures in
    let state = c.enter.new.self in
    let long = ap length c.fill.ensures in
    let pool = c.fill.new.list.items in
    let new = new-state pool c.args.sides.now.k (subst IsStrictlyIncreasing (sym c.fill.ensures) c.args.sides.now.ascends) (omega (arith, long, c.args.sides.now.enough)) state entered.hint entered.path entered.number entered.beyond in (
      omega (arith, long, c.args.sides.now.few),
      omega (arith, long, c.args.sides.now.enough),
      subst IsStrictlyIncreasing (sym c.fill.ensures) c.args.sides.now.ascends,
      (
        omega (arith, entered.size),
        omega (arith, entered.size),
        (omega (arith, ap length entered.path), subst (Walked (hinted state.hint.items (exchange_plan pool c.args.sides.now.k state.size state.difference)) []) (sym entered.path) tt),
        new.0,
        new.1,
      ),
    )
