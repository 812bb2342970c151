use Rattle.std.proofs.Common.{[], length, ap, arith, subst, sym}
use Rattle.dutch_sequence.specs.Prelude.{hinted, Walked, exchange_plan}
use Rattle.dutch_sequence.proofs.LateSets.{exchange-room, exchanges-from}
use Rattle.std.specs.List.Sorted.{IsStrictlyIncreasing}
use Rattle.dutch_sequence.proofs.SearchStates.{late-state}
use Rattle.dutch_sequence.proofs.exchange.Exchanges.start_from.Goals as goal

pub invariant_of-self : goal.invariant_of-self
invariant_of-self c =
    let room = exchange-room c.args.sides.now.pool.now c.args.sides.now.k c.args.sides.now.ascends c.args.sides.now.enough c.args.set.now c.requires in
    let state = c.enter_at.new.state in
    let at = c.enter_at.ensures in
    let late = late-state c.args.sides.now.pool.now c.args.sides.now.k c.args.sides.now.ascends c.args.sides.now.enough c.args.set.now c.requires
    c.fill.new.list.items c.fill.ensures state at.size at.difference at.hint at.path at.number at.beyond in
    let long = ap length c.fill.ensures in (
      omega (arith, long, c.args.sides.now.few),
      omega (arith, long, c.args.sides.now.enough),
      subst IsStrictlyIncreasing (sym c.fill.ensures) c.args.sides.now.ascends,
      (
        omega (arith, c.enter_at.ensures.size, room.0),
        omega (arith, long, c.enter_at.ensures.size, room.2),
        (omega (arith, ap length c.enter_at.ensures.path), subst (Walked (hinted state.hint.items (exchange_plan c.fill.new.list.items c.args.sides.now.k state.size state.difference)) []) (sym c.enter_at.ensures.path) tt),
        late.0,
        late.1,
      ),
    )

pub returns : goal.returns
returns c =
    let late = exchanges-from c.args.sides.now.pool.now c.args.sides.now.k c.args.sides.now.ascends c.args.sides.now.enough c.args.set.now c.requires in
    cc
