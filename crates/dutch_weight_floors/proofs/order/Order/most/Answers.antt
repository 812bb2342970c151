-- The sum of what is known is no less than what the members of each such S1R add.
use Rattle.std.proofs.Common.{ℕ, ◌+◌, ◌*◌, List, ap, subst, sum_by, arith}
use Rattle.dutch_arrangements.specs.Prelude.{ExchangeClass, IsIn}
use Rattle.dutch_weight_floors.specs.Prelude.{Order, kept, short_of}
use Rattle.dutch_weight_floors.proofs.OrderLemmas.{most_added, under_rest}
use Rattle.dutch_weight_floors.proofs.order.Order.most.Goals as goal

pub returns : goal.returns
returns c =
    let order : Order = c.args.self.now in
    let e : ExchangeClass = c.args.exchange.now in
    let top : ℕ = c.top-top.result in
    let barred : List ℕ = c.barred_numbers.result.now in
    let held : List ℕ = c.held_numbers.result.now in
    let stay = ap (λ (l : List ℕ). sum_by (kept order barred) l) c.original.ensures in
    let short = ap (λ (l : List ℕ). sum_by (short_of order top held) l) c.others.ensures in
    let unit = ap (λ (o : Order). o.unit * c.difference.result) c.self.view_is in
    let moved = ap (λ (n : ℕ). order.unit * n) c.difference.ensures in
    let entered = ap (λ (n : ℕ). top * n) c.size.ensures in
    under_rest order e c.sum_less.result ((c.in_ok-kept.kept + c.in_ok-moved.moved) + c.in_ok-entered.entered) c.in_ok-short.short c.sum_less.ensures
    (λ s1r is.
    omega (
      arith,
      most_added order top c.top-top.ensures e s1r is barred held (λ x m. subst (IsIn x) c.barred_numbers.ensures m)
          (λ x m. subst (IsIn x) c.held_numbers.ensures m),
      stay,
      short,
      unit,
      moved,
      entered,
      c.in_ok-kept.ensures,
      c.in_ok-short.ensures,
      c.in_ok-moved.ensures,
      c.in_ok-entered.ensures,
    ))
