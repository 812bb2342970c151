use Rattle.std.proofs.Common.{rules, sym, subst}
use Rattle.dutch_arrangements.specs.Prelude.{ExchangeClass, IsExchange}
use Rattle.dutch_listing.proofs.Passing.{sets-left}
use Rattle.dutch_sequence.proofs.Skipping.{came, drawn-stopped, passes-more, passes-same}
use Rattle.dutch_sequence.proofs.Spending.{spends-more}
use Rattle.dutch_listing.proofs.past.choose_set.Goals as goal

pub returns-in_err-leave-in-Beginning-clause-answer : goal.returns-in_err-leave-in-Beginning-clause-answer
returns-in_err-leave-in-Beginning-clause-answer g c =
    let was = c.loop-cuts.invariant in
    let chosen = c.args.chosen.now in
    let Pruned = g.C.Cuts.Pruned c.args.cuts.now in
    let stands = came _ _ _ _ c.in-Beginning.is c.in_ok-advance.ensures.answer in
    let left = sets-left Pruned chosen.lists chosen.very_next c.if-not-chosen.true c.advance.new.self.exchange
    (λ a begins is.
    was.keeps a (c.cuts_exchange.ensures.told c.if-cuts_exchange.true a begins
    (subst (λ (exchange : ExchangeClass). IsExchange exchange a.s1r) (sym c.exchange.ensures) is)))
    _ _ c.leave.ensures.passes in
    drawn-stopped _ _ _ _ c.from_residual-in_err-leave-in-Beginning.ensures.0 (passes-more _ _ _ _ (passes-same _ _ _ _ was.passes (sym stands.0)) left, search rules)

pub loop-cuts-preserved-then-cuts_exchange : goal.loop-cuts-preserved-then-cuts_exchange
loop-cuts-preserved-then-cuts_exchange g c =
    let was = c.loop-cuts.invariant in
    let chosen = c.args.chosen.now in
    let Pruned = g.C.Cuts.Pruned c.args.cuts.now in
    let stands = came _ _ _ _ c.in-Beginning.is c.in_ok-advance.ensures.answer in
    let left = sets-left Pruned chosen.lists chosen.very_next c.if-not-chosen.true c.advance.new.self.exchange
    (λ a begins is.
    was.keeps a (c.cuts_exchange.ensures.told c.if-cuts_exchange.true a begins
    (subst (λ (exchange : ExchangeClass). IsExchange exchange a.s1r) (sym c.exchange.ensures) is)))
    _ _ c.leave.ensures.passes in
    record {
      passes = passes-more _ _ _ _ (passes-same _ _ _ _ was.passes (sym stands.0)) left;
      keeps = λ a pruned. was.keeps a (c.cuts_exchange.ensures.keeps a pruned);
      spends = spends-more (spends-more was.spends c.advance.ensures.spends) c.leave.ensures.spends;
    }
