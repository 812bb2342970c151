use Rattle.std.proofs.Common.{ℕ, zero, suc, ◌≡◌, ◌<◌, ◌∙◌, ap, refl, sym, arith, rules}
use Rattle.dutch_sequence.specs.Prelude.{trials_ahead, hits}
use Rattle.dutch_sequence.proofs.Skipping.{came, came-stopped}
use Rattle.dutch_sequence.proofs.Spending.{spends-more}
use Rattle.dutch_sequence.proofs.StageMoves.{sets-by_hits, sets-found, trials-after}
use Rattle.dutch_sequence.proofs.exchange.advance_set.Goals as goal
use Rattle.dutch_sequence.specs.declared.search.Asks.{Asks}
use Rattle.dutch_sequence.specs.declared.search.Asks.TheVariants.{AtBeginnings, Never}

-- it does not ask where it never does
never-asks : (asks : Asks) (P : Type 0) → asks ≡ AtBeginnings → asks ≡ Never → P
never-asks asks P is never = cc

-- where it asks in a stage, the caller wants to be asked, and it is no stage of the original set
asks-in : (asks asks' : Asks) (size : ℕ) → (size ≡ 0 → asks' ≡ Never) → (0 < size → asks' ≡ asks) → asks' ≡ AtBeginnings → (asks ≡ AtBeginnings) × (0 < size)
asks-in asks asks' zero original others is = never-asks asks' _ is (original refl)
asks-in asks asks' (suc size) original others is = (sym (others (omega arith)) ∙ is, omega arith)

pub returns-in_err-advance-clause-answer : goal.returns-in_err-advance-clause-answer
unfolding trials_ahead
returns-in_err-advance-clause-answer c =
    let p = c.loop-state.state in
    let d = c.advance.new.descent in
    let stopped = c.in_err-advance.ensures.answer in
    let same = sets-by_hits c.args.sides.now.pool.now c.args.sides.now.k p.hint.items p.size p.difference d.path p.descent.path d.number p.descent.number d.beyond p.descent.beyond c.advance.ensures.beyond stopped.0 in
    came-stopped _ _ _ _ _ c.from_residual.ensures.0 (same ∙ c.loop-state.invariant.sets, stopped.1, λ _. omega (arith, stopped.2))

pub returns-then-budget-clause-answer : goal.returns-then-budget-clause-answer
returns-then-budget-clause-answer c =
    let p = c.loop-state.state in
    let d = c.advance.new.descent in
    let begins = came _ _ _ _ c.in-Beginning.is c.in_ok-advance.ensures.answer in
    let same = sets-by_hits c.args.sides.now.pool.now c.args.sides.now.k p.hint.items p.size p.difference d.path p.descent.path d.number p.descent.number d.beyond p.descent.beyond c.advance.ensures.beyond begins.0 in
    let asks = asks-in c.args.asks c.asks_in.result p.size c.asks_in.ensures.original c.asks_in.ensures.others begins.1 in
    (same ∙ c.loop-state.invariant.sets, search rules, λ never. never-asks c.args.asks _ asks.0 never)

pub returns-in-Beginning-clause-answer : goal.returns-in-Beginning-clause-answer
returns-in-Beginning-clause-answer c =
    let p = c.loop-state.state in
    let d = c.advance.new.descent in
    let begins = came _ _ _ _ c.in-Beginning.is c.in_ok-advance.ensures.answer in
    let same = sets-by_hits c.args.sides.now.pool.now c.args.sides.now.k p.hint.items p.size p.difference d.path p.descent.path d.number p.descent.number d.beyond p.descent.beyond c.advance.ensures.beyond begins.0 in
    let asks = asks-in c.args.asks c.asks_in.result p.size c.asks_in.ensures.original c.asks_in.ensures.others begins.1 in
    (same ∙ c.loop-state.invariant.sets, asks.0, asks.1, omega (arith, begins.2, c.loop-state.invariant.nearer))

pub returns-in-Whole-clause-answer : goal.returns-in-Whole-clause-answer
returns-in-Whole-clause-answer c =
    let p = c.loop-state.state in
    let d = c.advance.new.descent in
    let found = came _ _ _ _ c.in-Whole.is c.in_ok-advance.ensures.answer in
    let follows = sets-found c.args.sides.now.pool.now c.args.sides.now.k p.hint.items p.size p.difference p.descent.path d.path p.descent.number d.number p.descent.beyond d.beyond (sym c.advance.ensures.beyond) found.0 in
    (sym c.loop-state.invariant.sets ∙ follows, found.1)

pub returns-then-not-next_stage-clause-answer : goal.returns-then-not-next_stage-clause-answer
returns-then-not-next_stage-clause-answer c =
    let p = c.loop-state.state in
    let d = c.advance.new.descent in
    let ended = c.next_stage.ensures.ended c.if-not-next_stage.true in
    let none = came _ _ _ _ c.in-Over.is c.in_ok-advance.ensures.answer in
    let same = sets-by_hits c.args.sides.now.pool.now c.args.sides.now.k p.hint.items p.size p.difference d.path p.descent.path d.number p.descent.number d.beyond p.descent.beyond c.advance.ensures.beyond (ap hits none.1 ∙ sym none.0) in
    (sym c.loop-state.invariant.sets ∙ sym same ∙ sym c.next_stage.ensures.sets ∙ ended.0, ended.0, ended.1)

pub loop-state-preserved : goal.loop-state-preserved
unfolding trials_ahead
loop-state-preserved c =
    let p = c.loop-state.state in
    let d = c.advance.new.descent in
    let none = came _ _ _ _ c.in-Over.is c.in_ok-advance.ensures.answer in
    let same = sets-by_hits c.args.sides.now.pool.now c.args.sides.now.k p.hint.items p.size p.difference d.path p.descent.path d.number p.descent.number d.beyond p.descent.beyond c.advance.ensures.beyond (ap hits none.1 ∙ sym none.0) in
    let after = trials-after c.args.sides.now.pool.now c.args.sides.now.k p.hint.items p.size p.difference d.path p.descent.path d.number p.descent.number d.beyond p.descent.beyond c.advance.ensures.beyond in
    let nearer = c.next_stage.ensures.nearer c.if-not-next_stage.false in
    let fresh = c.next_stage.ensures.fresh c.if-not-next_stage.false in
    record {
      stands = c.next_stage.ensures.stands;
      sets = c.next_stage.ensures.sets ∙ same ∙ c.loop-state.invariant.sets;
      steps = omega (arith, after, c.next_stage.ensures.trials, c.advance.ensures.steps, c.loop-state.invariant.steps);
      nearer = omega (arith, nearer, fresh, c.advance.ensures.spends.limit, c.advance.ensures.spends.rises, c.loop-state.invariant.nearer);
      spends = spends-more c.loop-state.invariant.spends c.advance.ensures.spends;
    }
