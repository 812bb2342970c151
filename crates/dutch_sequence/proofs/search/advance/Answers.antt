use Rattle.std.proofs.Common.{◌∙◌, ◌<◌, sym, ap, subst, arith, length, rules}
use Rattle.dutch_sequence.specs.Prelude.{Stands, ahead, hits, trials, lower, lowest}
use Rattle.dutch_sequence.proofs.Moves.{ahead-same, beyond-same, ahead-whole, trials-positive, spent-place, spent-whole}
use Rattle.dutch_sequence.proofs.search.advance.Goals as goal
use Rattle.dutch_sequence.proofs.search.advance.Goals.{then-len-places+else-descent-eq0, else-len-places+else-descent-stop}

pub returns-then-descent-eq0-clause-answer : goal.returns-then-descent-eq0-clause-answer
returns-then-descent-eq0-clause-answer g c =
    let plan = g.T.Tree.plan c.args.tree.now in
    let d = c.loop-asks.descent in
    let asked = c.comes_to_ask.new.descent in
    let whole = ahead-whole plan asked.path asked.number (search rules) c.if-descent-eq0.true in
    (sym c.loop-asks.invariant.same ∙ ap hits (sym (ahead-same plan _ _ _ _ c.comes_to_ask.ensures.path c.comes_to_ask.ensures.number) ∙ whole), search rules)

pub returns-then-descent-eq0-clause-steps : goal.returns-then-descent-eq0-clause-steps
returns-then-descent-eq0-clause-steps g c =
    let plan = g.T.Tree.plan c.args.tree.now in
    let asked = c.comes_to_ask.new.descent in
    let whole = ahead-whole plan asked.path asked.number (search rules) c.if-descent-eq0.true in
    omega (arith, ap trials whole, ap trials (ahead-same plan _ _ _ _ c.comes_to_ask.ensures.path c.comes_to_ask.ensures.number), c.loop-asks.invariant.trials)

pub returns-then-descent-eq0-clause-beyond : goal.returns-then-descent-eq0-clause-beyond
returns-then-descent-eq0-clause-beyond g c =
    let plan = g.T.Tree.plan c.args.tree.now in
    let d = c.loop-asks.descent in
    let asked = c.comes_to_ask.new.descent in
    let whole = ahead-whole plan asked.path asked.number (search rules) c.if-descent-eq0.true in
    sym (ap (λ o. lower asked.beyond o) (ap lowest whole))
    ∙ beyond-same d.beyond asked.beyond (ahead plan d.path d.number) (ahead plan asked.path asked.number) c.comes_to_ask.ensures.beyond (ahead-same plan _ _ _ _ c.comes_to_ask.ensures.path c.comes_to_ask.ensures.number)
    ∙ c.loop-asks.invariant.beyond

pub returns-then-budget-clause-answer : goal.returns-then-budget-clause-answer
returns-then-budget-clause-answer g c =
    let plan = g.T.Tree.plan c.args.tree.now in
    let asked = c.comes_to_ask.new.descent in
    let opened : length asked.path < plan.places = omega (arith, ap length c.comes_to_ask.ensures.path, c.loop-asks.invariant.stands.0) in
    (ap hits (ahead-same plan _ _ _ _ c.comes_to_ask.ensures.path c.comes_to_ask.ensures.number) ∙ c.loop-asks.invariant.same, search rules, trials-positive plan asked.path opened asked.number (search rules))

pub go_back-requires : goal.go_back-requires
go_back-requires g c =
    let plan = g.T.Tree.plan c.args.tree.now in
    let asked = c.comes_to_ask.new.descent in (
      omega (arith, g.met.T.Tree.small c.args.tree.now),
      (
        subst (Stands plan) (sym c.comes_to_ask.ensures.path) c.loop-asks.invariant.stands,
        elim c.if-len-places.branch [
          | then-len-places+else-descent-eq0 w ↦ spent-whole plan asked.path asked.number (search rules) (omega arith)
          | else-len-places+else-descent-stop w ↦
              spent-place plan asked.path asked.number (omega (arith, ap length c.comes_to_ask.ensures.path, c.loop-asks.invariant.stands.0)) (search rules)
        ],
      ),
    )
