use Rattle.std.proofs.Common.{◌≡◌, ◌<◌, ◌+◌, ◌∙◌, ap, sym, subst, arith, length, map, [], ◌∷◌}
use Rattle.std.specs.List.{AllByRecursion}
use Rattle.dutch_sequence.specs.Prelude.{hinted, ahead, hits, trials, transposition_plan, numbers_at}
use Rattle.dutch_sequence.proofs.Moves.{Walked-below}
use Rattle.dutch_sequence.proofs.Skipping.{drawn, drawn-stopped}
use Rattle.dutch_sequence.proofs.transposition.TranspositionsGenerator.put_next.Goals as goal

pub pick-requires-clause-within : goal.pick-requires-clause-within
pick-requires-clause-within g c =
    let own = c.self.inside in
    subst (λ pool. AllByRecursion (λ place. place < length pool) c.as_slice.result.now) (sym c.deref.ensures.0)
    (subst (AllByRecursion (λ place. place < length own.pool.items)) (sym c.as_slice.ensures)
    (Walked-below (transposition_plan (g.R.Rule.meets own.rule.now) own.first.items own.pool.items) (length own.pool.items) (λ path. omega arith) []
    c.climb_on.new.descent.path c.climb_on.ensures.stands.1))

pub returns-clause-answer : goal.returns-clause-answer
returns-clause-answer g c =
    let own = c.self.inside in
    let path = c.climb_on.new.descent.path in
    let plan = transposition_plan (g.R.Rule.meets own.rule.now) own.first.items own.pool.items in
    let picked : c.pick.new.numbers.items ≡ numbers_at own.pool.items path = c.pick.ensures ∙ ap (λ pool. numbers_at pool c.as_slice.result.now) c.deref.ensures.0 ∙ ap (numbers_at own.pool.items) c.as_slice.ensures in
    sym (ap (λ v. v.coming) c.self.view_is)
    ∙ ap (map (numbers_at own.pool.items)) (drawn _ _ _ c.if-not-branch.false c.in_ok-climb_on.ensures.answer).0
    ∙ ap (λ numbers. numbers ∷ map (numbers_at own.pool.items) (hits (ahead (hinted own.hint.items plan) path c.climb_on.new.descent.number))) (sym picked)

pub returns-then-not-branch-clause-answer : goal.returns-then-not-branch-clause-answer
returns-then-not-branch-clause-answer g c =
    let own = c.self.inside in
    let none = drawn _ _ _ c.if-not-branch.true c.in_ok-climb_on.ensures.answer in (
      sym (ap (λ v. v.coming) c.self.view_is) ∙ ap (map (numbers_at own.pool.items)) none.0,
      ap (λ events. map (numbers_at own.pool.items) (hits events)) none.1,
      ap trials none.1,
    )

pub returns-in_err-climb_on-clause-answer : goal.returns-in_err-climb_on-clause-answer
returns-in_err-climb_on-clause-answer g c =
    let stopped = c.in_err-climb_on.ensures.answer in
    drawn-stopped _ _ _ _ c.from_residual.ensures.0 (ap (map (numbers_at c.self.inside.pool.items)) stopped.0 ∙ ap (λ v. v.coming) c.self.view_is, stopped.1, stopped.2)

pub returns-clause-steps : goal.returns-clause-steps
returns-clause-steps g c = c.climb_on.ensures.steps ∙ ap (λ v. c.args.budget.now.used + v.left) c.self.view_is

pub returns-then-not-branch-clause-steps : goal.returns-then-not-branch-clause-steps
returns-then-not-branch-clause-steps g c = c.climb_on.ensures.steps ∙ ap (λ v. c.args.budget.now.used + v.left) c.self.view_is

pub returns-in_err-climb_on-clause-steps : goal.returns-in_err-climb_on-clause-steps
returns-in_err-climb_on-clause-steps g c = c.climb_on.ensures.steps ∙ ap (λ v. c.args.budget.now.used + v.left) c.self.view_is
