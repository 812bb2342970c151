-- The list in which the search works holds the players, and what it tells is the answer about a list of pairs.
use Rattle.std.proofs.Common.{◌≡◌, ◌∙◌, ◌++◌, ℕ, List, [], true, length, ap, subst}
use Rattle.dutch_bracket.specs.Prelude.{most, IsStopped, MatchAnswer, SpendsAtMost, Takes}
use Rattle.dutch_bracket.specs.Completion.{Completable}
use Rattle.dutch_completion.proofs.Covering.{answer_by_search}
use Rattle.dutch_completion.proofs.completion.completes.Goals as goal

copied : (list all none players : List ℕ) → list ≡ all → all ≡ none ++ players → none ≡ [] → list ≡ players
copied list all none players e f g = e ∙ (f ∙ ap (λ (xs : List ℕ). xs ++ players) g)

pub returns-clause-answer : goal.returns-clause-answer
returns-clause-answer g c =
    let meets = g.R.Rule.meets c.args.rule.now in
    let may_be_left = g.R.Rule.may_be_left c.args.rule.now in
    subst
    (λ (xs : List ℕ). MatchAnswer c.can_pair.result (Completable meets may_be_left xs) (¬ Completable meets may_be_left xs)
    (IsStopped (most (length xs) true) c.args.budget.now c.can_pair.new.budget)) (copied _ _ _ _ c.deref_mut.ensures.value c.push_all.ensures c.new-all.ensures)
    (answer_by_search meets may_be_left c.deref_mut.result.now c.can_pair.result (IsStopped (most (length c.deref_mut.result.now) true) c.args.budget.now c.can_pair.new.budget)
    c.can_pair.ensures.searched.told)

pub returns-clause-steps : goal.returns-clause-steps
returns-clause-steps g c =
    subst (λ (xs : List ℕ). SpendsAtMost (most (length xs) true) c.args.budget.now c.can_pair.new.budget) (copied _ _ _ _ c.deref_mut.ensures.value c.push_all.ensures c.new-all.ensures) c.can_pair.ensures.searched.steps

pub returns-clause-taken : goal.returns-clause-taken
returns-clause-taken g c =
    subst (λ (xs : List ℕ). Takes c.can_pair.result (length xs) (length xs) c.args.budget.now c.can_pair.new.budget) (copied _ _ _ _ c.deref_mut.ensures.value c.push_all.ensures c.new-all.ensures)
    c.can_pair.ensures.searched.taken
