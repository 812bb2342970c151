use Rattle.std.proofs.Common.{ℕ, List, ◌+◌, ◌≡◌, [], ◌∷◌, ◌∙◌, ap, sym, subst}
use Rattle.dutch_sequence.specs.declared.exchange.SearchState.{SearchState}
use Rattle.dutch_sequence.specs.Prelude.{sets_from, trials_from, set_of}
use Rattle.dutch_sequence.proofs.Skipping.{came}
use Rattle.dutch_sequence.proofs.exchange.ExchangesGenerator.put_next.Goals as goal

pub returns-clause-answer : goal.returns-clause-answer
returns-clause-answer c =
    let k = c.self.inside.k in
    let old = c.self.inside.state in
    let new = c.advance_set.new.state in
    sym (ap (λ v. v.coming) c.self.view_is)
    ∙ subst (λ pool. sets_from pool k old ≡ set_of pool k new.size new.descent.path ∷ sets_from pool k new) c.deref.ensures.0 (came _ _ _ _ c.in-Whole.is c.in_ok-advance_set.ensures.answer).0
    ∙ ap (λ set. set ∷ sets_from c.self.inside.pool.items k new) (sym (c.put_set.ensures ∙ ap (λ pool. set_of pool k new.size new.descent.path) c.deref.ensures.0))

pub returns-in-Over-clause-answer : goal.returns-in-Over-clause-answer
returns-in-Over-clause-answer c =
    let k = c.self.inside.k in
    let new = c.advance_set.new.state in
    let none = subst (λ pool. (sets_from pool k c.self.inside.state ≡ []) × (sets_from pool k new ≡ []) × (trials_from pool k new ≡ 0)) c.deref.ensures.0 (came _ _ _ _ c.in-Over.is c.in_ok-advance_set.ensures.answer) in
    (sym (ap (λ v. v.coming) c.self.view_is) ∙ none.0, none.1, none.2)

-- the steps, over the pool that the search is lent
steps-at : (pool pool' : List ℕ) (k left before after : ℕ) (old new : SearchState) → pool ≡ pool' → trials_from pool' k old ≡ left → after + trials_from pool k new ≡ before + trials_from pool k old → after + trials_from pool' k new ≡ before + left
steps-at pool pool' k left before after old new same was steps =
    subst (λ pool. after + trials_from pool k new ≡ before + trials_from pool k old) same steps ∙ ap (λ left. before + left) was

pub returns-clause-steps : goal.returns-clause-steps
returns-clause-steps c =
    steps-at _ _ c.self.inside.k _ c.args.budget.now.used c.advance_set.new.budget.used c.self.inside.state c.advance_set.new.state c.deref.ensures.0 (ap (λ v. v.left) c.self.view_is) c.advance_set.ensures.steps

pub returns-in_err-advance_set-clause-steps : goal.returns-in_err-advance_set-clause-steps
returns-in_err-advance_set-clause-steps c =
    steps-at _ _ c.self.inside.k _ c.args.budget.now.used c.advance_set.new.budget.used c.self.inside.state c.advance_set.new.state c.deref.ensures.0 (ap (λ v. v.left) c.self.view_is) c.advance_set.ensures.steps
