use Rattle.std.proofs.Common.{◌≡◌, ◌∙◌, ap, refl, subst, sym, ℕ, Bool, List, Option, option_copied}
use Rattle.dutch_arrangements.specs.Prelude.{Arrangement, HasS1r, HasS2r, Of, left_of, from_on, exchanges, choices_from, in_s2, joined, s1r_blocks}
use Rattle.dutch_listing.proofs.Blocks.{of-both}
use Rattle.dutch_listing.proofs.choices.ByS1r.start.Goals as goal

-- the same lists have the same blocks
filled : (meets : ℕ → ℕ → Bool) (s1 s1' s2 s2' left left' : List ℕ) (own own' : Option Arrangement) (sets sets' : List (List ℕ)) → s1 ≡ s1' → s2 ≡ s2' → left ≡ left' → own ≡ own' → sets ≡ sets'
    → joined (s1r_blocks meets s1 s2 left own sets) ≡ joined (s1r_blocks meets s1' s2' left' own' sets')
filled meets s1 s1' s2 s2' left left' own own' sets sets' is_s1 is_s2 is_left is_own is_sets = cc

pub returns-in-Some-clause-blocks : goal.returns-in-Some-clause-blocks
unfolding in_s2
returns-in-Some-clause-blocks g c =
    let k = c.args.from.now.k in
    let own = c.in-Some.own.now in
    let at_s1r = ap (λ (a : Arrangement). a.s1r) c.own.view_is in
    let residents = c.args.from.now.residents.now.items in
    let left = c.put_left_of.ensures.items ∙ ap (λ numbers. left_of numbers c.deref-2.result.now) c.deref.ensures.0 ∙ ap (left_of residents) c.deref-2.ensures.0 in
    filled _ _ _ _ _ _ _ _ _ _ _ c.refill.ensures c.refill-2.ensures left refl
    (c.start_from.ensures
    ∙ ap (λ set. from_on set (exchanges c.deref-3.result.now k)) (c.deref-in-Some.ensures.0 ∙ at_s1r)
    ∙ ap (λ pool. from_on own.s1r (exchanges pool k)) (c.deref-3.ensures.0 ∙ left)
    ∙ ap (λ other. choices_from (λ a. a.s1r) other (exchanges (left_of residents c.args.from.now.s2.now.items) k)) (sym (ap (λ lent. option_copied lent) c.in-Some.is)))

pub returns-in-None-clause-blocks : goal.returns-in-None-clause-blocks
unfolding in_s2
returns-in-None-clause-blocks g c =
    let k = c.args.from.now.k in
    let residents = c.args.from.now.residents.now.items in
    let left = c.put_left_of.ensures.items ∙ ap (λ numbers. left_of numbers c.deref-2.result.now) c.deref.ensures.0 ∙ ap (left_of residents) c.deref-2.ensures.0 in
    filled _ _ _ _ _ _ _ _ _ _ _ c.refill.ensures c.refill-2.ensures left refl
    (c.start.ensures.coming
    ∙ ap (λ pool. exchanges pool k) (c.deref-3.ensures.0 ∙ left)
    ∙ ap (λ other. choices_from (λ a. a.s1r) other (exchanges (left_of residents c.args.from.now.s2.now.items) k)) (sym (ap (λ lent. option_copied lent) c.in-None.is)))

pub returns-in-Some-clause-given : goal.returns-in-Some-clause-given
returns-in-Some-clause-given g c =
    let residents = c.args.from.now.residents.now.items in
    let left = c.put_left_of.ensures.items ∙ ap (λ numbers. left_of numbers c.deref-2.result.now) c.deref.ensures.0 ∙ ap (left_of residents) c.deref-2.ensures.0 in
    subst (λ remainder. Of (HasS2r remainder) (option_copied c.args.own)) (sym left)
    (of-both (HasS1r c.args.from.now.k (left_of residents c.args.from.now.s2.now.items)) (HasS2r (left_of residents c.args.from.now.s2.now.items)) (option_copied c.args.own) (λ own has. has.1) c.requires.given)

pub returns-in-None-clause-given : goal.returns-in-None-clause-given
returns-in-None-clause-given g c =
    let residents = c.args.from.now.residents.now.items in
    let left = c.put_left_of.ensures.items ∙ ap (λ numbers. left_of numbers c.deref-2.result.now) c.deref.ensures.0 ∙ ap (left_of residents) c.deref-2.ensures.0 in
    subst (λ remainder. Of (HasS2r remainder) (option_copied c.args.own)) (sym left)
    (of-both (HasS1r c.args.from.now.k (left_of residents c.args.from.now.s2.now.items)) (HasS2r (left_of residents c.args.from.now.s2.now.items)) (option_copied c.args.own) (λ own has. has.1) c.requires.given)
