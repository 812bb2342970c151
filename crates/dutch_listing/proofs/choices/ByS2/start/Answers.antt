use Rattle.std.proofs.Common.{refl, sym, subst, length, ◌≤◌, option_copied, ◌≡◌, ◌∙◌, ap, filter, ℕ, Bool, List, Option}
use Rattle.std.specs.List.{AllByRecursion}
use Rattle.std.specs.List.Sorted.{IsStrictlyIncreasing}
use Rattle.dutch_arrangements.specs.Prelude.{Arrangement, left_of, HasS1r, HasS2, Of, choices_from, in_s1, joined, s2_blocks, all_meet, from_on, all_tuples}
use Rattle.dutch_listing.proofs.Blocks.{of-both}
use Rattle.dutch_sequence.proofs.Counts.{opponents-leave, opponents-leave-from}
use Rattle.dutch_listing.proofs.choices.ByS2.start.Goals as goal

-- the same lists have the same blocks
filled : (meets : ℕ → ℕ → Bool) (k : ℕ) (s1 s1' residents residents' : List ℕ) (own own' : Option Arrangement) (lists lists' : List (List ℕ)) → s1 ≡ s1' → residents ≡ residents' → own ≡ own' → lists ≡ lists'
    → joined (s2_blocks meets k s1 residents own lists) ≡ joined (s2_blocks meets k s1' residents' own' lists')
filled meets k s1 s1' residents residents' own own' lists lists' is_s1 is_residents is_own is_lists = cc

-- the lists of the same players
same_lists : (meets : ℕ → ℕ → Bool) (s1 s1' residents residents' tuple : List ℕ) → s1 ≡ s1' → residents ≡ residents'
    → filter (all_meet meets s1) (from_on tuple (all_tuples residents (length s1))) ≡ filter (all_meet meets s1') (from_on tuple (all_tuples residents' (length s1')))
same_lists meets s1 s1' residents residents' tuple is_s1 is_residents = cc

all_lists : (meets : ℕ → ℕ → Bool) (s1 s1' residents residents' : List ℕ) → s1 ≡ s1' → residents ≡ residents'
    → filter (all_meet meets s1) (all_tuples residents (length s1)) ≡ filter (all_meet meets s1') (all_tuples residents' (length s1'))
all_lists meets s1 s1' residents residents' is_s1 is_residents = cc

pub invariant_of-self : goal.invariant_of-self
invariant_of-self g c =
    let meets = g.R.Rule.meets c.args.rule.now in
    let residents = c.args.from.now.residents.now.items in (
      subst IsStrictlyIncreasing (sym c.refill-2.ensures) c.args.from.now.ascends,
      subst (λ numbers. AllByRecursion (λ s2. c.args.from.now.k ≤ length (left_of numbers s2)) c.start_from.new.self.coming) (sym c.refill-2.ensures)
          (subst (AllByRecursion (λ s2. c.args.from.now.k ≤ length (left_of residents s2))) (sym (c.start_from.ensures.coming ∙ same_lists meets _ _ _ _ c.deref-in-Some.result.now c.deref.ensures.0 c.deref-2.ensures.0))
          (opponents-leave-from meets c.args.from.now.s1.now.items residents c.deref-in-Some.result.now c.args.from.now.k c.args.from.now.ascends c.args.from.now.enough)),
    )

pub invariant_of-self-in-None : goal.invariant_of-self-in-None
invariant_of-self-in-None g c =
    let meets = g.R.Rule.meets c.args.rule.now in
    let residents = c.args.from.now.residents.now.items in (
      subst IsStrictlyIncreasing (sym c.refill-2.ensures) c.args.from.now.ascends,
      subst (λ numbers. AllByRecursion (λ s2. c.args.from.now.k ≤ length (left_of numbers s2)) c.start.new.self.coming) (sym c.refill-2.ensures)
          (subst (AllByRecursion (λ s2. c.args.from.now.k ≤ length (left_of residents s2))) (sym (c.start.ensures.coming ∙ all_lists meets _ _ _ _ c.deref.ensures.0 c.deref-2.ensures.0))
          (opponents-leave meets c.args.from.now.s1.now.items residents c.args.from.now.k c.args.from.now.ascends c.args.from.now.enough)),
    )

pub returns-in-Some-clause-blocks : goal.returns-in-Some-clause-blocks
unfolding in_s1
returns-in-Some-clause-blocks g c =
    let all = all_tuples c.args.from.now.residents.now.items (length c.args.from.now.s1.now.items) in
    let meets = all_meet (g.R.Rule.meets c.args.rule.now) c.args.from.now.s1.now.items in
    let at_s2 = ap (λ (a : Arrangement). a.s2) c.own.view_is in
    filled _ _ _ _ _ _ _ _ _ _ c.refill.ensures c.refill-2.ensures refl
    (c.start_from.ensures.coming ∙ same_lists (g.R.Rule.meets c.args.rule.now) _ _ _ _ c.deref-in-Some.result.now c.deref.ensures.0 c.deref-2.ensures.0
    ∙ ap (λ tuple. filter meets (from_on tuple all)) (c.deref-in-Some.ensures.0 ∙ at_s2)
    ∙ ap (λ other. filter meets (choices_from (λ a. a.s2) other all)) (sym (ap (λ lent. option_copied lent) c.in-Some.is)))

pub returns-in-None-clause-blocks : goal.returns-in-None-clause-blocks
unfolding in_s1
returns-in-None-clause-blocks g c =
    let all = all_tuples c.args.from.now.residents.now.items (length c.args.from.now.s1.now.items) in
    filled _ _ _ _ _ _ _ _ _ _ c.refill.ensures c.refill-2.ensures refl
    (c.start.ensures.coming ∙ all_lists (g.R.Rule.meets c.args.rule.now) _ _ _ _ c.deref.ensures.0 c.deref-2.ensures.0
    ∙ ap (λ other. filter (all_meet (g.R.Rule.meets c.args.rule.now) c.args.from.now.s1.now.items) (choices_from (λ a. a.s2) other all)) (sym (ap (λ lent. option_copied lent) c.in-None.is)))

pub returns-in-Some-clause-given : goal.returns-in-Some-clause-given
returns-in-Some-clause-given g c =
    let residents = c.args.from.now.residents.now.items in
    subst (λ numbers. Of (λ own. HasS1r c.args.from.now.k (left_of numbers own.s2) own) (option_copied c.args.own)) (sym c.refill-2.ensures)
    (of-both (HasS2 c.args.from.now.k residents) (λ own. HasS1r c.args.from.now.k (left_of residents own.s2) own) (option_copied c.args.own) (λ own has. has.1) c.requires.given)

pub returns-in-None-clause-given : goal.returns-in-None-clause-given
returns-in-None-clause-given g c =
    let residents = c.args.from.now.residents.now.items in
    subst (λ numbers. Of (λ own. HasS1r c.args.from.now.k (left_of numbers own.s2) own) (option_copied c.args.own)) (sym c.refill-2.ensures)
    (of-both (HasS2 c.args.from.now.k residents) (λ own. HasS1r c.args.from.now.k (left_of residents own.s2) own) (option_copied c.args.own) (λ own has. has.1) c.requires.given)
