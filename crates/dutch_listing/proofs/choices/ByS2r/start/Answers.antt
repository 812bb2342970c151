use Rattle.std.proofs.Common.{◌≡◌, ◌∙◌, ap, subst, sym, length, map, filter, List, ℕ, Option, Some, None}
use Rattle.dutch_arrangements.specs.Prelude.{Arrangement, HasS2r, IsIn, Of, left_of, all_meet, arranged, choices_from, in_s1r, without_own, all_tuples, tuples}
use Rattle.dutch_listing.specs.Standing.{Standing}
use Rattle.dutch_listing.proofs.choices.ByS2r.start.Goals as goal

-- the same lists make the same arrangements
filled : (s1 s1' s2 s2' s1r s1r' : List ℕ) (own own' : Option Arrangement) (lists lists' : List (List ℕ)) → s1 ≡ s1' → s2 ≡ s2' → s1r ≡ s1r' → own ≡ own' → lists ≡ lists'
    → map (arranged s1 s2 s1r) (without_own own lists) ≡ map (arranged s1' s2' s1r') (without_own own' lists')
filled s1 s1' s2 s2' s1r s1r' own own' lists lists' is_s1 is_s2 is_s1r is_own is_lists = cc

-- a cursor's S2R is a choice where its S1R is the one that was chosen
choices-hold : (remainder s1r : List ℕ) (own : Option Arrangement) → Of (λ cursor. cursor.s1r ≡ s1r) own → Of (HasS2r remainder) own → Of (λ own. IsIn own.s2r (tuples (left_of remainder s1r) (length s1r))) own
choices-hold remainder s1r None same has = tt {0}
choices-hold remainder s1r (Some own) same has = subst (λ list. IsIn own.s2r (tuples (left_of remainder list) (length list))) same has

pub start-requires : goal.start-requires
start-requires g c =
    let s1r = c.args.from.now.s1r.now.items in
    let remainder = c.args.from.now.remainder.now.items in
    let own = c.args.self.now.own in
    let pool = c.deref-4.ensures.0 ∙ c.put_left_of.ensures.items ∙ ap (λ numbers. left_of numbers c.deref-2.result.now) c.deref.ensures.0 ∙ ap (left_of remainder) c.deref-2.ensures.0 in
    record {
      given = rw c.deref-3.ensures.0 (rw pool (subst (λ (l : Standing). Of (λ own. IsIn own.s2r (tuples (left_of remainder s1r) (length s1r))) l.own) (sym c.self.view_is)
          (choices-hold remainder s1r own c.requires.same c.requires.given)));
    }

pub returns : goal.returns
unfolding in_s1r
returns g c =
    let s1r = c.args.from.now.s1r.now.items in
    let remainder = c.args.from.now.remainder.now.items in
    let meets = all_meet (g.R.Rule.meets c.args.rule.now) in
    let own = c.self.inside.others.resume in
    let pool = c.deref-4.ensures.0 ∙ c.put_left_of.ensures.items ∙ ap (λ numbers. left_of numbers c.deref-2.result.now) c.deref.ensures.0 ∙ ap (left_of remainder) c.deref-2.ensures.0 in
    filled _ _ _ _ _ _ _ _ _ _ c.refill.ensures c.refill-2.ensures c.refill-3.ensures c.start.ensures.resume
    (c.start.ensures.coming
    ∙ ap (λ first. filter (meets first) (choices_from (λ a. a.s2r) own (all_tuples c.deref-4.result.now (length first)))) c.deref-3.ensures.0
    ∙ ap (λ pool. filter (meets s1r) (choices_from (λ a. a.s2r) own (all_tuples pool (length s1r)))) pool)
    ∙ ap (λ (l : Standing). map (arranged c.args.from.now.s1.now.items c.args.from.now.s2.now.items s1r)
    (without_own l.own (filter (meets s1r) (choices_from (λ a. a.s2r) l.own (all_tuples (left_of remainder s1r) (length s1r)))))) c.self.view_is
