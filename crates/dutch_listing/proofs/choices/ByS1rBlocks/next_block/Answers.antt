use Rattle.std.proofs.Common.{◌≡◌, ◌∷◌, None, refl, sym, ap, subst, ◌∙◌, is_some}
use Rattle.std.specs.List.{AllByRecursion}
use Rattle.dutch_arrangements.specs.Prelude.{HasS2r, Of, if_own, in_s1r, s1r_blocks}
use Rattle.dutch_listing.specs.Standing.{S1rChoices}
use Rattle.dutch_listing.proofs.Blocks.{comes, ends, goes-whole, pruned-behind-s1r, pruned-s1r-blocks, stops, taken}
use Rattle.dutch_listing.proofs.Passing.{blocks-each}
use Rattle.dutch_listing.proofs.Turning.{kept-own, lent-some}
use Rattle.dutch_sequence.proofs.Skipping.{passes-all, passes-same, drawn, drawn-stopped}
use Rattle.dutch_listing.proofs.choices.ByS1rBlocks.next_block.Goals as goal

pub returns-then-cuts_at_first-clause-answer : goal.returns-then-cuts_at_first-clause-answer
returns-then-cuts_at_first-clause-answer g c =
    let own = c.self.inside in
    let Pruned = g.C.Cuts.Pruned c.args.cuts.now in
    rw (← c.self.view_is) (
      passes-all (AllByRecursion Pruned) _
          (pruned-s1r-blocks Pruned own.s1.items own.s2.items
          (λ a at_s1 at_s2. c.cuts_at_first.ensures.told c.if-cuts_at_first.true a (c.deref.ensures.0 ∙ at_s1, goes-whole _ _ (c.deref-2.ensures.0 ∙ at_s2)))
          (g.R.Rule.meets own.rule.now) own.remainder.items c.args.block.now.own own.s1r.choices.coming),
      refl,
    )

pub start-requires-clause-same : goal.start-requires-clause-same
start-requires-clause-same g c =
    let own = c.self.inside in
    let at = c.args.block.now.own in
    let s1r = c.choose_set.new.sets.latest.items in
    let is_own = c.is_own_s1r-is_own.ensures ∙ ap (λ own. is_some (if_own (λ a. a.s1r) own s1r)) c.cursor-2.ensures in
    let kept = kept-own (λ a. a.s1r) at c.keep_cursor.new.level.own s1r c.is_own_s1r-is_own.result is_own c.keep_cursor.ensures in
    taken (λ a. a.s1r) (HasS2r own.remainder.items) (λ a. a.s1r ≡ s1r) at _ s1r
    kept (subst (λ (l : S1rChoices _). Of (HasS2r l.remainder) at) (sym c.self.view_is) c.requires.given) (λ a has same. same)

pub start-requires-clause-given : goal.start-requires-clause-given
start-requires-clause-given g c =
    let own = c.self.inside in
    let at = c.args.block.now.own in
    let s1r = c.choose_set.new.sets.latest.items in
    let is_own = c.is_own_s1r-is_own.ensures ∙ ap (λ own. is_some (if_own (λ a. a.s1r) own s1r)) c.cursor-2.ensures in
    let kept = kept-own (λ a. a.s1r) at c.keep_cursor.new.level.own s1r c.is_own_s1r-is_own.result is_own c.keep_cursor.ensures in
    taken (λ a. a.s1r) (HasS2r own.remainder.items) (HasS2r own.remainder.items) at _ s1r
    kept (subst (λ (l : S1rChoices _). Of (HasS2r l.remainder) at) (sym c.self.view_is) c.requires.given) (λ a has same. has)

pub returns-clause-answer : goal.returns-clause-answer
returns-clause-answer g c =
    let own = c.self.inside in
    let at = c.args.block.now.own in
    let s1r = c.choose_set.new.sets.latest.items in
    let is_own = c.is_own_s1r-is_own.ensures ∙ ap (λ own. is_some (if_own (λ a. a.s1r) own s1r)) c.cursor-2.ensures in
    let kept = kept-own (λ a. a.s1r) at c.keep_cursor.new.level.own s1r c.is_own_s1r-is_own.result is_own c.keep_cursor.ensures in
    let later = c.choose_set.new.sets.choices.coming in
    let meets = g.R.Rule.meets own.rule.now in
    let Now = g.C.Cuts.Pruned c.cuts_at_first.new.self in
    let made : c.start.new.self.coming ≡ in_s1r meets own.s1.items own.s2.items own.remainder.items (if_own (λ a. a.s1r) at s1r) s1r =
    c.start.ensures ∙ ap (λ taken. in_s1r meets own.s1.items own.s2.items own.remainder.items taken s1r) kept in
    let Pruned = g.C.Cuts.Pruned c.args.cuts.now in
    rw (← c.self.view_is) (passes-same (AllByRecursion Pruned) _ _ _
    (blocks-each Now Pruned _ _ c.cuts_at_first.ensures.keeps (comes Now (λ a. a.s1r) (in_s1r meets own.s1.items own.s2.items own.remainder.items) _ (λ s1r pruned. pruned-behind-s1r Now own.s1.items _ own.s2.items _ s1r c.deref.ensures.0 c.deref-2.ensures.0 pruned meets own.remainder.items) c.is_some.result at (c.is_some.ensures ∙ lent-some c.cursor.result at c.cursor.ensures) own.s1r.choices.coming later s1r (drawn _ _ _ c.if-not-branch.false c.in_ok-choose_set.ensures.answer)))
    (ap (λ block. block ∷ s1r_blocks meets own.s1.items own.s2.items own.remainder.items None later) (sym made)))

pub returns-in_err-choose_set-clause-answer : goal.returns-in_err-choose_set-clause-answer
returns-in_err-choose_set-clause-answer g c =
    let own = c.self.inside in
    let Pruned = g.C.Cuts.Pruned c.args.cuts.now in
    let meets = g.R.Rule.meets own.rule.now in
    let Now = g.C.Cuts.Pruned c.cuts_at_first.new.self in
    rw (← c.self.view_is) (drawn-stopped _ _ _ _ c.from_residual.ensures.0 (
      blocks-each Now Pruned _ _ c.cuts_at_first.ensures.keeps (stops Now (λ a. a.s1r) (in_s1r meets own.s1.items own.s2.items own.remainder.items) _ (λ s1r pruned. pruned-behind-s1r Now own.s1.items _ own.s2.items _ s1r c.deref.ensures.0 c.deref-2.ensures.0 pruned meets own.remainder.items) c.is_some.result c.args.block.now.own (c.is_some.ensures ∙ lent-some c.cursor.result c.args.block.now.own c.cursor.ensures) _ _ c.in_err-choose_set.ensures.answer.0),
      c.in_err-choose_set.ensures.answer.1,
      refl,
    ))

pub returns-then-not-branch-clause-answer : goal.returns-then-not-branch-clause-answer
returns-then-not-branch-clause-answer g c =
    let own = c.self.inside in
    let Pruned = g.C.Cuts.Pruned c.args.cuts.now in
    let meets = g.R.Rule.meets own.rule.now in
    let Now = g.C.Cuts.Pruned c.cuts_at_first.new.self in
    rw (← c.self.view_is) (blocks-each Now Pruned _ _ c.cuts_at_first.ensures.keeps (ends Now (λ a. a.s1r) (in_s1r meets own.s1.items own.s2.items own.remainder.items) _ (λ s1r pruned. pruned-behind-s1r Now own.s1.items _ own.s2.items _ s1r c.deref.ensures.0 c.deref-2.ensures.0 pruned meets own.remainder.items) c.is_some.result c.args.block.now.own (c.is_some.ensures ∙ lent-some c.cursor.result c.args.block.now.own c.cursor.ensures) _ (drawn _ _ _ c.if-not-branch.true c.in_ok-choose_set.ensures.answer).0), refl)

pub returns-in_err-choose_set-clause-keeps : goal.returns-in_err-choose_set-clause-keeps
returns-in_err-choose_set-clause-keeps g c = λ a pruned. c.cuts_at_first.ensures.keeps a (c.choose_set.ensures.keeps a pruned)

pub returns-then-not-branch-clause-keeps : goal.returns-then-not-branch-clause-keeps
returns-then-not-branch-clause-keeps g c = λ a pruned. c.cuts_at_first.ensures.keeps a (c.choose_set.ensures.keeps a pruned)

pub returns-clause-keeps : goal.returns-clause-keeps
returns-clause-keeps g c = λ a pruned. c.cuts_at_first.ensures.keeps a (c.choose_set.ensures.keeps a pruned)
