use Rattle.std.proofs.Common.{◌≡◌, ◌≤◌, refl, sym, subst, ap, ◌∙◌, ◌∷◌, None, is_some, length}
use Rattle.std.specs.List.{AllByRecursion}
use Rattle.dutch_arrangements.specs.Prelude.{left_of, HasS1r, Of, if_own, in_s2, joined, s1r_blocks, s2_blocks}
use Rattle.dutch_listing.proofs.Blocks.{comes, ends, pruned-behind-s2, stops, taken}
use Rattle.dutch_listing.specs.Standing.{S2Choices, Standing}
use Rattle.dutch_listing.proofs.Turning.{kept-own, lent-some}
use Rattle.dutch_sequence.proofs.Skipping.{passes-none, passes-more, passes-keeps, drawn, drawn-stopped}
use Rattle.dutch_listing.proofs.choices.ByS2Blocks.next_block.Goals as goal

pub invariant_of-self : goal.invariant_of-self
invariant_of-self g c =
    let own = c.self.inside in (
      c.self.invariant.0,
      passes-keeps _ (λ s2. own.k ≤ length (left_of own.residents.items s2)) _ _ c.in_err-choose_tuple.ensures.answer.0 c.self.invariant.1,
    )

pub returns-in_err-choose_tuple-clause-answer : goal.returns-in_err-choose_tuple-clause-answer
returns-in_err-choose_tuple-clause-answer g c =
    let own = c.self.inside in
    let Pruned = g.C.Cuts.Pruned c.args.cuts.now in
    let meets = g.R.Rule.meets own.rule.now in
    rw (← c.self.view_is) (drawn-stopped _ _ _ _ c.from_residual.ensures.0 (
      stops Pruned (λ a. a.s2) (in_s2 meets own.k own.s1.items own.residents.items) _ (λ s2 pruned. pruned-behind-s2 Pruned own.s1.items _ s2 c.deref.ensures.0 pruned meets own.k own.residents.items) c.is_some.result c.args.block.now.own (c.is_some.ensures ∙ lent-some c.cursor.result c.args.block.now.own c.cursor.ensures) _ _ c.in_err-choose_tuple.ensures.answer.0,
      c.in_err-choose_tuple.ensures.answer.1,
      refl,
    ))

pub returns-then-not-branch-clause-answer : goal.returns-then-not-branch-clause-answer
returns-then-not-branch-clause-answer g c =
    let own = c.self.inside in
    let Pruned = g.C.Cuts.Pruned c.args.cuts.now in
    let meets = g.R.Rule.meets own.rule.now in
    rw (← c.self.view_is) (ends Pruned (λ a. a.s2) (in_s2 meets own.k own.s1.items own.residents.items) _ (λ s2 pruned. pruned-behind-s2 Pruned own.s1.items _ s2 c.deref.ensures.0 pruned meets own.k own.residents.items) c.is_some.result c.args.block.now.own (c.is_some.ensures ∙ lent-some c.cursor.result c.args.block.now.own c.cursor.ensures) _ (drawn _ _ _ c.if-not-branch.true c.in_ok-choose_tuple.ensures.answer).0, refl)

pub invariant_of-from-clause-enough : goal.invariant_of-from-clause-enough
invariant_of-from-clause-enough g c =
    let own = c.self.inside in
    (passes-keeps _ (λ s2. own.k ≤ length (left_of own.residents.items s2)) _ _ (drawn _ _ _ c.if-not-branch.false c.in_ok-choose_tuple.ensures.answer) c.self.invariant.1).0

pub start-requires : goal.start-requires
start-requires g c =
    let own = c.self.inside in
    let at = c.args.block.now.own in
    let s2 = c.choose_tuple.new.tuples.latest.items in
    let is_own = c.is_own_s2-is_own.ensures ∙ ap (λ own. is_some (if_own (λ a. a.s2) own s2)) c.cursor-2.ensures in
    let kept = kept-own (λ a. a.s2) at c.keep_cursor.new.level.own s2 c.is_own_s2-is_own.result is_own c.keep_cursor.ensures in
    let lent = c.cursor-3.ensures ∙ ap (λ (l : Standing). l.own) c.block.view_is ∙ kept in
    record {
      given = taken (λ a. a.s2) (λ a. HasS1r own.k (left_of own.residents.items a.s2) a) (HasS1r own.k (left_of own.residents.items s2))
          at _ s2 lent (subst (λ (l : S2Choices _). Of (λ own. HasS1r l.k (left_of l.residents own.s2) own) at) (sym c.self.view_is) c.requires.given)
          (λ a has same. subst (λ s2. HasS1r own.k (left_of own.residents.items s2) a) same has);
    }

pub returns-clause-answer : goal.returns-clause-answer
returns-clause-answer g c =
    let own = c.self.inside in
    let Pruned = g.C.Cuts.Pruned c.args.cuts.now in
    let at = c.args.block.now.own in
    let s2 = c.choose_tuple.new.tuples.latest.items in
    let is_own = c.is_own_s2-is_own.ensures ∙ ap (λ own. is_some (if_own (λ a. a.s2) own s2)) c.cursor-2.ensures in
    let kept = kept-own (λ a. a.s2) at c.keep_cursor.new.level.own s2 c.is_own_s2-is_own.result is_own c.keep_cursor.ensures in
    let lent = c.cursor-3.ensures ∙ ap (λ (l : Standing). l.own) c.block.view_is ∙ kept in
    let later = c.choose_tuple.new.tuples.choices.coming in
    let meets = g.R.Rule.meets own.rule.now in
    let block = c.start.new.self in
    let made = ap (λ own. joined (s1r_blocks (g.R.Rule.meets block.rule) block.s1 block.s2 block.remainder own block.coming)) (sym c.cursor-3.ensures)
    ∙ c.start.ensures.blocks ∙ ap (λ taken. in_s2 meets own.k own.s1.items own.residents.items taken s2) lent in
    rw (← c.self.view_is) (passes-more (AllByRecursion Pruned) _ _ _
    (comes Pruned (λ a. a.s2) (in_s2 meets own.k own.s1.items own.residents.items) _ (λ s2 pruned. pruned-behind-s2 Pruned own.s1.items _ s2 c.deref.ensures.0 pruned meets own.k own.residents.items) c.is_some.result at (c.is_some.ensures ∙ lent-some c.cursor.result at c.cursor.ensures) _ later s2 (drawn _ _ _ c.if-not-branch.false c.in_ok-choose_tuple.ensures.answer))
    (passes-none (AllByRecursion Pruned) _ _
    (ap (λ block. block ∷ s2_blocks meets own.k own.s1.items own.residents.items None later) (sym made))))

pub invariant_of-self-2 : goal.invariant_of-self-2
invariant_of-self-2 g c =
    let own = c.self.inside in (
      c.self.invariant.0,
      (passes-keeps _ (λ s2. own.k ≤ length (left_of own.residents.items s2)) _ _ (drawn _ _ _ c.if-not-branch.false c.in_ok-choose_tuple.ensures.answer) c.self.invariant.1).1,
    )
