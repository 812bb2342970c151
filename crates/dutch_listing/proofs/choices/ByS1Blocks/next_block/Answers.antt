use Rattle.std.proofs.Common.{◌≡◌, ◌∷◌, None, refl, sym, ◌∙◌, ap, subst, is_some}
use Rattle.std.specs.List.{AllByRecursion}
use Rattle.dutch_arrangements.specs.Prelude.{HasS2, Of, if_own, in_s1, joined, s1_blocks, s2_blocks}
use Rattle.dutch_sequence.proofs.Skipping.{passes-none, drawn, drawn-stopped}
use Rattle.dutch_listing.specs.Standing.{S1Choices, Standing}
use Rattle.dutch_listing.proofs.Turning.{kept-own}
use Rattle.dutch_listing.proofs.Blocks.{block-comes, no-blocks, taken}
use Rattle.dutch_listing.proofs.choices.ByS1Blocks.next_block.Goals as goal

pub start-requires-clause-same : goal.start-requires-clause-same
start-requires-clause-same g c =
    let own = c.self.inside in
    let at = c.args.block.now.own in
    let s1 = c.put_next.new.numbers.items in
    let is_own = c.is_own_s1-is_own.ensures ∙ ap (λ own. is_some (if_own (λ a. a.s1) own s1)) c.cursor.ensures in
    let kept = kept-own (λ a. a.s1) at c.keep_cursor.new.level.own s1 c.is_own_s1-is_own.result is_own c.keep_cursor.ensures in
    let lent = c.cursor-2.ensures ∙ ap (λ (l : Standing). l.own) c.block.view_is ∙ kept in
    taken (λ a. a.s1) (HasS2 own.k own.residents.items) (λ a. a.s1 ≡ s1) at _ s1
    lent (subst (λ (l : S1Choices _). Of (HasS2 l.k l.residents) at) (sym c.self.view_is) c.requires.given) (λ a has same. same)

pub start-requires-clause-given : goal.start-requires-clause-given
start-requires-clause-given g c =
    let own = c.self.inside in
    let at = c.args.block.now.own in
    let s1 = c.put_next.new.numbers.items in
    let is_own = c.is_own_s1-is_own.ensures ∙ ap (λ own. is_some (if_own (λ a. a.s1) own s1)) c.cursor.ensures in
    let kept = kept-own (λ a. a.s1) at c.keep_cursor.new.level.own s1 c.is_own_s1-is_own.result is_own c.keep_cursor.ensures in
    let lent = c.cursor-2.ensures ∙ ap (λ (l : Standing). l.own) c.block.view_is ∙ kept in
    taken (λ a. a.s1) (HasS2 own.k own.residents.items) (HasS2 own.k own.residents.items) at _ s1
    lent (subst (λ (l : S1Choices _). Of (HasS2 l.k l.residents) at) (sym c.self.view_is) c.requires.given) (λ a has same. has)

pub returns-clause-answer : goal.returns-clause-answer
returns-clause-answer g c =
    let own = c.self.inside in
    let at = c.args.block.now.own in
    let s1 = c.put_next.new.numbers.items in
    let is_own = c.is_own_s1-is_own.ensures ∙ ap (λ own. is_some (if_own (λ a. a.s1) own s1)) c.cursor.ensures in
    let kept = kept-own (λ a. a.s1) at c.keep_cursor.new.level.own s1 c.is_own_s1-is_own.result is_own c.keep_cursor.ensures in
    let lent = c.cursor-2.ensures ∙ ap (λ (l : Standing). l.own) c.block.view_is ∙ kept in
    let later = c.put_next.new.self.coming in
    let meets = g.R.Rule.meets own.rule.now in
    let block = c.start.new.self in
    let made = ap (λ own. joined (s2_blocks (g.R.Rule.meets block.rule) block.k block.s1 block.residents own block.coming)) (sym c.cursor-2.ensures)
    ∙ c.start.ensures.blocks ∙ ap (λ taken. in_s1 meets own.k own.residents.items taken s1) lent in
    rw (← c.self.view_is) (passes-none (AllByRecursion (g.C.Cuts.Pruned c.args._cuts.now)) _ _
    (block-comes (λ a. a.s1) (in_s1 meets own.k own.residents.items) at s1 own.sets.coming later (drawn _ _ _ c.if-not-branch.false c.in_ok-put_next.ensures.answer)
    ∙ ap (λ block. block ∷ s1_blocks meets own.k own.residents.items None later) (sym made)))

pub returns-in_err-put_next-clause-answer : goal.returns-in_err-put_next-clause-answer
returns-in_err-put_next-clause-answer g c =
    let own = c.self.inside in
    rw (← c.self.view_is) (drawn-stopped _ _ _ _ c.from_residual.ensures.0 (
      passes-none (AllByRecursion (g.C.Cuts.Pruned c.args._cuts.now)) _ _
          (ap (s1_blocks (g.R.Rule.meets own.rule.now) own.k own.residents.items c.args.block.now.own) (sym c.in_err-put_next.ensures.answer.0)),
      c.in_err-put_next.ensures.answer.1,
      refl,
    ))

pub returns-then-not-branch-clause-answer : goal.returns-then-not-branch-clause-answer
returns-then-not-branch-clause-answer g c =
    let own = c.self.inside in
    let meets = g.R.Rule.meets own.rule.now in
    rw (← c.self.view_is) (
      passes-none (AllByRecursion (g.C.Cuts.Pruned c.args._cuts.now)) _ _
          (ap (s1_blocks meets own.k own.residents.items c.args.block.now.own) (drawn _ _ _ c.if-not-branch.true c.in_ok-put_next.ensures.answer).0
          ∙ no-blocks (λ a. a.s1) (in_s1 meets own.k own.residents.items) c.args.block.now.own),
      refl,
    )
