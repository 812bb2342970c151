use Rattle.std.proofs.Common.{false, sym, ap, [], ◌∷◌, map}
use Rattle.dutch_arrangements.specs.Prelude.{arranged, without_own}
use Rattle.dutch_listing.proofs.Blocks.{passes-arranged, same-lists}
use Rattle.dutch_sequence.proofs.Skipping.{passes-none, passes-more, drawn, drawn-stopped}
use Rattle.dutch_listing.proofs.choices.ByS2rArranges.next.Goals as goal

pub returns-then-not-branch-clause-answer : goal.returns-then-not-branch-clause-answer
returns-then-not-branch-clause-answer g c =
    let own = c.self.inside in
    rw (← c.self.view_is) (passes-arranged (g.C.Cuts.Pruned c.args.cuts.now) own.s1.items own.s2.items own.s1r.items _ _ _ [] false c.deref.ensures.0 c.deref-2.ensures.0 c.deref-3.ensures.0 _ [] (drawn _ _ _ c.if-not-branch.true c.in_ok-choose_other.ensures.answer))

pub returns-in_err-choose_other-clause-answer : goal.returns-in_err-choose_other-clause-answer
returns-in_err-choose_other-clause-answer g c =
    let own = c.self.inside in
    let passed = passes-arranged (g.C.Cuts.Pruned c.args.cuts.now) own.s1.items own.s2.items own.s1r.items _ _ _ [] false c.deref.ensures.0 c.deref-2.ensures.0 c.deref-3.ensures.0 _ _ c.in_err-choose_other.ensures.answer.0 in
    rw (← c.self.view_is) (drawn-stopped _ _ _ _ c.from_residual.ensures.0 (passed, c.in_err-choose_other.ensures.answer.1))

pub returns-clause-answer : goal.returns-clause-answer
returns-clause-answer g c =
    let own = c.self.inside in
    let Pruned = g.C.Cuts.Pruned c.args.cuts.now in
    let s2r = c.choose_other.new.others.s2r.latest.items in
    let made = same-lists (arranged own.s1.items own.s2.items own.s1r.items s2r) (arranged c.refill.new.list.items c.refill-2.new.list.items c.refill-3.new.list.items c.refill-4.new.list.items)
    (sym c.refill.ensures) (sym c.refill-2.ensures) (sym c.refill-3.ensures) (sym c.refill-4.ensures) in
    rw (← c.self.view_is) (
      passes-more Pruned _ _ _
          (passes-arranged Pruned own.s1.items own.s2.items own.s1r.items _ _ _ [] false c.deref.ensures.0 c.deref-2.ensures.0 c.deref-3.ensures.0 _ _ (drawn _ _ _ c.if-not-branch.false c.in_ok-choose_other.ensures.answer))
          (passes-none Pruned _ _ (ap (λ a. a ∷ map (arranged own.s1.items own.s2.items own.s1r.items) (without_own c.choose_other.new.others.resume c.choose_other.new.others.s2r.choices.coming)) made)),
      made,
    )
