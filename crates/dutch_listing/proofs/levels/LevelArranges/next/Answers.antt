use Rattle.std.proofs.Common.{◌≡◌, ◌∙◌, [], ap, sym, subst, refl, arith, length}
use Rattle.dutch_arrangements.specs.Prelude.{Of, joined}
use Rattle.dutch_listing.specs.Standing.{in_block, own_at}
use Rattle.dutch_listing.proofs.Passing.{passes-each, blocks-each}
use Rattle.dutch_listing.proofs.Turning.{begins-turn, stops-turn, block-drawn}
use Rattle.dutch_sequence.proofs.Skipping.{passes-none, passes-more, passes-fewer, drawn, drawn-stopped}
use Rattle.dutch_sequence.proofs.Spending.{spends-none, spends-more}
use Rattle.dutch_listing.proofs.levels.LevelArranges.next.Goals as goal

pub loop-self-init : goal.loop-self-init
loop-self-init g c = record {
  passes = passes-none (g.C.Cuts.Pruned c.args.cuts.now) _ _ refl;
  given = c.self.invariant;
  keeps = λ a pruned. pruned;
  spends = spends-none _;
}

pub next_block-requires : goal.next_block-requires
next_block-requires g c =
    record { given = subst (Of (g.B.Blocks.HasOwn c.loop-self.self-inside.blocks)) (sym (c.end.ensures.waits ∙ c.next.ensures.own)) c.loop-self.invariant.given }

pub loop-self-preserved : goal.loop-self-preserved
loop-self-preserved g c =
    let Pruned = g.C.Cuts.Pruned c.args.cuts.now in
    let was = c.loop-self.invariant in
    let blocks = g.B.Blocks.blocks c.loop-self.self-inside.blocks in
    record {
      passes = passes-more Pruned _ _ _ was.passes
          (begins-turn Pruned blocks _ _ (passes-each _ Pruned _ _ was.keeps (drawn _ _ _ c.if-branch.false c.in_ok-next.ensures.answer)) _ (c.end.ensures.waits ∙ c.next.ensures.own) _
          (blocks-each _ Pruned _ _ (λ a pruned. was.keeps a (c.next.ensures.keeps a pruned)) (drawn _ _ _ c.if-not-branch.false c.in_ok-next_block.ensures.answer)));
      given = tt {0};
      keeps = λ a pruned. was.keeps a (c.next.ensures.keeps a (c.next_block.ensures.keeps a pruned));
      spends = spends-more (spends-more was.spends c.next.ensures.spends) c.next_block.ensures.spends;
    }

pub loop-self-smaller : goal.loop-self-smaller
loop-self-smaller g c =
    omega (
      arith,
      passes-fewer _ _ _ (drawn _ _ _ c.if-not-branch.false c.in_ok-next_block.ensures.answer),
      ap (λ own. length (g.B.Blocks.blocks c.loop-self.self-inside.blocks own)) (c.end.ensures.waits ∙ c.next.ensures.own),
    )

pub returns-then-branch-clause-answer : goal.returns-then-branch-clause-answer
returns-then-branch-clause-answer g c =
    let Pruned = g.C.Cuts.Pruned c.args.cuts.now in
    let blocks = g.B.Blocks.blocks c.loop-self.self-inside.blocks in
    let passed = block-drawn Pruned blocks _ _ _ _ c.next.ensures.own (passes-each _ Pruned _ _ c.loop-self.invariant.keeps (drawn _ _ _ c.if-branch.true c.in_ok-next.ensures.answer).0) in
    rw (← c.self.view_is) (passes-more Pruned _ _ _ c.loop-self.invariant.passes passed, (drawn _ _ _ c.if-branch.true c.in_ok-next.ensures.answer).1)

pub returns-in_err-next-clause-answer : goal.returns-in_err-next-clause-answer
returns-in_err-next-clause-answer g c =
    let Pruned = g.C.Cuts.Pruned c.args.cuts.now in
    let blocks = g.B.Blocks.blocks c.loop-self.self-inside.blocks in
    let passed = block-drawn Pruned blocks _ _ _ _ c.next.ensures.own (passes-each _ Pruned _ _ c.loop-self.invariant.keeps c.in_err-next.ensures.answer.0) in
    rw (← c.self.view_is) (drawn-stopped _ _ _ _ c.from_residual.ensures.0 (passes-more Pruned _ _ _ c.loop-self.invariant.passes passed, c.in_err-next.ensures.answer.1))

pub returns-in_err-next_block-clause-answer : goal.returns-in_err-next_block-clause-answer
returns-in_err-next_block-clause-answer g c =
    let Pruned = g.C.Cuts.Pruned c.args.cuts.now in
    let was = c.loop-self.invariant in
    let blocks = g.B.Blocks.blocks c.loop-self.self-inside.blocks in
    let stopped = c.in_err-next_block.ensures.answer in
    let stand = c.end.new.self.stand in
    let passed = stops-turn Pruned blocks _ _ (passes-each _ Pruned _ _ was.keeps (drawn _ _ _ c.if-branch.false c.in_ok-next.ensures.answer)) _ (c.end.ensures.waits ∙ c.next.ensures.own) _ (g.B.Blocks.blocks c.next_block.new.self) _
    (c.end.ensures.nothing _) (ap (own_at stand) stopped.2 ∙ c.end.ensures.own ∙ sym c.end.ensures.waits)
    (blocks-each _ Pruned _ _ (λ a pruned. was.keeps a (c.next.ensures.keeps a pruned)) stopped.0) in
    rw (← c.self.view_is) (drawn-stopped _ _ _ _ c.from_residual-in_err-next_block.ensures.0 (passes-more Pruned _ _ _ was.passes passed, stopped.1))

pub returns-then-not-branch-clause-answer : goal.returns-then-not-branch-clause-answer
returns-then-not-branch-clause-answer g c =
    let Pruned = g.C.Cuts.Pruned c.args.cuts.now in
    let was = c.loop-self.invariant in
    let blocks = g.B.Blocks.blocks c.loop-self.self-inside.blocks in
    let passed = begins-turn Pruned blocks _ _ (passes-each _ Pruned _ _ was.keeps (drawn _ _ _ c.if-branch.false c.in_ok-next.ensures.answer)) _ (c.end.ensures.waits ∙ c.next.ensures.own) []
    (blocks-each _ Pruned _ _ (λ a pruned. was.keeps a (c.next.ensures.keeps a pruned)) (drawn _ _ _ c.if-not-branch.true c.in_ok-next_block.ensures.answer).0) in
    rw (← c.self.view_is) (passes-more Pruned _ _ _ was.passes passed)
