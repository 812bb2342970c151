use Rattle.std.proofs.Common.{length, ◌++◌}
use Rattle.dutch_arrangements.specs.Prelude.{Arrangement, Of, joined, Passes, Spends}
use Rattle.dutch_listing.specs.Standing.{in_block, own_at}
use Rattle.dutch_listing.proofs.levels.LevelArranges.next.Given as goal

abbrev pub invariant-loop-self : goal.invariant-loop-self
invariant-loop-self g l = record {
  passes : Passes (g.C.Cuts.Pruned l.initial.cuts)
      (in_block l.initial.self-inside.block.stand (g.B.Block.Arranges.coming l.initial.self-inside.block.level)
      ++ joined (g.B.Blocks.blocks l.initial.self-inside.blocks (own_at l.initial.self-inside.block.stand (g.B.Block.Arranges.own l.initial.self-inside.block.level))))
      (in_block l.self-inside.block.stand (g.B.Block.Arranges.coming l.self-inside.block.level)
      ++ joined (g.B.Blocks.blocks l.self-inside.blocks (own_at l.self-inside.block.stand (g.B.Block.Arranges.own l.self-inside.block.level))));
  given : Of (g.B.Blocks.HasOwn l.self-inside.blocks) (own_at l.self-inside.block.stand (g.B.Block.Arranges.own l.self-inside.block.level));
  keeps : (a : Arrangement) → g.C.Cuts.Pruned l.cuts a → g.C.Cuts.Pruned l.initial.cuts a;
  spends : Spends l.initial.budget l.budget;
}

abbrev pub decreases-loop-self : goal.decreases-loop-self
decreases-loop-self g l = length (g.B.Blocks.blocks l.self-inside.blocks (own_at l.self-inside.block.stand (g.B.Block.Arranges.own l.self-inside.block.level)))
