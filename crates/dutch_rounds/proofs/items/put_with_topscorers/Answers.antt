-- The players of one pair more are put.
use Rattle.std.proofs.Common.{◌<◌, length, sym, ◌∙◌, arith}
use Rattle.dutch_bracket.specs.Prelude.{misses}
use Rattle.dutch_rounds.proofs.ItemSeats.{topscorers_put}
use Rattle.dutch_rounds.proofs.items.put_with_topscorers.Goals as goal

pub loop-pair-preserved : goal.loop-pair-preserved
loop-pair-preserved c =
    let inside : c.loop-pair.pair-index < length c.args.pairs.now = omega (arith, c.loop-pair-test.true) in
    record {
      items = sym (topscorers_put c.args.field.now (misses c.args.miss) c.args.pairs.now c.loop-pair.seats.items _ c.loop-pair.pair-index _ inside c.put_if_topscorer.ensures.items)
          ∙ c.loop-pair.invariant.items;
      len = omega (arith, c.loop-pair.invariant.len, c.put_if_topscorer.ensures.len);
    }
