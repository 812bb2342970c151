-- One number more is told of.
use Rattle.std.proofs.Common.{◌<◌, ◌∙◌, length, ap, arith}
use Rattle.std.proofs.lemmas.List.{length-set}
use Rattle.dutch_bracket.specs.Prelude.{count_below}
use Rattle.dutch_weighing.specs.Prelude.{Weighing}
use Rattle.dutch_weighing.proofs.WeighingLemmas.{one_more_below}
use Rattle.dutch_weighing.proofs.weighing.BelowWeigher.put_all.Goals as goal

pub loop-a-preserved : goal.loop-a-preserved
loop-a-preserved c =
    let w = c.args.self.now.weigher.now in
    let room = c.loop-a.invariant.room in
    let inside : c.loop-a.a < length c.loop-a.table = omega (arith, room, c.requires, c.loop-a-test.true, c.len_below-a-end.ensures.value, ap (λ (v : Weighing). count_below v.facts v.reached v.lower) c.weigher.view_is) in
    record {
      told = one_more_below w c.loop-a.table c.loop-a.a c.in-Some.weight inside c.loop-a.invariant.told c.in-Some.ensures;
      room = length-set c.loop-a.table c.loop-a.a c.in-Some.weight ∙ room;
      within = omega (arith, inside, room, c.requires);
    }
