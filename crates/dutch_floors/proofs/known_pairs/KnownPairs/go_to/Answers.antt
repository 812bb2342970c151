use Rattle.std.proofs.Common.{◌∙◌, ◌+◌, ap, length, take_all, arith}
use Rattle.dutch_arrangements.specs.Prelude.{Arrangement}
use Rattle.dutch_floors.specs.KnownPairs.{number_pairs}
use Rattle.dutch_floors.proofs.SumLemmas.{front_more, pairs_count}
use Rattle.dutch_floors.proofs.known_pairs.KnownPairs.go_to.Goals as goal

pub pair_at-pair-requires-clause-within : goal.pair_at-pair-requires-clause-within
pair_at-pair-requires-clause-within c =
    omega (arith, c.loop-place-test.true, pairs_count c.args.lists.now c.requires.few, ap (λ (b : Arrangement). length b.s2 + length b.s2r) c.lists.view_is)

pub loop-place-preserved : goal.loop-place-preserved
loop-place-preserved c = record {
  known = c.push.ensures.known;
  pairs = c.push.ensures.pairs
      ∙ front_more c.loop-place.self.pairs.items (number_pairs c.args.lists.now) c.loop-place.place c.pair_at-pair.result
      (omega (arith, c.loop-place-test.true, pairs_count c.args.lists.now c.requires.few, ap (λ (b : Arrangement). length b.s2 + length b.s2r) c.lists.view_is))
      c.loop-place.invariant.pairs c.pair_at-pair.ensures;
}

pub returns-clause-pairs : goal.returns-clause-pairs
returns-clause-pairs c =
    c.loop-place.invariant.pairs
    ∙ take_all c.loop-place.place (number_pairs c.args.lists.now)
    (omega (arith, c.loop-place-test.false, pairs_count c.args.lists.now c.requires.few, ap (λ (b : Arrangement). length b.s2 + length b.s2r) c.lists.view_is))
