use Rattle.std.proofs.Common.{◌≡◌, ◌∙◌, ◌+◌, ◌<◌, ap, get_or, length, arith, rules}
use Rattle.dutch_arrangements.specs.Prelude.{Arrangement}
use Rattle.dutch_floors.proofs.SumLemmas.{pairs_count, take_more}
use Rattle.dutch_floors.specs.KnownPairs.{number_pairs}
use Rattle.dutch_floors.proofs.known_pairs.common.Goals as goal

pub pair_at-requires-clause-within : goal.pair_at-requires-clause-within
pair_at-requires-clause-within c =
    omega (arith, c.loop-place-test.true, c.min-count.ensures, pairs_count c.args.lists.now c.requires.few, ap (λ (b : Arrangement). length b.s2 + length b.s2r) c.lists.view_is)

pub loop-place-preserved : goal.loop-place-preserved
loop-place-preserved c =
    let lists = c.args.lists.now in
    let within : c.loop-place.place < length (number_pairs lists) =
    omega (arith, c.loop-place-test.true, c.min-count.ensures, pairs_count lists c.requires.few, ap (λ (b : Arrangement). length b.s2 + length b.s2r) c.lists.view_is) in
    let same : get_or c.args.pairs.now c.loop-place.place (0, 0) ≡ c.pair_at.result = search rules in
    record { same = take_more c.args.pairs.now (number_pairs lists) c.loop-place.place (omega (arith, c.loop-place-test.true, c.min-count.ensures)) within c.loop-place.invariant.same (same ∙ c.pair_at.ensures) }
