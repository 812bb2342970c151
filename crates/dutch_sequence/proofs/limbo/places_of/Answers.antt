use Rattle.std.proofs.Common.{◌-◌, []}
use Rattle.dutch_sequence.proofs.Turns.{map-turn, map-end}
use Rattle.dutch_sequence.proofs.limbo.places_of.Goals as goal

pub loop-number-preserved : goal.loop-number-preserved
loop-number-preserved c =
    map-turn (λ number. number - 1) c.args.numbers.now c.loop-number.number-index _ _ _ [] c.loop-number-test.true c.saturating_sub.ensures c.loop-number.invariant c.push.ensures.items

pub returns : goal.returns
returns c =
    map-end (λ number. number - 1) c.args.numbers.now c.loop-number.number-index _ [] c.loop-number-test.false c.loop-number.invariant
