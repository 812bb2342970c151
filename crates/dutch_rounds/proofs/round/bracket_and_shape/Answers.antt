-- At the end of the walk all brackets are passed.
use Rattle.std.proofs.Common.{◌≡◌, ◌+◌, true, false, Option, Some, None, is_some, length, refl, subst, arith}
use Rattle.dutch_player.specs.Prelude.{Facts}
use Rattle.dutch_rounds.specs.Stage.{Stage}
use Rattle.dutch_rounds.specs.Prelude.{round, GoesOn}
use Rattle.dutch_rounds.proofs.RoundEnds.{none_past}
use Rattle.dutch_rounds.proofs.round.bracket_and_shape.Goals as goal

none_by : (found : Option Stage) → is_some found ≡ false → found ≡ None
none_by None e = refl
none_by (Some stage) e = let bad : true ≡ false = e in absurd (cc)

pub returns-then-is_none : goal.returns-then-is_none
returns-then-is_none g c =
    let walk = c.loop-walk.walk in
    let inv = c.loop-walk.invariant in
    let ended = (subst (GoesOn walk c.settle_next.new.self) (none_by c.in_ok-settle_next.field-0 c.if-is_none.ensures) c.in_ok-settle_next.ensures.goes).1 in
    let count = subst (λ (facts : Facts). walk.number ≡ 1 + length (round facts).reached) inv.facts ended.count in (
      none_past c.args.number (round c.args.field.now).reached (λ some. let low = inv.low some in omega (arith, count, low)),
      c.in_ok-walk.ensures.complete,
    )
