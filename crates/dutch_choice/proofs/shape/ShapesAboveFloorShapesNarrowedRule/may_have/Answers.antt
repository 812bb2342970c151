-- No shape with so many pairs has a candidate that can be chosen, if the one that costs most is too cheap.
use Rattle.std.proofs.Common.{◌≡◌, Bool, true, false, not, refl}
use Rattle.dutch_choice.proofs.CheapShapes.{none_with}
use Rattle.dutch_choice.proofs.shape.ShapesAboveFloorShapesNarrowedRule.may_have.Goals as goal

yes_by_no : (b : Bool) → not b ≡ false → b ≡ true
yes_by_no true e = refl
yes_by_no false e = absurd (cc)

pub returns : goal.returns
returns c = λ no. none_with c.args.self.now.context.now c.args.pairs (c.is_too_cheap.ensures (yes_by_no c.is_too_cheap.result no))
