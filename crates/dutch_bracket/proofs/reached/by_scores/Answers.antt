-- Scores are such as a `u16` holds.
use Rattle.std.proofs.Common.{◌≡◌, get_or, slice_index, ap, arith, w16, Fits}
use Rattle.std.proofs.Math.Facts.{Fits-lt-pow}
use Rattle.dutch_arrangements.specs.Prelude.{Frame}
use Rattle.dutch_bracket.proofs.reached.by_scores.Goals as goal

pub returns-clause-small : goal.returns-clause-small
returns-clause-small c = λ i.
    let h : Fits w16 (get_or c.args.scores.now i 0) = c.type_inv.scores i in
    let same : slice_index c.new.result.scores i ≡ slice_index c.args.scores.now i = ap (λ (frame : Frame). slice_index frame.scores i) c.new.ensures in
    omega (arith, same, Fits-lt-pow h)
