use Rattle.std.proofs.Common.{arith}
use Rattle.dutch_sequence.proofs.MarkLemmas.{one_flipped}
use Rattle.dutch_sequence.proofs.path.flip.Goals as goal

pub returns-then-number-lt-PLACES : goal.returns-then-number-lt-PLACES
returns-then-number-lt-PLACES c = λ i _. one_flipped c.args.marks.now c.args.number i (omega (arith, c.told-marks, c.if-number-lt-PLACES.true))
