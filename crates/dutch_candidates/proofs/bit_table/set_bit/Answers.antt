-- The bit is set, and the others stay.
use Rattle.std.proofs.Common.{arith}
use Rattle.dutch_candidates.proofs.BitLemmas.{bit_set, bit_kept}
use Rattle.dutch_candidates.proofs.bit_table.set_bit.Goals as goal

pub returns-then-place-words-clause-set : goal.returns-then-place-words-clause-set
returns-then-place-words-clause-set c = λ there. bit_set c.args.words.now c.args.place (omega (arith, there))

pub returns-then-place-words-clause-others : goal.returns-then-place-words-clause-others
returns-then-place-words-clause-others c = λ i other. bit_kept c.args.words.now c.args.place i (omega arith) other
