use Rattle.std.proofs.Common.{◌∙◌, sym}
use Rattle.dutch_sequence.proofs.FromOn.{is_same-true}
use Rattle.dutch_sequence.proofs.numbers.is_same.Goals as goal

pub returns-clause-equal : goal.returns-clause-equal
returns-clause-equal c = λ same. is_same-true c.args.one.now c.args.other.now (sym c.eq.ensures ∙ same)
