use Rattle.std.proofs.Common.{sym, ap, ◌∙◌, ◌/◌}
use Rattle.dutch_sequence.specs.declared.path.TheConstants.{PLACES}
use Rattle.dutch_sequence.specs.Prelude.{stands_oddly}
use Rattle.dutch_sequence.proofs.MarkLemmas.{none_marked}
use Rattle.dutch_sequence.proofs.path.Path.clear.Goals as goal

pub invariant_of-self : goal.invariant_of-self
invariant_of-self g c = λ i _. none_marked (PLACES / 64) i ∙ ap (stands_oddly i) (sym c.clear.ensures)
