use Rattle.std.proofs.Common.{sym, ap, ◌∙◌, ◌/◌}
use Rattle.dutch_sequence.specs.declared.path.TheConstants.{PLACES}
use Rattle.dutch_sequence.specs.Prelude.{stands_oddly}
use Rattle.dutch_sequence.proofs.MarkLemmas.{none_marked}
use Rattle.dutch_sequence.proofs.path.Path.new.Goals as goal

pub invariant_of-result : goal.invariant_of-result
invariant_of-result g c = λ i _. none_marked (PLACES / 64) i ∙ ap (stands_oddly i) (sym c.new.ensures)
