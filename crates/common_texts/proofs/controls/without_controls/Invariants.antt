use Rattle.std.proofs.Common.{◌≡◌, ◌++◌, length}
use Rattle.common_texts.specs.Prelude.{without_controls}
use Rattle.common_texts.proofs.controls.without_controls.Given as goal

abbrev pub invariant-loop-rest : goal.invariant-loop-rest
invariant-loop-rest l = l.shown.items ++ without_controls l.rest ≡ without_controls l.text

abbrev pub decreases-loop-rest : goal.decreases-loop-rest
decreases-loop-rest l = length l.rest
