use Rattle.std.proofs.Common.{◌≡◌, length}
use Rattle.trf16_report.specs.Prelude.{words, is_named}
use Rattle.trf16_report.proofs.extensions.is_named.Given as goal

abbrev pub invariant-loop-word : goal.invariant-loop-word
invariant-loop-word l = is_named (words l.rest) l.number ≡ is_named (words l.bytes) l.number

abbrev pub decreases-loop-word : goal.decreases-loop-word
decreases-loop-word l = length l.rest
