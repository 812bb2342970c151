use Rattle.std.proofs.Common.{◌≡◌, length}
use Rattle.trf16_report.specs.Prelude.{words, colour_behind_all}
use Rattle.trf16_report.proofs.extensions.colour_behind_all.Given as goal

abbrev pub invariant-loop-word : goal.invariant-loop-word
invariant-loop-word l = colour_behind_all l.seen (words l.rest) ≡ colour_behind_all l.initial.seen (words l.bytes)

abbrev pub decreases-loop-word : goal.decreases-loop-word
decreases-loop-word l = length l.rest
