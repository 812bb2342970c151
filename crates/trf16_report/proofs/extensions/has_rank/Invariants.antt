use Rattle.std.proofs.Common.{◌≡◌, length}
use Rattle.std.specs.Prelude.{codes}
use Rattle.std.specs.List.{list_any}
use Rattle.trf16_report.specs.Prelude.{words, is_word}
use Rattle.trf16_report.proofs.extensions.has_rank.Given as goal

abbrev pub invariant-loop-word : goal.invariant-loop-word
invariant-loop-word l = list_any (λ word. is_word word (codes "RANK")) (words l.rest) ≡ list_any (λ word. is_word word (codes "RANK")) (words l.bytes)

abbrev pub decreases-loop-word : goal.decreases-loop-word
decreases-loop-word l = length l.rest
