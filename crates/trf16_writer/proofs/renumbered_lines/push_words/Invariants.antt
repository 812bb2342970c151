use Rattle.std.proofs.Common.{◌≡◌, ◌++◌, length}
use Rattle.std.specs.List.{flat_map}
use Rattle.trf16_report.specs.Prelude.{words, renumbered_word}
use Rattle.trf16_writer.specs.StartTable.{new_in}
use Rattle.trf16_writer.proofs.renumbered_lines.push_words.Given as goal

abbrev pub invariant-loop-word : goal.invariant-loop-word
invariant-loop-word l =
    l.line.items ++ flat_map (renumbered_word (new_in l.new)) (words l.rest)
    ≡ l.initial.line.items ++ flat_map (renumbered_word (new_in l.new)) (words l.bytes)

abbrev pub decreases-loop-word : goal.decreases-loop-word
decreases-loop-word l = length l.rest
