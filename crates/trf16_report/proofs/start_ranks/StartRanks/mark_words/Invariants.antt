-- Who is marked, and whom the words to come name, are together who is marked in the end.
use Rattle.std.proofs.Common.{◌≡◌, ℕ, ◌||◌, length}
use Rattle.trf16_report.specs.Prelude.{words, is_named, has_start}
use Rattle.trf16_report.proofs.start_ranks.StartRanks.mark_words.Given as goal

abbrev pub invariant-loop-word : goal.invariant-loop-word
invariant-loop-word l = (i : ℕ) → (has_start l.self i || is_named (words l.rest) i) ≡ (has_start l.initial.self i || is_named (words l.bytes) i)

abbrev pub decreases-loop-word : goal.decreases-loop-word
decreases-loop-word l = length l.rest
