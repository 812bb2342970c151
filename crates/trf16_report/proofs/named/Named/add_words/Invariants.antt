-- Who is named so far, and whom the words to come name, are together who is named in the end.
use Rattle.std.proofs.Common.{◌≡◌, ℕ, ◌<◌, ◌||◌, length}
use Rattle.std.specs.Prelude.{slice_index_or, vec_len}
use Rattle.std.specs.Map.{keys_of}
use Rattle.trf16_report.specs.Prelude.{words, is_named, is_place}
use Rattle.trf16_report.proofs.named.Named.add_words.Given as goal

abbrev pub invariant-loop-word : goal.invariant-loop-word
invariant-loop-word l =
    ((k : ℕ) → k < length l.players.entries
    → (is_place l.self.places.items k || is_named (words l.rest) (slice_index_or (keys_of l.players.entries) k 0))
    ≡ (is_place l.initial.self.places.items k || is_named (words l.bytes) (slice_index_or (keys_of l.players.entries) k 0)))
    × (vec_len l.self.marks ≡ vec_len l.initial.self.marks)

abbrev pub decreases-loop-word : goal.decreases-loop-word
decreases-loop-word l = length l.rest
