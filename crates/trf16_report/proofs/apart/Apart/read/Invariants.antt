-- Who is marked, and whom the lines to come name together, are together whom all lines name so.
use Rattle.std.proofs.Common.{◌≡◌, ℕ, ◌*◌, ◌<◌, ◌||◌, [], length}
use Rattle.std.specs.Prelude.{vec_len}
use Rattle.std.specs.Map.{keys_of}
use Rattle.trf16_report.specs.Prelude.{lines, names_both, are_marked}
use Rattle.trf16_report.specs.Notes.{start_at}
use Rattle.trf16_report.proofs.AnsweringLemmas.{some_of}
use Rattle.trf16_report.proofs.apart.Apart.read.Given as goal

abbrev pub invariant-loop-rest : goal.invariant-loop-rest
invariant-loop-rest l = record {
  both : (i j : ℕ) → i < l.apart.count → j < l.apart.count
      → (are_marked l.apart i j || some_of (names_both (start_at (keys_of l.players.entries) i) (start_at (keys_of l.players.entries) j)) l.utf8 (lines l.rest))
      ≡ some_of (names_both (start_at (keys_of l.players.entries) i) (start_at (keys_of l.players.entries) j)) l.utf8 (lines l.text);
  count : l.apart.count ≡ length l.players.entries;
  room : vec_len l.apart.marks ≡ l.apart.count * l.apart.count;
  nobody : l.named.places.items ≡ [];
  all : vec_len l.named.marks ≡ length l.players.entries;
}

abbrev pub decreases-loop-rest : goal.decreases-loop-rest
decreases-loop-rest l = length l.rest
