use Rattle.std.proofs.Common.{◌≡◌, drop}
use Rattle.requests.specs.Prelude.{entries_behind, entries_in}
use Rattle.requests.proofs.EntryWordLemmas.{texts}
use Rattle.requests.proofs.entries_in.entries_in.Given as goal

abbrev pub invariant-loop-word : goal.invariant-loop-word
invariant-loop-word l = entries_behind l.list.items (texts (drop l.word-index l.words)) ≡ entries_in (texts l.words)
