-- The marks so far: those at the places in front are away.
use Rattle.std.proofs.Common.{◌≡◌, ℕ, ◌&&◌, not, false, slice_index_or}
use Rattle.std.specs.Prelude.{take}
use Rattle.trf16_report.specs.Prelude.{is_place}
use Rattle.trf16_report.proofs.named.unmark.Given as goal

abbrev pub invariant-loop-place : goal.invariant-loop-place
invariant-loop-place l =
    (k : ℕ) → slice_index_or l.marks k false ≡ (slice_index_or l.initial.marks k false && not (is_place (take l.place-index l.places) k))
