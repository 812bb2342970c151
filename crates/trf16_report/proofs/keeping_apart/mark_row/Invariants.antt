-- Who is marked so far in the row: those who are named in front.
use Rattle.std.proofs.Common.{◌≡◌, ℕ, ◌+◌, ◌*◌, ◌<◌, ◌||◌, ◌&&◌, ◌==◌, nat_lt, false, length, slice_index_or}
use Rattle.trf16_report.proofs.keeping_apart.mark_row.Given as goal

abbrev pub invariant-loop-place : goal.invariant-loop-place
invariant-loop-place l =
    (k m : ℕ) → m < length l.named
    → slice_index_or l.marks (length l.named * k + m) false
    ≡ (slice_index_or l.initial.marks (length l.named * k + m) false || ((l.i == k) && (nat_lt m l.place && slice_index_or l.named m false)))
