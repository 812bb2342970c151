use Rattle.std.proofs.Common.{◌≡◌, ◌≤◌, ◌-◌, vec_len}
use Rattle.trf16_report.specs.Prelude.{rounds_at}
use Rattle.trf16_report.specs.declared.limits.TheConstants.{MOST_ROUNDS}
use Rattle.trf16_report.proofs.ReadingLemmas.{behind}
use Rattle.trf16_reader.proofs.reading.rounds_at.Given as goal

abbrev pub invariant-loop-cells : goal.invariant-loop-cells
invariant-loop-cells l =
    (behind l.cells.items (rounds_at l.n l.line (vec_len l.cells) (MOST_ROUNDS - vec_len l.cells)) ≡ rounds_at l.n l.line 0 MOST_ROUNDS) × (vec_len l.cells ≤ MOST_ROUNDS)

abbrev pub decreases-loop-cells : goal.decreases-loop-cells
decreases-loop-cells l = MOST_ROUNDS - vec_len l.cells
