-- A run with devices in memory.
use Rattle.std.proofs.Common.{◌≡◌, ℕ, List, [], Some}
use Rattle.command_line.specs.Run.{IsRun}
use Rattle.replies.specs.declared.reply.Status.{Status}
use Rattle.trf16_report.specs.Prelude.{Use}
use Rattle.replies.specs.Prelude.{Reading}
use Rattle.arbiter_c.specs.Said.{IsSaidByRun}

-- an output in memory before and after a run
abbrev pub used : List ℕ → List ℕ → ℕ → ℕ → Use
used before after failures_before failures_after = record {
  before = Some before;
  after = Some after;
  failures_before = failures_before;
  failures_after = failures_after;
}

-- a report in memory before and after a run
abbrev pub read : List ℕ → List ℕ → ℕ → ℕ → Reading
read before after calls_before calls_after = record { device = used before after 0 0; calls_before = calls_before; calls_after = calls_after }

-- a run whose outputs had nothing, and of which no call failed, says what stands in them then
pub said_by_run : (words : List (List ℕ)) (report first rest out_first out err_first err : List ℕ) (calls_first calls f g h k : ℕ) (status : Status)
    → IsRun words (read first rest calls_first calls) (used out_first out f g) (used err_first err h k) status
    → first ≡ report → calls_first ≡ 0 → out_first ≡ [] → f ≡ 0 → g ≡ 0 → err_first ≡ [] → h ≡ 0 → k ≡ 0
    → IsSaidByRun words report (record { status = status; output = out; message = err })
said_by_run words report first rest out_first out err_first err calls_first calls f g h k status run first_is calls_is out_is f_is g_is err_is h_is k_is = record {
  rest = rest;
  calls = calls;
  runs = rw (first_is, calls_is, out_is, f_is, g_is, err_is, h_is, k_is) at run;
}
