-- What one call of a device counts: each call, and each failure.
use Rattle.std.specs.Prelude.{◌≡◌, ◌+◌, ◌<◌, ◌≤◌, ℕ, Result, MatchResult}
use Rattle.trf16_report.specs.declared.devices.TheConstants.{MOST_COUNTED}
use Rattle.trf16_report.specs.declared.devices.Counted.{Counted}

-- a count below the largest, `MOST_COUNTED`, rises by one, and no count rises by more [own]
pub record CountsOne (old new : ℕ) : Type 0 where
  pub counts : old < MOST_COUNTED → new ≡ old + 1
  pub at_most : new ≤ old + 1

-- the count of failures rises so where the call failed, and else stays [with CountsOne]
abbrev pub CountsFailure : {T E : Type 0} → ℕ → ℕ → Result T E → Type 0
CountsFailure old new answer = MatchResult answer (λ _. new ≡ old) (λ _. CountsOne old new)

-- the reader or writer whose calls are counted [own]
abbrev pub inner_of : {T : Type 0} → Counted T → T
inner_of counted = counted.inner

-- how many calls were made [with inner_of]
abbrev pub calls_of : {T : Type 0} → Counted T → ℕ
calls_of counted = counted.calls

-- how many of the calls failed [with inner_of]
abbrev pub failures_of : {T : Type 0} → Counted T → ℕ
failures_of counted = counted.failures
