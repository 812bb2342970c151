-- What the loop over a source keeps.
use Rattle.std.proofs.Common.{◌≡◌, ◌≤◌, ◌+◌, ℕ, List, [], Option, length, take, subst, append-nil}
use Rattle.std.specs.Io.KnownBytes.{Consumes}
use Rattle.std.proofs.KnownBytes.{Consumes-trans}
use Rattle.replies.specs.Prelude.{most_read}

-- the bytes so far are those that the source gave, no call failed, and each call gave a byte
pub record HasRead (first now : Option (List ℕ)) (bytes : List ℕ) (failures_first failures_now calls_first calls_now : ℕ) : Type 0 where
  pub given : Consumes first now bytes
  pub fits : length bytes ≤ most_read
  pub failures : failures_now ≡ failures_first
  pub calls : calls_now ≤ calls_first + length bytes

-- a source that is at its end after a call that gave nothing has given all that it had
pub given_to_end : (first now last : Option (List ℕ)) (bytes piece : List ℕ) (count : ℕ) → Consumes first now bytes
    → Consumes now last (take count piece) → count ≡ 0 → Consumes first last bytes
given_to_end first now last bytes piece count given none zero =
    subst (λ xs. Consumes first last xs) (append-nil bytes) (Consumes-trans first now last bytes [] given (subst (λ n. Consumes now last (take n piece)) zero none))
