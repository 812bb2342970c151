-- A call from its parts.
use Rattle.std.proofs.Common.{◌≡◌, ℕ, List, ap, subst, ◌∙◌}
use Rattle.replies.specs.declared.reply.Status.{Status}
use Rattle.replies.specs.Prelude.{code_of}
use Rattle.arbiter_c.specs.Said.{IsSaid, Said}
use Rattle.arbiter_c.specs.Call.{Holds, IsCall, Room}

-- what is said is put into the two rooms, and the number is that of its status
pub called : (words report printed complained : List ℕ) (output message : Room) (said : Said) (status : Status) (number : ℕ)
    → IsSaid words report said → Holds printed output → printed ≡ said.output → Holds complained message → complained ≡ said.message
    → number ≡ code_of status → status ≡ said.status → IsCall words report output message number
called words report printed complained output message said status number is front printed_is back complained_is ends status_is = record {
  said = said;
  is = is;
  printed = subst (λ text. Holds text output) printed_is front;
  complained = subst (λ text. Holds text message) complained_is back;
  ends = ends ∙ ap code_of status_is;
}
