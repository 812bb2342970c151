use Rattle.std.proofs.Common.{sym}
use Rattle.dutch_sequence.proofs.Skipping.{none-passed}
use Rattle.dutch_listing.proofs.Nexts.{step-each}
use Rattle.dutch_listing.proofs.candidates.Candidates.put_next.Goals as goal

pub returns-clause-answer : goal.returns-clause-answer
returns-clause-answer g c =
    step-each _ _ _ _ _ _
    (λ _ given. (none-passed _ _ given.0, given.1, given.2))
    (λ given. (none-passed _ _ given.0, given.1, given.2))
    (λ given. (sym (none-passed _ _ given.0), given.1, given.2))
    c.go_on.result c.go_on.ensures.answer
