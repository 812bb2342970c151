-- What a witness and a barrier tell of players who are to be paired out.
use Rattle.std.proofs.Common.{◌≡◌, ℕ, true, false, List, sym}
use Rattle.std.proofs.lemmas.Bool.{false_from_ne_true}
use Rattle.dutch_bracket.specs.Prelude.{can_complete, seats_meet, seats_may_be_left, completable}
use Rattle.dutch_bracket.specs.Completion.{Completable}
use Rattle.dutch_player.specs.Prelude.{Facts}
use Rattle.dutch_completion.proofs.Covering.{completable_by_test}

-- a witness that was confirmed
pub told_yes : (facts : Facts) (players : List ℕ) → Completable (seats_meet facts) (seats_may_be_left facts) players → true ≡ completable facts players
unfolding completable
told_yes facts players whole = sym ((completable_by_test (seats_meet facts) (seats_may_be_left facts) players).0 whole)

-- a barrier that was confirmed
pub told_no : (facts : Facts) (players : List ℕ) → ¬ Completable (seats_meet facts) (seats_may_be_left facts) players → false ≡ completable facts players
unfolding completable
told_no facts players none =
    sym (false_from_ne_true (can_complete (seats_meet facts) (seats_may_be_left facts) players)
    (λ test. none ((completable_by_test (seats_meet facts) (seats_may_be_left facts) players).1 test)))
