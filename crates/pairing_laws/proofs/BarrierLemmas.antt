-- Where a barrier blocks a round, its players cannot be paired out, and it has no pairing.
use Rattle.std.proofs.Common.{◌≡◌, false, None, sym}
use Rattle.dual.proofs.Barriers.{not_completable}
use Rattle.dutch_player.specs.Prelude.{Facts}
use Rattle.dutch_rounds.specs.Prelude.{Barrier, Blocks, label, everybody, round}
use Rattle.dutch_bracket.specs.Completion.{Completable}
use Rattle.dutch_bracket.specs.Prelude.{completable, seats_meet, seats_may_be_left}
use Rattle.dutch_completion.proofs.Completions.{told_no}
use Rattle.dutch_rounds.proofs.NoDeadEnd.{not_complete, unpaired_exactly}

module _ (facts : Facts) (barrier : Barrier) (blocks : Blocks facts barrier) where
  fails : completable facts (everybody facts) ≡ false
  fails =
      sym (told_no facts (everybody facts)
      (not_completable (seats_meet facts) (seats_may_be_left facts) (everybody facts) (label barrier) barrier.most blocks))

  pub incompletable : ¬ Completable (seats_meet facts) (seats_may_be_left facts) (everybody facts)
  incompletable = not_complete facts fails

  pub unpaired : (round facts).pairing ≡ None
  unpaired = (unpaired_exactly facts).1 fails
