use Rattle.dutch_rounds.proofs.NextRound.{can_be_next}
use Rattle.dutch_rounds.proofs.laws.boards_can_be_the_next_round.Goals as goal

pub returns : goal.returns
returns c = can_be_next
