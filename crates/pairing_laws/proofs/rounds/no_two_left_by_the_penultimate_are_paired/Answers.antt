-- The law is the lemma on the brackets of a round, in a field whose scores do not ascend.
use Rattle.std.proofs.Common.{arith}
use Rattle.pairing_laws.proofs.DeadEndLaws.{penultimate_left}
use Rattle.pairing_laws.proofs.rounds.no_two_left_by_the_penultimate_are_paired.Goals as goal

pub returns : goal.returns
returns c = penultimate_left c.args.field.now (record { falls = c.scores_do_not_ascend.ensures.scores; few = omega (arith, c.scores_do_not_ascend.ensures.few) })
