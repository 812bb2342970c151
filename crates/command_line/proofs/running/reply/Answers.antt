-- The words are answered as they are meant.
use Rattle.std.proofs.Common.{ℕ, List, inr, refl, subst}
use Rattle.replies.specs.Prelude.{Reading, answer_of, reading_of}
use Rattle.command_line.specs.Run.{IsAnswer}
use Rattle.command_line.proofs.running.reply.Goals as goal

pub returns-in-Ok-clause-answers : goal.returns-in-Ok-clause-answers
returns-in-Ok-clause-answers g c =
    let reading : Reading = reading_of g.R.Source.left g.R.Source.failures g.R.Source.calls c.args.reader.now c.reply_to.new.reader in
    subst (λ (words : List (List ℕ)). IsAnswer words reading (answer_of c.reply_to.result)) c.in-Ok.ensures
    (rw c.as_slice.ensures.value at c.reply_to.ensures.answers)

pub returns-in-Ok-clause-bounded : goal.returns-in-Ok-clause-bounded
returns-in-Ok-clause-bounded g c = c.reply_to.ensures.bounded

pub returns-in-Err-clause-answers : goal.returns-in-Err-clause-answers
returns-in-Err-clause-answers g c = inr (inr (inr (inr (record { sound = refl; tells = c.out_of_memory.ensures }))))
