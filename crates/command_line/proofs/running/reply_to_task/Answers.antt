-- The command's answer over all bytes of the source, or why there is none.
use Rattle.std.proofs.Common.{ℕ, List, inl, inr, subst}
use Rattle.replies.specs.Prelude.{Reading, answer_of, reading_of}
use Rattle.command_line.specs.Commands.{Answers}
use Rattle.command_line.proofs.RunLemmas.{answered}
use Rattle.command_line.proofs.running.reply_to_task.Goals as goal

pub returns-in-Ok-answer-clause-replies : goal.returns-in-Ok-answer-clause-replies
returns-in-Ok-answer-clause-replies g c =
    let reading : Reading = reading_of g.R.Source.left g.R.Source.failures g.R.Source.calls c.args.reader.now c.read_input.new.reader in
    inl (answered c.args.task reading c.in-Ok.input.items (answer_of c.in-Ok-answer.reply) c.in-Ok.ensures.input
    (subst (λ (bytes : List ℕ). Answers c.args.task bytes (answer_of c.in-Ok-answer.reply)) c.as_slice.ensures.value c.in-Ok-answer.ensures))

pub returns-in-Ok-clause-replies : goal.returns-in-Ok-clause-replies
returns-in-Ok-clause-replies g c = inr (inr (record { sound = c.in-Ok.ensures.input.sound; tells = c.out_of_memory.ensures }))

pub returns-in-Err-Read-clause-replies : goal.returns-in-Err-Read-clause-replies
returns-in-Err-Read-clause-replies g c =
    inr (inl (record { failed = rw c.in-Err-Read.field-0-is at c.in-Err-Read.ensures.input; tells = c.read_fault.ensures }))

pub returns-clause-replies : goal.returns-clause-replies
returns-clause-replies g c =
    inr (inr (record { sound = rw c.in-Err-Memory.field-0-is at c.in-Err-Memory.ensures.input; tells = c.out_of_memory-in-Err-Memory.ensures }))
