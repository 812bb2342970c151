-- What the words come to is answered: nothing is read but where they make a task.
use Rattle.std.proofs.Common.{ℕ, List, Option, None, Some, map, inl, inr, refl, ap}
use Rattle.std.specs.Io.KnownBytes.{Keeps}
use Rattle.replies.specs.Prelude.{Answer}
use Rattle.command_line.proofs.AskedLemmas.{can_be_answered, has_small_bye}
use Rattle.command_line.proofs.running.reply_to.Goals as goal

kept : (bytes : Option (List ℕ)) → Keeps bytes bytes
kept None = tt
kept (Some bytes) = refl

pub reply_to_task-requires-clause-rounds : goal.reply_to_task-requires-clause-rounds
reply_to_task-requires-clause-rounds g c =
    can_be_answered (map (λ word. word.now) c.args.words.now) c.in-Ok-Command.task (rw c.in-Ok-Command.field-0-is at c.in-Ok-Command.ensures)

pub reply_to_task-requires-clause-worth : goal.reply_to_task-requires-clause-worth
reply_to_task-requires-clause-worth g c =
    has_small_bye (map (λ word. word.now) c.args.words.now) c.in-Ok-Command.task (rw c.in-Ok-Command.field-0-is at c.in-Ok-Command.ensures)

pub returns-in-Ok-Command-clause-answers : goal.returns-in-Ok-Command-clause-answers
returns-in-Ok-Command-clause-answers g c = inl (record {
  task = c.in-Ok-Command.task;
  asked = rw c.in-Ok-Command.field-0-is at c.in-Ok-Command.ensures;
  replies = c.reply_to_task.ensures.replies;
})

pub returns-in-Ok-Command-clause-bounded : goal.returns-in-Ok-Command-clause-bounded
returns-in-Ok-Command-clause-bounded g c = c.reply_to_task.ensures.bounded

pub returns-in-Ok-Help-clause-answers : goal.returns-in-Ok-Help-clause-answers
returns-in-Ok-Help-clause-answers g c = inr (inl (record {
  asked = rw c.in-Ok-Help.field-0-is at c.in-Ok-Help.ensures;
  unread = record { calls = refl; kept = record { kept = kept _; sound = refl } };
  status = ap (λ (answer : Answer). answer.status) c.of_page.ensures;
  plain = ap (λ (answer : Answer). answer.note) c.of_page.ensures;
}))

pub returns-in-Ok-Mistake-clause-answers : goal.returns-in-Ok-Mistake-clause-answers
returns-in-Ok-Mistake-clause-answers g c = inr (inr (inl (record {
  mistaken = rw c.in-Ok-Mistake.field-0-is at c.in-Ok-Mistake.ensures;
  unread = record { calls = refl; kept = record { kept = kept _; sound = refl } };
  status = ap (λ (answer : Answer). answer.status) c.of_page-in-Ok-Mistake.ensures;
  plain = ap (λ (answer : Answer). answer.note) c.of_page-in-Ok-Mistake.ensures;
})))

pub returns-in-Ok-Refused-clause-answers : goal.returns-in-Ok-Refused-clause-answers
returns-in-Ok-Refused-clause-answers g c = elim c.reply_to_fault.ensures [
  | inl tells ↦ inr (inr (inr (inl (record {
    fault = c.in-Ok-Refused.fault;
    asked = rw c.in-Ok-Refused.field-0-is at c.in-Ok-Refused.ensures;
    unread = record { calls = refl; kept = record { kept = kept _; sound = refl } };
    tells = tells;
  }))))
  | inr memory ↦ inr (inr (inr (inr (record { sound = refl; tells = memory }))))
]

pub returns-in-Err-clause-answers : goal.returns-in-Err-clause-answers
returns-in-Err-clause-answers g c = inr (inr (inr (inr (record { sound = refl; tells = c.out_of_memory.ensures }))))
