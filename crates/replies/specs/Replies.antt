-- Replies as answers.
use Rattle.std.specs.Prelude.{ℕ, List, []}
use Rattle.replies.specs.Statuses.{Answer}
use Rattle.replies.specs.declared.reply.Text.{Text}
use Rattle.replies.specs.declared.reply.Text.TheVariants.{Fixed, Made, Noted}
use Rattle.replies.specs.declared.reply.Reply.{Reply}

-- the bytes of a text
abbrev pub text_of : Text → List ℕ
text_of (Fixed text) = text.now
text_of (Made text) = text
text_of (Noted text note) = text

-- its note
abbrev pub note_of : Text → List ℕ
note_of (Fixed text) = []
note_of (Made text) = []
note_of (Noted text note) = note

-- the status of a reply, its text and its note [with Answer]
abbrev pub answer_of : Reply → Answer
answer_of reply = record { status = reply.status; text = text_of reply.text; note = note_of reply.text }
