-- What is read of the source is enough to answer over all its bytes.
use Rattle.std.proofs.Common.{Bool, true, false, nat_lt, ◌≡◌, ◌≤◌, ◌<◌, ◌++◌, ℕ, List, [], ◌∷◌, Option, None, Some, Err, length, refl, subst, sym, ◌∙◌, ap, arith, append-nil, inl, inr, length-append}
use Rattle.std.specs.Io.KnownBytes.{Consumes, IsAtEnd}
use Rattle.std.proofs.lemmas.Bool.{cases_lt}
use Rattle.std.proofs.lemmas.Bool.Decides.{nat_tests}
use Rattle.trf16_report.specs.Prelude.{laid_out, verdict, verdict_unsummed}
use Rattle.trf16_report.specs.declared.fault.Excess.TheVariants.{Bytes}
use Rattle.trf16_report.specs.declared.fault.Fault.TheVariants.{TooMany}
use Rattle.command_line.specs.Commands.{Answers, AnswersReport, verdict_for}
use Rattle.replies.specs.Prelude.{check_answer, format_verdict, order_text, refusal, with_note, zero_text, Answer, Reading, IsRead, most_read}
use Rattle.report_notes.specs.RefusalNotes.{byte_order, zero_byte}
use Rattle.report_notes.specs.declared.encoding.ByteOrder.{ByteOrder}
use Rattle.std.specs.Option.{option_map_or}
use Rattle.command_line.specs.Run.{IsAnswered, IsInput}
use Rattle.requests.specs.declared.words.Request.{Request}
use Rattle.requests.specs.declared.words.Request.TheVariants.{Check, Format, Enter, Pair, Boards, Candidates, Explain, Standings, Sheet as SheetRequest}
use Rattle.requests.specs.declared.words.Task.{Task}
use Rattle.trf16_report.specs.declared.limits.TheConstants.{MOST_BYTES}

-- as many bytes as are read at most are too many for a report
verdict-long : (bytes : List ℕ) (bye : ℕ) → most_read ≤ length bytes → verdict bytes bye ≡ Err (TooMany Bytes)
unfolding verdict laid_out
verdict-long bytes bye h =
    let long : nat_lt MOST_BYTES (length bytes) ≡ true = grind (arith, nat_tests) in
    rw long

unsummed-long : (bytes : List ℕ) (bye : ℕ) → most_read ≤ length bytes → verdict_unsummed bytes bye ≡ Err (TooMany Bytes)
unfolding verdict_unsummed laid_out
unsummed-long bytes bye h =
    let long : nat_lt MOST_BYTES (length bytes) ≡ true = grind (arith, nat_tests) in
    rw long

format-long : (points : Bool) (bytes : List ℕ) (bye : ℕ) → most_read ≤ length bytes → format_verdict points bytes bye ≡ Err (TooMany Bytes)
format-long false bytes bye h = verdict-long bytes bye h
format-long true bytes bye h = unsummed-long bytes bye h

verdict_for-long : (request : Request) (bytes : List ℕ) (bye : ℕ) → most_read ≤ length bytes → verdict_for request bytes bye ≡ Err (TooMany Bytes)
verdict_for-long (Check options) bytes bye h = verdict-long bytes bye h
verdict_for-long (Format options) bytes bye h = format-long options.points bytes bye h
verdict_for-long (Enter options) bytes bye h = unsummed-long bytes bye h
verdict_for-long (Pair options) bytes bye h = verdict-long bytes bye h
verdict_for-long (Boards options) bytes bye h = verdict-long bytes bye h
verdict_for-long (Candidates options) bytes bye h = verdict-long bytes bye h
verdict_for-long (Explain options) bytes bye h = verdict-long bytes bye h
verdict_for-long (Standings options) bytes bye h = verdict-long bytes bye h
verdict_for-long (SheetRequest options) bytes bye h = verdict-long bytes bye h

-- the bytes at the front of a text are those at the front of a longer one
order_kept : (input rest : List ℕ) → 2 ≤ length input → byte_order (input ++ rest) ≡ byte_order input
order_kept [] rest two = absurd (omega (arith, two))
order_kept (a ∷ []) rest two = absurd (omega (arith, two))
order_kept (a ∷ b ∷ more) rest two = refl

zero_kept : (input rest : List ℕ) → 2 ≤ length input → zero_byte (input ++ rest) ≡ zero_byte input
zero_kept [] rest two = absurd (omega (arith, two))
zero_kept (a ∷ []) rest two = absurd (omega (arith, two))
zero_kept (a ∷ b ∷ more) rest two = refl

-- where a report has too many bytes, nothing is found behind it but what its first bytes say
check_alike : (noting : Bool) (input rest : List ℕ) (bye : ℕ) → most_read ≤ length input
    → check_answer (Err (TooMany Bytes)) noting input bye ≡ check_answer (Err (TooMany Bytes)) noting (input ++ rest) bye
check_alike false input rest bye long = refl
check_alike true input rest bye long =
    let refused = refusal (TooMany Bytes) in
    ap (λ (order : Option ByteOrder). with_note refused (option_map_or order_text order (option_map_or zero_text (zero_byte input) [])))
    (sym (order_kept input rest (omega (arith, long))))
    ∙ ap (λ (zero : Option ℕ). with_note refused (option_map_or order_text (byte_order (input ++ rest)) (option_map_or zero_text zero [])))
    (sym (zero_kept input rest (omega (arith, long))))

-- where a report has too many bytes, an answer is one over any longer input
refused_alike : (request : Request) (input rest : List ℕ) (bye : ℕ) (answer : Answer) → most_read ≤ length input
    → AnswersReport request input bye (Err (TooMany Bytes)) answer → AnswersReport request (input ++ rest) bye (Err (TooMany Bytes)) answer
refused_alike (Check options) input rest bye answer long h = h ∙ check_alike options.notes input rest bye long
refused_alike (Format options) input rest bye answer long h = h
refused_alike (Enter options) input rest bye answer long h = h
refused_alike (Pair options) input rest bye answer long h = h
refused_alike (Boards options) input rest bye answer long h = h
refused_alike (Candidates options) input rest bye answer long h = h
refused_alike (Explain options) input rest bye answer long h = h
refused_alike (Standings options) input rest bye answer long h = h
refused_alike (SheetRequest options) input rest bye answer long h = h

-- an answer over an input, by its verdict
abbrev AnswersOver : Request → ℕ → Answer → List ℕ → Type 0
AnswersOver request bye answer input = AnswersReport request input bye (verdict_for request input bye) answer

-- an answer over what is read of some bytes is one over them
answers_whole : (request : Request) (input rest : List ℕ) (bye : ℕ) (answer : Answer) → (length input < most_read → rest ≡ [])
    → AnswersOver request bye answer input → AnswersOver request bye answer (input ++ rest)
answers_whole request input rest bye answer whole h = elim (cases_lt (length input) most_read) [
  | inl short ↦ subst (AnswersOver request bye answer) (sym (ap (λ xs. input ++ xs) (whole short) ∙ append-nil input)) h
  | inr long ↦
      let here = verdict_for-long request input bye long in
      let there = verdict_for-long request (input ++ rest) bye (omega (arith, length-append input rest)) in
      subst (λ report. AnswersReport request (input ++ rest) bye report answer) (sym there)
      (refused_alike request input rest bye answer long (subst (λ report. AnswersReport request input bye report answer) here h))
]

-- the bytes that a source had
whole_input : (request : Request) (before after : Option (List ℕ)) (input : List ℕ) (bye : ℕ) (answer : Answer) → Consumes before after input
    → (length input < most_read → IsAtEnd after) → AnswersOver request bye answer input
    → (bytes : List ℕ) × IsInput before bytes × AnswersOver request bye answer bytes
whole_input request None after input bye answer given whole h = (input, tt, h)
whole_input request (Some bytes) None input bye answer given whole h = absurd given
whole_input request (Some bytes) (Some rest) input bye answer given whole h =
    (bytes, refl, subst (AnswersOver request bye answer) (sym given) (answers_whole request input rest bye answer whole h))

-- an answer over what was read is one over all bytes of the source
pub answered : (task : Task) (source : Reading) (input : List ℕ) (answer : Answer) → IsRead source.device input → Answers task input answer
    → IsAnswered task source answer
answered task source input answer read h =
    let all = whole_input task.request source.device.before source.device.after input task.bye answer read.given read.whole h in
    record { input = all.0; read = all.1; sound = read.sound; answers = all.2 }
