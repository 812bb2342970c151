-- What the commands answer that only read a report: `check` and `format`.
use Rattle.std.specs.Prelude.{ℕ, Bool, true, false, List, ◌++◌, length, Option, Some, None, Result, Ok, Err}
use Rattle.std.specs.Option.{option_map_or}
use Rattle.ranks.specs.Prelude.{with_ranks}
use Rattle.report_notes.specs.Notes.{notes_of}
use Rattle.requests.specs.declared.options.FormatOptions.{FormatOptions}
use Rattle.tables.specs.Prelude.{has_standings}
use Rattle.tables.specs.declared.fault.TieFault.{TieFault}
use Rattle.tables.specs.declared.key.Key.{Key}
use Rattle.trf16_report.specs.Prelude.{Sheet, first_unread, renumbered, rounds_played, summed, verdict_unsummed, verdict, written}
use Rattle.trf16_report.specs.declared.fault.Fault.{Fault}
use Rattle.replies.specs.NoteTexts.{notes_text}
use Rattle.replies.specs.RefusalNoteTexts.{with_note, refusal_note}
use Rattle.replies.specs.Statuses.{Answer, done, refusal, tie_refusal, unread_refusal}
use Rattle.replies.specs.Texts.{accepted_text}
use Rattle.replies.specs.Views.{unseen_answer}
use Rattle.replies.specs.declared.views.Unseen.{Unseen}

-- how many players and rounds a report has
abbrev pub size_text : Sheet → List ℕ
size_text sheet = accepted_text (length sheet.players) (rounds_played sheet)

-- `check`: how many players and rounds the report has, with `--notes` (true) followed by what of its bytes looks like a mistake; or why it
-- is refused, with `--notes` noting what was found [own]
abbrev pub check_answer : Result Sheet Fault → Bool → List ℕ → ℕ → Answer
check_answer (Err fault) false input bye = refusal fault
check_answer (Err fault) true input bye = with_note (refusal fault) (refusal_note fault input bye)
check_answer (Ok sheet) false input bye = done (size_text sheet)
check_answer (Ok sheet) true input bye = done (size_text sheet ++ notes_text (notes_of sheet input))

-- the report that `format` writes: as it was read, or with `--points` (true) with its points fields summed
abbrev pub with_points : Bool → Sheet → Sheet
with_points false sheet = sheet
with_points true sheet = summed sheet

-- a text, unless there are no standings
abbrev pub if_standings : Result (Unit {0}) TieFault → List ℕ → Answer
if_standings (Ok x) text = done text
if_standings (Err fault) text = tie_refusal fault

-- a report in canonical columns that was made of another one; with `--ranks` (some keys) with its players' places, unless the other has no
-- standings [with format_answer]
abbrev pub ranked_answer : Option (List Key) → Sheet → Sheet → Answer
ranked_answer None sheet made = done (written made)
ranked_answer (Some keys) sheet made = if_standings (has_standings sheet) (written (with_ranks keys made))

-- a report in canonical columns as it is, or with `--renumber` (true) with new start ranks; a line that names players in a way that is not
-- read keeps it from that [with format_answer]
abbrev pub written_answer : Bool → Option (List Key) → Sheet → Answer
written_answer false ranks sheet = ranked_answer ranks sheet sheet
written_answer true ranks sheet = option_map_or unread_refusal (first_unread sheet) (ranked_answer ranks sheet (renumbered sheet))

-- `format`: the report in canonical columns, however long, or why there is none [own]
abbrev pub format_answer : FormatOptions → Result Sheet Unseen → Answer
format_answer options (Ok sheet) = written_answer options.renumber options.ranks (with_points options.points sheet)
format_answer options (Err why) = unseen_answer why

-- the verdict that `format` goes by: with `--points` (true) no points field is compared [with format_answer]
abbrev pub format_verdict : Bool → List ℕ → ℕ → Result Sheet Fault
format_verdict false input bye = verdict input bye
format_verdict true input bye = verdict_unsummed input bye
