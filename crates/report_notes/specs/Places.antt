-- What comes behind a place.
use Rattle.std.specs.Prelude.{◌+◌, List, ◌++◌}
use Rattle.trf16_report.specs.Prelude.{lines, Sheet}
use Rattle.report_notes.specs.Noted.{Noted}
use Rattle.report_notes.specs.Notes.{notes_from}
use Rattle.report_notes.specs.NoteOf.{left_notes, closing_left_notes}
use Rattle.report_notes.specs.declared.place.Place.{Place}

-- the notes behind a place: what is left to tell of the line in hand, the notes of the lines behind it, and what is left to tell behind
-- them [with notes_of]
abbrev pub coming : Sheet → Place → List Noted
coming sheet place =
    left_notes sheet place.line place.left ++ (notes_from sheet (place.line + 1) (lines place.text.now) ++ closing_left_notes sheet place.closing)
