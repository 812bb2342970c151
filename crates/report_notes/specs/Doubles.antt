-- What tells players from one another, and who shares it: a player who was entered twice.
use Rattle.std.specs.Prelude.{ℕ, Bool, ◌&&◌, ◌==◌, nat_lt, if◌then◌else◌, List, [], ◌∷◌, length, Option, Some, None}
use Rattle.std.specs.List.{list_all}
use Rattle.std.specs.Str.{byte, bytes_eq}
use Rattle.trf16_report.specs.Prelude.{columns, text, without_blanks, name_of, Entry, Sheet}
use Rattle.report_notes.specs.declared.doubles.Identity.{Identity}
use Rattle.report_notes.specs.declared.doubles.Identity.TheVariants.{Name, FideNumber}

-- what a player's line says of it, without the blanks at its ends: the name in columns 15 to 47, or the FIDE number in columns 58 to 68; what
-- is carried of the line begins with column 9, so these are its columns 50 to 60
abbrev pub identity_of : Identity → Bool → Entry → List ℕ
identity_of Name utf8 entry = name_of utf8 entry
identity_of FideNumber utf8 entry = without_blanks (text (columns utf8 entry.left) 50 60)

-- nothing but zeros
abbrev pub are_zeros : List ℕ → Bool
are_zeros digits = list_all (λ b. b == byte "0") digits

-- that says nothing: an empty name; a number of zeros alone, or of no digits
abbrev pub says_nothing : Identity → List ℕ → Bool
says_nothing Name own = length own == 0
says_nothing FideNumber own = are_zeros own

-- the start rank of the first of some players in front of a line whose lines say the same
abbrev pub first_same : Identity → Bool → List ℕ → ℕ → List Entry → Option ℕ
first_same what utf8 own line [] = None
first_same what utf8 own line (entry ∷ rest) =
    if nat_lt entry.line line && bytes_eq (identity_of what utf8 entry) own then Some entry.start else first_same what utf8 own line rest

-- the start rank of the first player in an earlier line who has a player's name, or FIDE number; nothing where their line says none [with
-- player_notes]
abbrev pub same_before : Sheet → Identity → Entry → Option ℕ
same_before sheet what entry =
    if says_nothing what (identity_of what sheet.utf8 entry) then None
    else first_same what sheet.utf8 (identity_of what sheet.utf8 entry) entry.line sheet.players
