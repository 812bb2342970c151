-- Texts of a report as the page shows them: in UTF-8, whatever the report is.
use Rattle.std.specs.Prelude.{ℕ, ◌+◌, ◌/◌, ◌%◌, Bool, true, false, nat_lt, if◌then◌else◌, List, [], ◌∷◌, ◌++◌, codes}
use Rattle.std.specs.List.{flat_map}
use Rattle.common_texts.specs.Controls.{without_controls}

-- a byte of a report that is not UTF-8: the character with its number, in UTF-8 [with in_utf8]
abbrev pub latin1_byte : ℕ → List ℕ
latin1_byte b = if nat_lt b 0x80 then b ∷ [] else (0xC0 + b / 64) ∷ (0x80 + b % 64) ∷ []

-- a text in UTF-8: as it stands where the report is UTF-8, else each byte as its character in Latin-1 [own]
abbrev pub in_utf8 : Bool → List ℕ → List ℕ
in_utf8 true bytes = bytes
in_utf8 false bytes = flat_map latin1_byte bytes

-- a text as it is shown: in UTF-8, with a question mark in place of each control character [own]
abbrev pub plain : Bool → List ℕ → List ℕ
plain utf8 bytes = without_controls (in_utf8 utf8 bytes)

-- two texts with a mark between them; where one is empty, the other alone
abbrev pub joined_by : List ℕ → List ℕ → List ℕ → List ℕ
joined_by mark [] behind = behind
joined_by mark (a ∷ front) [] = a ∷ front
joined_by mark (a ∷ front) (b ∷ behind) = (a ∷ front) ++ (mark ++ (b ∷ behind))

-- two texts with a blank between them; where one is empty, the other alone
abbrev pub phrase : List ℕ → List ℕ → List ℕ
phrase = joined_by (codes " ")
