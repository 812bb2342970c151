-- What is shown of a player beside games and points.
use Rattle.std.specs.Prelude.{ℕ, Bool, ◌&&◌, ◌==◌, if◌then◌else◌, List, [], length}
use Rattle.std.specs.Char.{is_ascii_digit}
use Rattle.std.specs.List.{list_all}
use Rattle.std.specs.Option.{option_map_or}
use Rattle.common_texts.specs.Texts.{name_or_dash}
use Rattle.trf16_report.specs.Prelude.{Sheet, columns, player_of, text, without_blanks}
use Rattle.sheets.specs.Texts.{in_utf8, plain}

-- a player as the page shows them: title, name, federation, rating and year of birth, each empty where nothing stands, but the name a dash
-- [with person_of]
pub record PersonFacts : Type 0 where
  pub title : List ℕ
  pub name : List ℕ
  pub federation : List ℕ
  pub rating : List ℕ
  pub born : List ℕ

-- some columns of a player's line without the blanks at their ends; what is carried of the line begins with column 9, which is its first
abbrev pub columns_in : Bool → List ℕ → ℕ → ℕ → List ℕ
columns_in utf8 left first last = without_blanks (text (columns utf8 left) first last)

-- a year: four digits, and nothing where something else stands [own]
abbrev pub year_in : List ℕ → List ℕ
year_in field = if (length field == 4) && list_all is_ascii_digit field then field else []

-- a player by what is carried of their line: title in columns 11 to 13, name in 15 to 47, federation in 54 to 56, rating in 49 to 52, and the
-- year of birth in 70 to 73 [TRF16, line 001]
unfoldable pub person_of : Bool → List ℕ → PersonFacts
person_of utf8 left = record {
  title = plain utf8 (columns_in utf8 left 3 5);
  name = name_or_dash (in_utf8 utf8 (columns_in utf8 left 7 39));
  federation = plain utf8 (columns_in utf8 left 46 48);
  rating = plain utf8 (columns_in utf8 left 41 44);
  born = year_in (text (columns utf8 left) 62 65);
}

-- what is carried of the line of the player with a start rank; empty where no player has it [with person_of]
abbrev pub left_in : Sheet → ℕ → List ℕ
left_in sheet start = option_map_or (λ entry. entry.left) (player_of sheet.players start) []

-- the player with a start rank [with person_of]
abbrev pub person_in : Sheet → ℕ → PersonFacts
person_in sheet start = person_of sheet.utf8 (left_in sheet start)
