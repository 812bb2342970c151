-- Who is absent from the next round, who does not meet in it, and which lines are known and not supported.
use Rattle.std.specs.Prelude.{ℕ, ◌+◌, Bool, true, false, not, ◌&&◌, ◌||◌, ◌==◌, map, filter, if◌then◌else◌, List, [], ◌∷◌, codes, Option, Some, None}
use Rattle.std.specs.List.{list_any}
use Rattle.std.specs.Option.{option_map_or}
use Rattle.trf16_report.specs.Lines.{columns}
use Rattle.trf16_report.specs.Extensions.{is_kind, is_word, words_of, names_absent, names_both}
use Rattle.trf16_report.specs.Sheet.{Sheet, cell_in, rounds_played}
use Rattle.trf16_report.specs.declared.cell.Bye.TheVariants.{Half, Full, Allocated, Zero}
use Rattle.trf16_report.specs.declared.cell.Cell.{Cell}
use Rattle.trf16_report.specs.declared.cell.Cell.TheVariants.{Blank, Bye, Game, Forfeit, Unfinished}
use Rattle.trf16_report.specs.declared.kind.LineKind.{LineKind}
use Rattle.trf16_report.specs.declared.kind.LineKind.TheVariants.{Xxa, Xxs, Rank}

-- whether some line that is carried passes a test of its columns
abbrev pub some_carried : (List (List ℕ) → Bool) → Sheet → Bool
some_carried test sheet = list_any (λ line. option_map_or (λ bytes. test (columns sheet.utf8 bytes)) line false) sheet.carried

-- a cell that says that a player does not play: H, F or Z
abbrev pub is_absence : Cell → Bool
is_absence Blank = false
is_absence (Bye Half) = true
is_absence (Bye Full) = true
is_absence (Bye Allocated) = false
is_absence (Bye Zero) = true
is_absence (Game opponent colour rated got) = false
is_absence (Forfeit opponent colour won) = false
is_absence (Unfinished opponent colour) = false

-- a line XXZ names a player [with absent]
abbrev pub is_named_absent : Sheet → ℕ → Bool
is_named_absent sheet start = some_carried (names_absent start) sheet

-- a player is absent from the next round: a line XXZ names them, or their cell there is H, F or Z [own]
abbrev pub absent : Sheet → ℕ → Bool
absent sheet start = is_named_absent sheet start || is_absence (cell_in sheet start (rounds_played sheet + 1))

-- two players do not meet in the next round: they are two, and a line XXP names both [own]
abbrev pub apart : Sheet → ℕ → ℕ → Bool
apart sheet a b = not (a == b) && some_carried (names_both a b) sheet

-- the start ranks of the players whom one does not meet so, in the order of their lines [with apart]
abbrev pub apart_from : Sheet → ℕ → List ℕ
apart_from sheet start = filter (apart sheet start) (map (λ entry. entry.start) sheet.players)

-- a line of a kind that is known and not supported: XXA, XXS, or XXC with the word rank [with first_of]
abbrev pub is_of : List (List ℕ) → LineKind → Bool
is_of line Xxa = is_kind (codes "XXA") line
is_of line Xxs = is_kind (codes "XXS") line
is_of line Rank = is_kind (codes "XXC") line && list_any (λ word. is_word word (codes "RANK")) (words_of line)

-- the number of the first of some lines, counted from n, that passes a test of its columns
abbrev pub first_at : (List (List ℕ) → Bool) → Bool → ℕ → List (Option (List ℕ)) → Option ℕ
first_at test utf8 n [] = None
first_at test utf8 n (line ∷ rest) = if option_map_or (λ bytes. test (columns utf8 bytes)) line false then Some n else first_at test utf8 (n + 1) rest

-- the number of the first line of one of some kinds, from 1 [own]
abbrev pub first_of : List LineKind → Sheet → Option ℕ
first_of kinds sheet = first_at (λ line. list_any (is_of line) kinds) sheet.utf8 1 sheet.carried
