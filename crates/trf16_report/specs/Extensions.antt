-- The extension lines XXR, XXC, XXZ and XXP.
use Rattle.std.specs.Prelude.{ℕ, Bool, false, ◌&&◌, ◌==◌, nat_lt, if◌then◌else◌, List, [], ◌∷◌, map, drop, codes, Option, Some, None, option_and_then}
use Rattle.std.specs.List.{list_all, list_any}
use Rattle.std.specs.Option.{option_map_or}
use Rattle.std.specs.Str.{bytes_eq}
use Rattle.std.specs.Char.{to_ascii_lowercase}
use Rattle.trf16_report.specs.Lines.{joined, text}
use Rattle.trf16_report.specs.Fields.{words, number_of, number_in}
use Rattle.trf16_report.specs.declared.cell.Colour.{Colour}
use Rattle.trf16_report.specs.declared.cell.Colour.TheVariants.{White, Black}

-- two words are the same but for the case of their letters [with colour_in]
abbrev pub is_word : List ℕ → List ℕ → Bool
is_word word capitals = bytes_eq (map to_ascii_lowercase word) (map to_ascii_lowercase capitals)

-- a line of a kind: its first three columns, in either case [TRF16, columns 1 to 3]
abbrev pub is_kind : List ℕ → List (List ℕ) → Bool
is_kind capitals line = is_word (text line 1 3) capitals

-- the words behind the kind of a line
abbrev pub words_of : List (List ℕ) → List (List ℕ)
words_of line = words (joined (drop 3 line))

-- a number that is not 0
abbrev pub positive : ℕ → Option ℕ
positive n = if n == 0 then None else Some n

-- XXR: the number of rounds is one word, a number over 0 [TRF16 extensions]
abbrev pub rounds_in : List (List ℕ) → Option ℕ
rounds_in all = option_and_then positive (number_in all)

-- what a word of XXC names: white1 the initial colour white, black1 black, and rank no colour [with colour_in]
abbrev pub colour_named : List ℕ → Option (Option Colour)
colour_named word =
    if is_word word (codes "WHITE1") then Some (Some White)
    else (if is_word word (codes "BLACK1") then Some (Some Black)
    else (if is_word word (codes "RANK") then Some None else None))

-- what two name together: they do not name both colours
abbrev pub named_together : Option Colour → Option Colour → Option (Option Colour)
named_together (Some White) (Some Black) = None
named_together (Some Black) (Some White) = None
named_together None named = Some named
named_together (Some colour) _ = Some (Some colour)

-- XXC: the initial colour that a word names together with what is named in front of it
abbrev pub colour_behind : Option Colour → List ℕ → Option (Option Colour)
colour_behind initial word = option_and_then (named_together initial) (colour_named word)

-- the same behind some words
abbrev pub colour_behind_all : Option Colour → List (List ℕ) → Option (Option Colour)
colour_behind_all initial [] = Some initial
colour_behind_all initial (word ∷ rest) = option_and_then (λ next. colour_behind_all next rest) (colour_behind initial word)

-- XXC: the initial colour that the words of a line name, of which there is at least one, together with what the lines in front of it name
-- [TRF16 extensions]
abbrev pub colour_in : Option Colour → List (List ℕ) → Option (Option Colour)
colour_in initial [] = None
colour_in initial (word ∷ rest) = colour_behind_all initial (word ∷ rest)

-- XXZ and XXP: each word is a number over 0; those that XXZ names are absent from the next round, and those that one XXP names do not meet
-- in it [TRF16 extensions; own]
abbrev pub are_start_ranks : List (List ℕ) → Bool
are_start_ranks all = list_all (λ word. option_map_or (λ n. nat_lt 0 n) (number_of word) false) all

-- one of the words is a number
abbrev pub is_named : List (List ℕ) → ℕ → Bool
is_named all number = list_any (λ word. option_map_or (λ n. n == number) (number_of word) false) all

-- a line XXZ that names a start rank [TRF16 extensions]
abbrev pub names_absent : ℕ → List (List ℕ) → Bool
names_absent start line = is_kind (codes "XXZ") line && is_named (words_of line) start

-- a line XXP that names two numbers, in any order
abbrev pub names_both : ℕ → ℕ → List (List ℕ) → Bool
names_both a b line = is_kind (codes "XXP") line && (is_named (words_of line) a && is_named (words_of line) b)
