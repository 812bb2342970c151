-- Ratings and titles, and who goes before whom by them: the order of start ranks (article C.04.2).
use Rattle.std.specs.Prelude.{ℕ, ◌+◌, Bool, ◌==◌, nat_lt, if◌then◌else◌, List, [], ◌∷◌, codes}
use Rattle.std.specs.Option.{option_map_or}
use Rattle.trf16_report.specs.Lines.{columns, text}
use Rattle.trf16_report.specs.Fields.{words, number_in, without_blanks}
use Rattle.trf16_report.specs.Extensions.{is_word}
use Rattle.trf16_report.specs.Sheet.{Entry}

-- the rating in columns 49 to 52 of a player's line: digits between blanks, and 0 where something else stands there; what is carried of the
-- line begins with column 9, so these are its columns 41 to 44 [TRF16, columns 49 to 52]
abbrev pub rating_of : Bool → Entry → ℕ
rating_of utf8 entry = option_map_or (λ rating. rating) (number_in (words (text (columns utf8 entry.left) 41 44))) 0

-- the title in columns 11 to 13 of a player's line, which are 3 to 5 of what is carried, without the blanks at its ends
abbrev pub title_of : Bool → Entry → List ℕ
title_of utf8 entry = without_blanks (text (columns utf8 entry.left) 3 5)

-- the titles, the highest first
abbrev pub titles : List (List ℕ)
titles = codes "GM" ∷ codes "IM" ∷ codes "WGM" ∷ codes "FM" ∷ codes "WIM" ∷ codes "CM" ∷ codes "WFM" ∷ codes "WCM" ∷ []

-- how many of some words stand in front of a word, in either case; all of them if it is none of these
abbrev pub place_among : List (List ℕ) → List ℕ → ℕ
place_among [] word = 0
place_among (first ∷ rest) word = if is_word word first then 0 else place_among rest word + 1

-- how many titles are higher than that of a player; all of them if they have none of these
abbrev pub higher_titles : Bool → Entry → ℕ
higher_titles utf8 entry = place_among titles (title_of utf8 entry)

-- whether one player goes before another: by the higher rating, then by the higher title of GM, IM, WGM, FM, WIM, CM, WFM, WCM and none of
-- these, then by the lower start rank [C.04.2; own]
abbrev pub goes_before : Bool → Entry → Entry → Bool
goes_before utf8 a b =
    if rating_of utf8 a == rating_of utf8 b
    then (if higher_titles utf8 a == higher_titles utf8 b then nat_lt a.start b.start else nat_lt (higher_titles utf8 a) (higher_titles utf8 b))
    else nat_lt (rating_of utf8 b) (rating_of utf8 a)
