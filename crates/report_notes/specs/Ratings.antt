-- Ratings that stand above that of a player with a smaller start rank: of a late entry, and before the first round.
use Rattle.std.specs.Prelude.{ℕ, Bool, false, ◌&&◌, ◌==◌, nat_lt, if◌then◌else◌, List, [], ◌∷◌, length, map, filter, min, Option, None, option_map, option_and_then}
use Rattle.std.specs.List.{reduce}
use Rattle.std.specs.Option.{option_map_or}
use Rattle.trf16_report.specs.Prelude.{text, columns, words, number_in, positive, Entry, Sheet, rounds_played}
use Rattle.report_notes.specs.Noted.{Noted, StartRanks}
use Rattle.report_notes.specs.declared.ratings.RatedAbove.{RatedAbove}

-- columns 49 to 52: the rating, if it is over 0; what is carried of the line begins with column 9, so these are its columns 41 to 44
abbrev pub rating_of : Bool → Entry → Option ℕ
rating_of utf8 entry = option_and_then positive (number_in (words (text (columns utf8 entry.left) 41 44)))

-- a player with a smaller start rank than a given one has a rating below a given one
abbrev pub is_rated_below : Bool → ℕ → ℕ → Entry → Bool
is_rated_below utf8 start rating entry = nat_lt entry.start start && option_map_or (λ own. nat_lt own rating) (rating_of utf8 entry) false

-- the smallest start rank among those of the players who are rated so
abbrev pub first_rated_below : Sheet → ℕ → ℕ → Option ℕ
first_rated_below sheet start rating = reduce min (map (λ entry. entry.start) (filter (is_rated_below sheet.utf8 start rating) sheet.players))

-- a player without any cell, while some round was paired
abbrev pub is_late : Sheet → Entry → Bool
is_late sheet entry = nat_lt 0 (rounds_played sheet) && (length entry.cells == 0)

-- the rating of a player, and the player with the smallest start rank who is rated below, though with a smaller start rank [with
-- player_notes]
abbrev pub rated_above : Sheet → Entry → Option RatedAbove
rated_above sheet entry =
    option_and_then (λ rating.
    option_map (λ player. record { rating = rating; player = player }) (first_rated_below sheet entry.start rating))
    (rating_of sheet.utf8 entry)

-- the same of a player who comes late
abbrev pub late_above : Sheet → Entry → Option RatedAbove
late_above sheet entry = if is_late sheet entry then rated_above sheet entry else None

-- of the first of some players of whom it is so: that a rating stands above that of a player with a smaller start rank
abbrev pub first_above : Sheet → List Entry → List Noted
first_above sheet [] = []
first_above sheet (entry ∷ rest) =
    option_map_or (λ above. StartRanks above.rating entry.start above.player ∷ []) (rated_above sheet entry) (first_above sheet rest)

-- that start ranks do not follow the ratings, before a round is paired: of the first player by line whose rating is above that of a player
-- with a smaller start rank [with notes_of]
abbrev pub start_ranks_notes : Sheet → List Noted
start_ranks_notes sheet = if rounds_played sheet == 0 then first_above sheet sheet.players else []
