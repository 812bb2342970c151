-- What of the rounds of a report looks like a mistake, whoever plays in them.
use Rattle.std.specs.Prelude.{ℕ, ◌+◌, Bool, true, not, ◌&&◌, nat_le, nat_lt, List, [], ◌∷◌, filter, length, Option, option_map, is_some}
use Rattle.std.specs.Bool.{then_some}
use Rattle.std.specs.List.{list_all, list_any}
use Rattle.std.specs.Option.{option_map_or}
use Rattle.trf16_report.specs.Prelude.{Entry, Sheet, absent, cell_at, opponent_in_cell, rounds_played}
use Rattle.trf16_report.specs.declared.limits.TheConstants.{MOST_ROUNDS}
use Rattle.report_notes.specs.Noted.{Noted, NoGame, Byes, NobodyPresent, RoundsUnknown}
use Rattle.report_notes.specs.PlayerRounds.{is_allocated, of_rounds_behind, all_some}

-- a player has an opponent in a round
abbrev pub has_opponent : ℕ → Entry → Bool
has_opponent round entry = is_some (opponent_in_cell (cell_at entry.cells round))

-- nobody has an opponent in a round
abbrev pub has_no_game : Sheet → ℕ → Bool
has_no_game sheet round = not (list_any (has_opponent round) sheet.players)

-- a player has the pairing-allocated bye in a round
abbrev pub has_bye : ℕ → Entry → Bool
has_bye round entry = is_allocated (cell_at entry.cells round)

-- how many players have the pairing-allocated bye in a round
abbrev pub byes_in : Sheet → ℕ → ℕ
byes_in sheet round = length (filter (has_bye round) sheet.players)

-- how many players have it, if several do: of a round at most one has it
abbrev pub several_byes : Sheet → ℕ → Option ℕ
several_byes sheet round = then_some (nat_lt 1 (byes_in sheet round)) (byes_in sheet round)

-- of a round: that nobody has an opponent in it; how many have the pairing-allocated bye, if several do [own]
abbrev pub report_round_notes : Sheet → ℕ → List Noted
report_round_notes sheet round = all_some (then_some (has_no_game sheet round) (NoGame round) ∷ option_map (Byes round) (several_byes sheet round) ∷ [])

-- a round can be played: a report has so many rounds at most, and no line XXR names fewer
abbrev pub can_be_played : Sheet → ℕ → Bool
can_be_played sheet round = nat_le round MOST_ROUNDS && option_map_or (nat_le round) sheet.total true

-- every player is absent from the round that comes next
abbrev pub are_all_absent : Sheet → Bool
are_all_absent sheet = list_all (λ entry. absent sheet entry.start) sheet.players

-- of a round, which comes next: that it can be played, and every player is absent from it
abbrev pub absence_notes : Sheet → ℕ → List Noted
absence_notes sheet round = all_some (then_some (can_be_played sheet round && are_all_absent sheet) (NobodyPresent round) ∷ [])

-- that nobody is present in the round that comes next [with notes_of]
abbrev pub nobody_notes : Sheet → List Noted
nobody_notes sheet = absence_notes sheet (rounds_played sheet + 1)

-- no line XXR says how many rounds there are
abbrev pub total_notes : Sheet → List Noted
total_notes sheet = all_some (then_some (not (is_some sheet.total)) RoundsUnknown ∷ [])

-- the rounds that were paired, behind a given one
abbrev pub report_rounds_notes : Sheet → ℕ → List Noted
report_rounds_notes sheet before = of_rounds_behind (report_round_notes sheet) sheet before
