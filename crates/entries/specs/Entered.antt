-- What becomes of a report when results and byes are entered by hand.
use Rattle.std.specs.Prelude.{ℕ, ◌+◌, ◌-◌, Bool, true, false, not, ◌&&◌, ◌||◌, ◌==◌, nat_le, nat_lt, if◌then◌else◌, List, [], ◌∷◌, ◌++◌, map, take, sum_by, Option, Some, None, option_map, Result, Ok, Err}
use Rattle.std.specs.Option.{option_map_or, ok_or}
use Rattle.trf16_report.specs.Outcomes.{◌>>=◌}
use Rattle.trf16_report.specs.Prelude.{Entry, Sheet, known, rounds_played, half_points, opponent_in_cell, colour_in_cell, is_blank_cell, is_unfinished, has_other_points, with_cell, without_last, all_cells_fit}
use Rattle.trf16_report.specs.declared.cell.Colour.TheVariants.{White, Black}
use Rattle.trf16_report.specs.declared.cell.Bye.{Bye as ByeKind}
use Rattle.trf16_report.specs.declared.cell.Bye.TheVariants.{Allocated as AllocatedBye}
use Rattle.trf16_report.specs.declared.cell.Cell.{Cell}
use Rattle.trf16_report.specs.declared.cell.Cell.TheVariants.{Blank, Bye}
use Rattle.trf16_report.specs.declared.fault.Fault.{Fault}
use Rattle.trf16_report.specs.declared.limits.TheConstants.{MOST_ROUNDS}
use Rattle.entries.specs.Games.{cell_of_game, cell_with, other_game, same_cell}
use Rattle.entries.specs.NewCells.{cell_now, is_named, is_put}
use Rattle.entries.specs.declared.entry.GameResult.{GameResult}
use Rattle.entries.specs.declared.entry.Event.{Event}
use Rattle.entries.specs.declared.entry.Event.TheVariants.{Scores, NoResult, Asked, Meets, Allocated}
use Rattle.entries.specs.declared.entry.HandEntry.{HandEntry}
use Rattle.entries.specs.declared.entry.EntryOptions.{EntryOptions}
use Rattle.entries.specs.declared.entry.Slot.{Slot}
use Rattle.entries.specs.declared.entry.GameOf.{GameOf}
use Rattle.entries.specs.declared.entry.NewCell.{NewCell}
use Rattle.entries.specs.declared.entry.NewCells.{NewCells}
use Rattle.entries.specs.declared.fault.EntryFault.{EntryFault}
use Rattle.entries.specs.declared.fault.EntryFault.TheVariants.{NotReached, NotKnown, NamedTwice, HasGame, NoGame, NoColour, HasCell, Refused}

-- ---- one entry

-- a bye that a player asked for, or an absence
abbrev pub is_asked : Event → Bool
is_asked (Asked bye) = true
is_asked _ = false

-- the round of an entry: that which is given for all; else the next one for a bye that was asked for, and the last that was paired for
-- all else [with entered]
abbrev pub round_of : Option ℕ → Sheet → Event → ℕ
round_of (Some round) sheet event = round
round_of None sheet event = if is_asked event then rounds_played sheet + 1 else rounds_played sheet

-- a round that was paired, or the next one, if a report may have it [with entered]
abbrev pub is_reached : Sheet → ℕ → Bool
is_reached sheet round = nat_lt 0 round && (nat_le round (rounds_played sheet + 1) && nat_le round MOST_ROUNDS)

-- the second player whom an entry names: the one with Black
abbrev pub second_of : Event → Option ℕ
second_of (Meets black score) = Some black
second_of _ = None

-- whoever an entry names is a player of the report, the first one first
unfoldable pub are_known : Sheet → HandEntry → Result (Unit {0}) EntryFault
are_known sheet entry =
    if not (known sheet entry.player) then Err (NotKnown entry.player)
    else option_map_or (λ black. if known sheet black then Ok tt else Err (NotKnown black)) (second_of entry.event) (Ok tt)

-- whoever an entry names is named for the first time in the round, the first one first
unfoldable pub are_named_once : List NewCell → ℕ → HandEntry → Result (Unit {0}) EntryFault
are_named_once so_far round entry =
    if is_named so_far (record { player = entry.player; round = round }) then Err (NamedTwice entry.player)
    else option_map_or (λ black. if (black == entry.player) || is_named so_far (record { player = black; round = round }) then Err (NamedTwice black) else Ok tt)
    (second_of entry.event) (Ok tt)

-- a cell of a player whom the entry names
abbrev pub named_cell : Slot → Cell → NewCell
named_cell slot cell = record { slot = slot; cell = cell; named = true }

-- the same, and no other cell
abbrev pub named_alone : Slot → Cell → NewCells
named_alone slot cell = record { first = named_cell slot cell; second = None }

-- the cell of a game of a player who has the colour that another cell says; a game's result wants a colour, and so does a game without one
-- yet [with entered]
unfoldable pub cell_by_colour : GameOf → Cell → Result Cell EntryFault
cell_by_colour game cell = ok_or (cell_of_game game.opponent game.score (colour_in_cell cell)) (NoColour game.slot.player game.slot.round)

-- the cells of a game whose result is entered, or taken away: the opponent gets the other side of it, unless an entry so far names them
-- [own]
unfoldable pub game_cells : Sheet → List NewCell → GameOf → Result NewCells EntryFault
game_cells sheet so_far game = do
  mine ← cell_by_colour game (cell_now sheet so_far game.slot)
  if is_named so_far (other_game game).slot then Ok (named_alone game.slot mine)
      else (cell_by_colour (other_game game) (cell_now sheet so_far (other_game game).slot)
      >>= λ theirs. Ok (record { first = named_cell game.slot mine; second = Some (record { slot = (other_game game).slot; cell = theirs; named = false }) }))

-- the same of the game that the player has in the round, if there is one
abbrev pub own_cells : Sheet → List NewCell → Slot → Option GameResult → Result NewCells EntryFault → Result NewCells EntryFault
own_cells sheet so_far slot score otherwise =
    option_map_or (λ opponent. game_cells sheet so_far (record { slot = slot; opponent = opponent; score = score })) (opponent_in_cell (cell_now sheet so_far slot)) otherwise

-- two play each other, the first with White
abbrev pub meeting_cells : GameOf → NewCells
meeting_cells game = record {
  first = named_cell game.slot (cell_with game.opponent game.score White);
  second = Some (named_cell (other_game game).slot (cell_with (other_game game).opponent (other_game game).score Black));
}

-- the bye that a player asked for, who has no game
abbrev pub asked_cells : Slot → ByeKind → Option ℕ → Result NewCells EntryFault
asked_cells slot bye None = Ok (named_alone slot (Bye bye))
asked_cells slot bye (Some opponent) = Err (HasGame slot.player slot.round)

-- the cells that an entry puts: a result wants a game, and a bye that was asked for wants none; whoever meets, or has the
-- pairing-allocated bye, may have had a game [own]
abbrev pub cells_by : Sheet → List NewCell → Slot → Event → Result NewCells EntryFault
cells_by sheet so_far slot (Scores score) = own_cells sheet so_far slot (Some score) (Err (NoGame slot.player slot.round))
cells_by sheet so_far slot NoResult = own_cells sheet so_far slot None (Ok (named_alone slot Blank))
cells_by sheet so_far slot (Asked bye) = asked_cells slot bye (opponent_in_cell (cell_now sheet so_far slot))
cells_by sheet so_far slot (Meets black score) = Ok (meeting_cells (record { slot = slot; opponent = black; score = score }))
cells_by sheet so_far slot Allocated = Ok (named_alone slot (Bye AllocatedBye))

-- a cell may take the place of another one: that is blank, or a game without a result, or says the same; or an entry so far has put it; or
-- it is to be corrected [own]
abbrev pub may_be_put : Bool → Sheet → List NewCell → NewCell → Bool
may_be_put correct sheet so_far new =
    let old = cell_now sheet so_far new.slot in
    correct || (is_blank_cell old || (is_unfinished old || (same_cell old new.cell || is_put so_far new.slot)))

-- the cells so far, and a new one behind them
unfoldable pub with_new_cell : Bool → Sheet → List NewCell → NewCell → Result (List NewCell) EntryFault
with_new_cell correct sheet so_far new =
    if may_be_put correct sheet so_far new then Ok (so_far ++ new ∷ []) else Err (HasCell new.slot.player new.slot.round)

-- the cells so far, and the one or two that an entry puts
unfoldable pub with_new_cells : Bool → Sheet → List NewCell → NewCells → Result (List NewCell) EntryFault
with_new_cells correct sheet so_far new = do
  more ← with_new_cell correct sheet so_far new.first
  option_map_or (with_new_cell correct sheet more) new.second (Ok more)

-- the round of an entry, if the report reaches it [with entered]
unfoldable pub reached_round : EntryOptions → Sheet → Event → Result ℕ EntryFault
reached_round options sheet event =
    let round = round_of options.round sheet event in
    if is_reached sheet round then Ok round else Err (NotReached round)

-- the cells that the entries so far put, with those of one more entry; or why it is refused: its round, whoever it names, what they have in
-- the round, and the cells that would be replaced, in this order [own]
unfoldable pub with_entry : EntryOptions → Sheet → List NewCell → HandEntry → Result (List NewCell) EntryFault
with_entry options sheet so_far entry = do
  round ← reached_round options sheet entry.event
  _ ← are_known sheet entry
  _ ← are_named_once so_far round entry
  new ← cells_by sheet so_far (record { player = entry.player; round = round }) entry.event
  with_new_cells options.correct sheet so_far new

-- ---- all entries

-- the cells that all entries put, one entry after the other, or why the first is refused that is [own]
unfoldable pub with_entries : EntryOptions → Sheet → List NewCell → List HandEntry → Result (List NewCell) EntryFault
with_entries options sheet so_far [] = Ok so_far
with_entries options sheet so_far (entry ∷ rest) = do
  more ← with_entry options sheet so_far entry
  with_entries options sheet more rest

-- the cells of a player with some new ones in their places, the last one last
abbrev pub cells_with_new : List NewCell → ℕ → List Cell → List Cell
cells_with_new [] start cells = cells
cells_with_new (new ∷ rest) start cells = cells_with_new rest start (if new.slot.player == start then with_cell (new.slot.round - 1) new.cell cells else cells)

-- a player with some new cells; the cells end with the last that is not blank
abbrev pub player_with_new : List NewCell → Entry → Entry
player_with_new all entry = record entry { cells = without_last is_blank_cell (cells_with_new all entry.start entry.cells) }

-- a report with some new cells
abbrev pub with_new : List NewCell → Sheet → Sheet
with_new all sheet = record sheet { players = map (player_with_new all) sheet.players }

-- a player whose points field, if it is not blank, is the sum over so many rounds, where the pairing-allocated bye gives so many half points
abbrev pub player_resummed : ℕ → ℕ → Entry → Entry
player_resummed bye rounds entry = record entry { points = option_map (λ _. sum_by (half_points bye) (take rounds entry.cells)) entry.points }

-- a report in which each points field that is not blank is the sum over the rounds that were paired; where games have other points, it stays
-- as it is [own]
abbrev pub report_resummed : Sheet → Sheet
report_resummed sheet =
    if has_other_points sheet then sheet
    else record sheet { players = map (player_resummed sheet.bye (rounds_played sheet)) sheet.players }

-- a report, unless a rule on two players is broken in it
abbrev pub report_if : Result (Unit {0}) Fault → Sheet → Result Sheet EntryFault
report_if (Ok fits) sheet = Ok sheet
report_if (Err fault) sheet = Err (Refused fault)

-- a report whose cells answer each other, by the rules by which a report is read; its points fields are not compared [with entered]
abbrev pub report_if_cells_fit : Sheet → Result Sheet EntryFault
report_if_cells_fit sheet = report_if (all_cells_fit sheet sheet.players) sheet

-- the report that comes of some entries: the cells that they name, points that are summed, and all else as it was; or why they are refused
-- [own]
unfoldable pub entered : EntryOptions → List HandEntry → Sheet → Result Sheet EntryFault
entered options entries sheet = do
  all ← with_entries options sheet [] entries
  report_if_cells_fit (report_resummed (with_new all sheet))
