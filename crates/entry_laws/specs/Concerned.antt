-- Which cells entries concern, and what they leave as it is.
use Rattle.std.specs.Prelude.{◌≡◌, ℕ, Bool, false, ◌&&◌, ◌||◌, ◌==◌, List, [], map, Option, None}
use Rattle.std.specs.List.{list_any}
use Rattle.std.specs.Option.{option_map_or}
use Rattle.trf16_report.specs.Prelude.{Entry, Sheet, cell_in, opponent_in_cell}
use Rattle.entries.specs.Prelude.{round_of, second_of}
use Rattle.entries.specs.declared.entry.EntryOptions.{EntryOptions}
use Rattle.entries.specs.declared.entry.HandEntry.{HandEntry}
use Rattle.entries.specs.declared.entry.Slot.{Slot}

-- somebody who may be there is this player
abbrev pub is_player : ℕ → Option ℕ → Bool
is_player player who = option_map_or (λ other. other == player) who false

-- an entry concerns the cell of a player in a round: it is one of that round, and names the player, or names whom the player meets in the
-- report [with concerns]
abbrev pub concerns_slot : EntryOptions → Sheet → Slot → HandEntry → Bool
concerns_slot options sheet slot entry =
    (round_of options.round sheet entry.event == slot.round)
    && ((entry.player == slot.player) || (is_player slot.player (second_of entry.event) || is_player slot.player (opponent_in_cell (cell_in sheet entry.player slot.round))))

-- one of some entries concerns the cell of a player in a round [own]
abbrev pub concerns : EntryOptions → Sheet → List HandEntry → Slot → Bool
concerns options sheet entries slot = list_any (concerns_slot options sheet slot) entries

-- two entries are for different games: no cell of a player in a round is one that both concern [own]
abbrev pub AreApart : EntryOptions → Sheet → HandEntry → HandEntry → Type 0
AreApart options sheet a b = (slot : Slot) → (concerns_slot options sheet slot a && concerns_slot options sheet slot b) ≡ false

-- a player without the points field and the cells
abbrev pub front_of : Entry → Entry
front_of entry = record entry { points = None; cells = [] }

-- but for the points fields and the cells two reports are one: the same lines are carried, and the players have the same start ranks, lines
-- and carried columns, in the same order [own]
pub record KeepsRest (old new : Sheet) : Type 0 where
  pub utf8 : new.utf8 ≡ old.utf8
  pub carried : new.carried ≡ old.carried
  pub fronts : map front_of new.players ≡ map front_of old.players
  pub total : new.total ≡ old.total
  pub initial : new.initial ≡ old.initial
  pub bye : new.bye ≡ old.bye
