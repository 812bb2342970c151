-- Entries that say what stands in a report already.
use Rattle.std.specs.Prelude.{◌≡◌, ◌⊎◌, ℕ, Bool, true, false, ◌==◌, List, Some, Ok}
use Rattle.std.specs.List.{list_any}
use Rattle.trf16_report.specs.Prelude.{Sheet, opponent_in_cell}
use Rattle.entries.specs.Prelude.{cell_in_slot, cell_by_colour, other_game, round_of, same_slot}
use Rattle.entries.specs.declared.entry.EntryOptions.{EntryOptions}
use Rattle.entries.specs.declared.entry.Event.TheVariants.{Scores}
use Rattle.entries.specs.declared.entry.GameOf.{GameOf}
use Rattle.entries.specs.declared.entry.GameResult.{GameResult}
use Rattle.entries.specs.declared.entry.HandEntry.{HandEntry}
use Rattle.entries.specs.declared.entry.Slot.{Slot}

-- the first player whom an entry names, and its round [with SaysWhatStands]
abbrev pub slot_of : EntryOptions → Sheet → HandEntry → Slot
slot_of options sheet entry = record { player = entry.player; round = round_of options.round sheet entry.event }

-- one of some entries names this player first, in this round [with SaysWhatStands]
abbrev pub has_entry : EntryOptions → Sheet → List HandEntry → Slot → Bool
has_entry options sheet entries slot = list_any (λ entry. same_slot (slot_of options sheet entry) slot) entries

-- the cell of a game's player, with the colour that it says, is that of the game [with SaysWhatStands]
abbrev pub Stands : Sheet → GameOf → Type 0
Stands sheet game = cell_by_colour game (cell_in_slot sheet game.slot) ≡ Ok (cell_in_slot sheet game.slot)

-- the opponent is somebody else, whose cell names the player, and one of some entries is the opponent's own [with SaysWhatStands]
pub record HasOwnEntry (options : EntryOptions) (sheet : Sheet) (entries : List HandEntry) (game : GameOf) : Type 0 where
  pub another : (game.opponent == game.slot.player) ≡ false
  pub names : opponent_in_cell (cell_in_slot sheet (other_game game).slot) ≡ Some game.slot.player
  pub comes : has_entry options sheet entries (other_game game).slot ≡ true

-- an entry says a result that stands in the report: the cell of the player is that of a game with this result; and the cell of the opponent
-- is that of the same game, or one of all the entries is the opponent's own [own]
pub record SaysWhatStands (options : EntryOptions) (sheet : Sheet) (entries : List HandEntry) (entry : HandEntry) : Type 0 where
  pub score : GameResult
  pub opponent : ℕ
  pub event : entry.event ≡ Scores score
  pub mine : Stands sheet (record { slot = slot_of options sheet entry; opponent = opponent; score = Some score })
  pub theirs : Stands sheet (other_game (record { slot = slot_of options sheet entry; opponent = opponent; score = Some score }))
      ⊎ HasOwnEntry options sheet entries (record { slot = slot_of options sheet entry; opponent = opponent; score = Some score })
