-- The cells of a game, as its two players have them.
use Rattle.std.specs.Prelude.{ℕ, Bool, true, false, not, ◌&&◌, ◌==◌, Option, Some, None}
use Rattle.trf16_report.specs.declared.cell.Colour.{Colour}
use Rattle.trf16_report.specs.declared.cell.Colour.TheVariants.{White, Black}
use Rattle.trf16_report.specs.declared.cell.Bye.{Bye as ByeKind}
use Rattle.trf16_report.specs.declared.cell.Bye.TheVariants.{Half, Full, Allocated, Zero}
use Rattle.trf16_report.specs.declared.cell.GameOutcome.{GameOutcome}
use Rattle.trf16_report.specs.declared.cell.GameOutcome.TheVariants.{Win, Draw, Loss}
use Rattle.trf16_report.specs.declared.cell.Cell.{Cell}
use Rattle.trf16_report.specs.declared.cell.Cell.TheVariants.{Blank, Bye, Game, Forfeit, Unfinished}
use Rattle.entries.specs.declared.entry.GameResult.{GameResult}
use Rattle.entries.specs.declared.entry.GameResult.TheVariants.{Played, Forfeited}
use Rattle.entries.specs.declared.entry.GameOf.{GameOf}

-- the outcome for the other player
abbrev pub other_outcome : GameOutcome → GameOutcome
other_outcome Win = Loss
other_outcome Draw = Draw
other_outcome Loss = Win

-- the result as the other player has it: 1 and 0, = and =, W and L, D and D, + and -; none where there is none [with entered]
abbrev pub other_side : Option GameResult → Option GameResult
other_side None = None
other_side (Some (Played rated got)) = Some (Played rated (other_outcome got))
other_side (Some (Forfeited won)) = Some (Forfeited (not won))

-- a game as the other player has it [with entered]
abbrev pub other_game : GameOf → GameOf
other_game game = record {
  slot = record { player = game.opponent; round = game.slot.round };
  opponent = game.slot.player;
  score = other_side game.score;
}

-- the cell of a game of a player who has a colour
abbrev pub cell_with : ℕ → Option GameResult → Colour → Cell
cell_with opponent None colour = Unfinished opponent colour
cell_with opponent (Some (Played rated got)) colour = Game opponent colour rated got
cell_with opponent (Some (Forfeited won)) colour = Forfeit opponent (Some colour) won

-- the same of one who has none: it must not have been played
abbrev pub cell_without : ℕ → Option GameResult → Option Cell
cell_without opponent (Some (Forfeited won)) = Some (Forfeit opponent None won)
cell_without opponent _ = None

-- the same of one who has a colour or none; there is none where a colour is wanted [with entered]
abbrev pub cell_of_game : ℕ → Option GameResult → Option Colour → Option Cell
cell_of_game opponent score None = cell_without opponent score
cell_of_game opponent score (Some colour) = Some (cell_with opponent score colour)

-- ---- whether a cell is another one

-- two colours are one
abbrev pub same_colour : Colour → Colour → Bool
same_colour White White = true
same_colour Black Black = true
same_colour _ _ = false

-- the same, or neither is there
abbrev pub same_colours : Option Colour → Option Colour → Bool
same_colours None None = true
same_colours (Some colour) (Some other) = same_colour colour other
same_colours _ _ = false

-- two byes are of one kind
abbrev pub same_bye : ByeKind → ByeKind → Bool
same_bye Half Half = true
same_bye Full Full = true
same_bye Allocated Allocated = true
same_bye Zero Zero = true
same_bye _ _ = false

-- two games ended in one way
abbrev pub same_outcome : GameOutcome → GameOutcome → Bool
same_outcome Win Win = true
same_outcome Draw Draw = true
same_outcome Loss Loss = true
same_outcome _ _ = false

-- both hold, or neither does
abbrev pub same_bool : Bool → Bool → Bool
same_bool true other = other
same_bool false other = not other

-- two cells say the same
abbrev pub same_cell : Cell → Cell → Bool
same_cell Blank Blank = true
same_cell (Bye bye) (Bye other) = same_bye bye other
same_cell (Game opponent colour rated got) (Game opponent' colour' rated' got') =
    (opponent == opponent') && (same_colour colour colour' && (same_bool rated rated' && same_outcome got got'))
same_cell (Forfeit opponent colour won) (Forfeit opponent' colour' won') = (opponent == opponent') && (same_colours colour colour' && same_bool won won')
same_cell (Unfinished opponent colour) (Unfinished opponent' colour') = (opponent == opponent') && same_colour colour colour'
same_cell _ _ = false
