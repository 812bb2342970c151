-- The cells that entries put into a report, one after the other.
use Rattle.std.specs.Prelude.{Bool, ◌&&◌, ◌==◌, if◌then◌else◌, List, [], ◌∷◌}
use Rattle.std.specs.List.{list_any}
use Rattle.trf16_report.specs.Prelude.{Sheet, cell_in}
use Rattle.trf16_report.specs.declared.cell.Cell.{Cell}
use Rattle.entries.specs.declared.entry.Slot.{Slot}
use Rattle.entries.specs.declared.entry.NewCell.{NewCell}

-- the cell of a slot in a report [with entered]
abbrev pub cell_in_slot : Sheet → Slot → Cell
cell_in_slot sheet slot = cell_in sheet slot.player slot.round

-- two slots are one
abbrev pub same_slot : Slot → Slot → Bool
same_slot slot other = (slot.player == other.player) && (slot.round == other.round)

-- an entry so far names the player in the round [with entered]
abbrev pub is_named : List NewCell → Slot → Bool
is_named so_far slot = list_any (λ new. same_slot new.slot slot && new.named) so_far

-- an entry so far has put the cell [with entered]
abbrev pub is_put : List NewCell → Slot → Bool
is_put so_far slot = list_any (λ new. same_slot new.slot slot) so_far

-- what stands in a slot once some cells are put, one after the other
abbrev pub cell_after : List NewCell → Slot → Cell → Cell
cell_after [] slot cell = cell
cell_after (new ∷ rest) slot cell = cell_after rest slot (if same_slot new.slot slot then new.cell else cell)

-- what stands in a slot with the entries so far [with entered]
abbrev pub cell_now : Sheet → List NewCell → Slot → Cell
cell_now sheet so_far slot = cell_after so_far slot (cell_in_slot sheet slot)
