-- The items so far and those to come make all of them.
use Rattle.std.proofs.Common.{◌≡◌, ◌++◌, drop, flat_map}
use Rattle.stage_lines.specs.StageItems.{item_text}
use Rattle.stage_lines.proofs.item_lines.put_each_item.Given as goal

abbrev pub invariant-loop-item : goal.invariant-loop-item
invariant-loop-item l =
    l.text ++ flat_map (item_text l.telling l.stage) (drop l.item-index l.items) ≡ l.initial.text ++ flat_map (item_text l.telling l.stage) l.items
