-- The rounds so far and those to come make all of them.
use Rattle.std.proofs.Common.{◌≡◌, ◌++◌}
use Rattle.markup.specs.Prelude.{node_text}
use Rattle.sheets.specs.Pages.{round_item}
use Rattle.sheets.specs.Parts.{each_down}
use Rattle.sheets.proofs.page.put_round_items.Given as goal

abbrev pub invariant-loop-left : goal.invariant-loop-left
invariant-loop-left l = l.page ++ node_text (each_down round_item l.left) ≡ l.initial.page ++ node_text (each_down round_item l.initial.left)

abbrev pub decreases-loop-left : goal.decreases-loop-left
decreases-loop-left l = l.left
