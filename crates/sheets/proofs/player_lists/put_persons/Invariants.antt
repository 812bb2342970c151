-- The players so far and those to come make all of them.
use Rattle.std.proofs.Common.{◌≡◌, ◌++◌, drop}
use Rattle.markup.specs.Prelude.{node_text}
use Rattle.sheets.specs.PlayerLists.{player_rows}
use Rattle.sheets.proofs.player_lists.put_persons.Given as goal

abbrev pub invariant-loop-start : goal.invariant-loop-start
invariant-loop-start l =
    l.page ++ node_text (player_rows l.report (drop l.start-index l.starts)) ≡ l.initial.page ++ node_text (player_rows l.report l.starts)
