-- The players so far and those to come make all of them.
use Rattle.std.proofs.Common.{◌≡◌, ◌++◌, drop}
use Rattle.markup.specs.Prelude.{node_text}
use Rattle.sheets.specs.NameLists.{name_rows}
use Rattle.sheets.proofs.name_lists.put_names.Given as goal

abbrev pub invariant-loop-player : goal.invariant-loop-player
invariant-loop-player l =
    l.page ++ node_text (name_rows l.paired.report.now l.paired.round l.paired.boards.now (drop l.player-index l.players))
    ≡ l.initial.page ++ node_text (name_rows l.paired.report.now l.paired.round l.paired.boards.now l.players)
