-- The players so far and those to come make all of them.
use Rattle.std.proofs.Common.{◌≡◌, ◌++◌, drop}
use Rattle.markup.specs.Prelude.{node_text}
use Rattle.sheets.specs.Parts.{each}
use Rattle.sheets.specs.Rounds.{absent_row}
use Rattle.sheets.proofs.rounds.put_absent_rows.Given as goal

abbrev pub invariant-loop-start : goal.invariant-loop-start
invariant-loop-start l =
    l.page ++ node_text (each (absent_row l.report l.round) (drop l.start-index l.starts))
    ≡ l.initial.page ++ node_text (each (absent_row l.report l.round) l.starts)
