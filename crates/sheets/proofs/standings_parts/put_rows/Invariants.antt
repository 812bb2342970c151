-- What there is so far and what is to come make all of it.
use Rattle.std.proofs.Common.{◌≡◌, ◌+◌, ◌++◌, drop}
use Rattle.markup.specs.Prelude.{node_text}
use Rattle.sheets.specs.Parts.{each_from}
use Rattle.sheets.specs.StandingsParts.{standings_row, standings_rows}
use Rattle.sheets.proofs.standings_parts.put_rows.Given as goal

abbrev pub invariant-loop-i : goal.invariant-loop-i
invariant-loop-i l =
    l.page ++ node_text (each_from (standings_row l.report l.keys) (l.i + 1) (drop l.i l.rows))
    ≡ l.initial.page ++ node_text (standings_rows l.report l.keys l.rows)
