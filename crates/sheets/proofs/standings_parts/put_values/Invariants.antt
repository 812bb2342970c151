-- What there is so far and what is to come make all of it.
use Rattle.std.proofs.Common.{◌≡◌, ◌++◌, drop}
use Rattle.markup.specs.Prelude.{node_text}
use Rattle.sheets.specs.StandingsParts.{value_cells}
use Rattle.sheets.proofs.standings_parts.put_values.Given as goal

abbrev pub invariant-loop-i : goal.invariant-loop-i
invariant-loop-i l =
    l.page ++ node_text (value_cells (drop l.i l.keys) (drop l.i l.values)) ≡ l.initial.page ++ node_text (value_cells l.keys l.values)
