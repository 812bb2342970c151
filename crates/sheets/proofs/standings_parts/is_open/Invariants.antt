-- What there is so far and what is to come make all of it.
use Rattle.std.proofs.Common.{◌≡◌, map}
use Rattle.std.specs.List.{list_any}
use Rattle.trf16_report.specs.Prelude.{cell_at, entry_of, is_unfinished}
use Rattle.sheets.specs.StandingsParts.{is_open}
use Rattle.sheets.proofs.standings_parts.is_open.Given as goal

abbrev pub invariant-loop-player : goal.invariant-loop-player
invariant-loop-player l =
    list_any (λ entry. is_unfinished (cell_at entry.cells l.round)) (map entry_of l.player-iterator) ≡ is_open l.report l.round
