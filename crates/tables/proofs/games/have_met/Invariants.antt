use Rattle.std.proofs.Common.{◌≡◌}
use Rattle.std.specs.List.{list_any}
use Rattle.trf16_report.specs.Prelude.{cell_in}
use Rattle.tables.specs.Prelude.{is_game_with, have_met}
use Rattle.tables.proofs.RoundLemmas.{rounds_from}
use Rattle.tables.proofs.games.have_met.Given as goal

abbrev pub invariant-loop-before : goal.invariant-loop-before
invariant-loop-before l = list_any (λ round. is_game_with l.b (cell_in l.report l.a round)) (rounds_from l.before l.rounds) ≡ have_met l.report l.a l.b
