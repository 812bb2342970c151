-- What there is so far and what is to come make all of it.
use Rattle.std.proofs.Common.{◌≡◌, ◌++◌}
use Rattle.markup.specs.Prelude.{node_text}
use Rattle.sheets.specs.Parts.{each_up}
use Rattle.sheets.specs.StandingsParts.{game_cell}
use Rattle.sheets.proofs.standings_parts.put_games.Given as goal

abbrev pub invariant-loop-round : goal.invariant-loop-round
invariant-loop-round l = l.page ≡ l.initial.page ++ node_text (each_up (game_cell l.report l.start) l.round)
