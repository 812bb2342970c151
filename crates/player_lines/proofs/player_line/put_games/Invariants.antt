use Rattle.std.proofs.Common.{◌≡◌, ◌++◌}
use Rattle.player_lines.specs.PlayerTexts.{games_text}
use Rattle.player_lines.proofs.player_line.put_games.Given as goal

abbrev pub invariant-loop-round : goal.invariant-loop-round
invariant-loop-round l = l.text ≡ l.initial.text ++ games_text l.telling l.seat l.round
