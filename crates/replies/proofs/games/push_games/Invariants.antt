use Rattle.std.proofs.Common.{◌≡◌, ◌++◌}
use Rattle.replies.specs.Prelude.{games_labels}
use Rattle.replies.proofs.games.push_games.Given as goal

abbrev pub invariant-loop-round : goal.invariant-loop-round
invariant-loop-round l = l.line ≡ l.initial.line ++ games_labels l.report l.start l.round
