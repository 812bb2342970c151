use Rattle.std.proofs.Common.{◌≡◌, ◌++◌}
use Rattle.replies.specs.Prelude.{games_text}
use Rattle.replies.proofs.games.put_games.Given as goal

abbrev pub invariant-loop-round : goal.invariant-loop-round
invariant-loop-round l = l.text ≡ l.initial.text ++ games_text l.report l.start l.round
