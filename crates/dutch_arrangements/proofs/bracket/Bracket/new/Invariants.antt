use Rattle.std.proofs.Common.{◌≡◌, take}
use Rattle.dutch_arrangements.proofs.bracket.Bracket.new.Given as goal

abbrev pub invariant-loop-score : goal.invariant-loop-score
invariant-loop-score l = l.own.items ≡ take l.score-index l.scores
