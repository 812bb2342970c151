use Rattle.std.proofs.Common.{◌≡◌, ◌-◌}
use Rattle.dutch_sequence.specs.Prelude.{leader}
use Rattle.dutch_sequence.proofs.limbo.leader.Given as goal

abbrev pub invariant-loop-other : goal.invariant-loop-other
invariant-loop-other l = leader l.scores l.place l.first (l.place - l.first) ≡ leader l.scores l.place l.other (l.place - l.other)
