use Rattle.std.proofs.Common.{◌≡◌, ◌+◌, drop}
use Rattle.ranks.specs.Prelude.{place_in}
use Rattle.ranks.proofs.placing.place_in.Given as goal

abbrev pub invariant-loop-i : goal.invariant-loop-i
invariant-loop-i l = place_in (drop l.i l.rows) l.start + l.i ≡ place_in l.rows l.start
