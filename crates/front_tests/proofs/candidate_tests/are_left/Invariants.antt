use Rattle.std.proofs.Common.{◌≡◌}
use Rattle.front_tests.proofs.candidate_tests.are_left.Given as goal

abbrev pub invariant-loop-turn : goal.invariant-loop-turn
invariant-loop-turn g l = record {
  frame : l.candidates.frame ≡ l.initial.candidates.frame;
  shape : l.candidates.shape ≡ l.initial.candidates.shape;
  rule : l.candidates.rule ≡ l.initial.candidates.rule;
}
