use Rattle.std.proofs.Common.{length, ◌-◌, ◌<◌, subst, arith}
use Rattle.std.specs.List.{AllByRecursion}
use Rattle.dutch_sequence.specs.Prelude.{within_reach, beyond_reach}
use Rattle.dutch_sequence.proofs.HalfWalks.{Walked-halves, take_short}
use Rattle.dutch_sequence.proofs.stage.range_of.Goals as goal

pub range_out-requires-clause-walked : goal.range_out-requires-clause-walked
range_out-requires-clause-walked c =
    let s = c.args.stage.now in
    subst (AllByRecursion (λ place. place < s.k)) (take_short s.size c.args.path.now (omega arith))
    (Walked-halves s.size s.k (length s.pool.now - s.k) (within_reach s.pool.now s.k s.size s.difference) (beyond_reach s.pool.now s.k s.size s.difference) c.args.path.now c.requires.opened.1).0

pub range_in-requires-clause-walked_out : goal.range_in-requires-clause-walked_out
range_in-requires-clause-walked_out c =
    let s = c.args.stage.now in
    (Walked-halves s.size s.k (length s.pool.now - s.k) (within_reach s.pool.now s.k s.size s.difference) (beyond_reach s.pool.now s.k s.size s.difference) c.args.path.now c.requires.opened.1).0

pub range_in-requires-clause-walked_in : goal.range_in-requires-clause-walked_in
range_in-requires-clause-walked_in c =
    let s = c.args.stage.now in
    (Walked-halves s.size s.k (length s.pool.now - s.k) (within_reach s.pool.now s.k s.size s.difference) (beyond_reach s.pool.now s.k s.size s.difference) c.args.path.now c.requires.opened.1).1
