use Rattle.std.proofs.Common.{◌<◌, ◌-◌, ◌∙◌, ap, sym, subst, length, drop, []}
use Rattle.std.specs.List.{AllByRecursion}
use Rattle.dutch_sequence.specs.Prelude.{exchange_plan, within_reach, beyond_reach}
use Rattle.dutch_sequence.proofs.HalfWalks.{Walked-halves}
use Rattle.dutch_sequence.proofs.Hinted.{Walked-hinted}
use Rattle.dutch_sequence.proofs.exchange.put_set.Goals as goal

pub put_moved_in-requires-clause-within : goal.put_moved_in-requires-clause-within
put_moved_in-requires-clause-within c =
    let pool = c.args.sides.now.pool.now in
    let k = c.args.sides.now.k in
    let p = c.args.state.now in
    subst (AllByRecursion (λ place. place < length pool - k)) (sym (c.split_at.ensures.back ∙ ap (drop p.size) c.as_slice.ensures))
    (Walked-halves p.size k (length pool - k) (within_reach pool k p.size p.difference) (beyond_reach pool k p.size p.difference) p.descent.path (Walked-hinted p.hint.items (exchange_plan pool k p.size p.difference) [] p.descent.path c.requires.standing.2.1)).1
