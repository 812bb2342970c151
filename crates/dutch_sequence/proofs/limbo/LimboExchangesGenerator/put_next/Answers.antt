use Rattle.std.proofs.Common.{◌<◌, ◌-◌, sym, subst, arith, length, [], drop}
use Rattle.std.specs.List.{AllByRecursion}
use Rattle.dutch_sequence.specs.declared.numbers.TheConstants.{LIMIT}
use Rattle.dutch_sequence.specs.Prelude.{limbo_plan}
use Rattle.dutch_sequence.proofs.HalfWalks.{half_stop-one}
use Rattle.dutch_sequence.proofs.Moves.{Walked-below, AllByRecursion-take, AllByRecursion-drop}
use Rattle.dutch_sequence.proofs.limbo.LimboExchangesGenerator.put_next.Goals as goal

pub put_numbers-requires-clause-within : goal.put_numbers-requires-clause-within
put_numbers-requires-clause-within c =
    let k = c.self.inside.k in
    let scores = c.deref.result.now in
    AllByRecursion-take (λ place. place < LIMIT) (length c.as_slice.result.now - k) (drop k c.as_slice.result.now)
    (AllByRecursion-drop (λ place. place < LIMIT) k c.as_slice.result.now
    (subst (AllByRecursion (λ place. place < LIMIT)) (sym c.as_slice.ensures)
    (Walked-below (limbo_plan scores k) LIMIT
    (λ path. omega (arith, half_stop-one k (length scores) path, c.deref.ensures.1)) [] c.climb_on.new.descent.path c.climb_on.ensures.stands.1)))
