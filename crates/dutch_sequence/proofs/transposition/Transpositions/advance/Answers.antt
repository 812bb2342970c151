use Rattle.std.proofs.Common.{◌<◌, length, refl, sym, subst}
use Rattle.std.specs.List.{AllByRecursion}
use Rattle.dutch_sequence.proofs.TupleSearch.{stands-within}
use Rattle.dutch_sequence.proofs.transposition.Transpositions.advance.Goals as goal

pub pick-requires-clause-within : goal.pick-requires-clause-within
pick-requires-clause-within g c =
    let own = c.self.inside in
    let in' = stands-within (g.R.Rule.meets own.rule.now) own.first.items own.first.items own.pool.items own.pool.items c.deref.result.now
    own.hint.items c.advance.new.descent.path refl refl c.deref.ensures.0 c.advance.ensures.stands in
    subst (AllByRecursion (λ place. place < length c.deref.result.now)) (sym c.as_slice.ensures) in'.0
