use Rattle.std.proofs.Common.{map, ap, ◌∙◌, subst, arith}
use Rattle.std.proofs.lemmas.List.{map-append}
use Rattle.std.specs.List.{AllByRecursion}
use Rattle.dutch_sequence.specs.Prelude.{GoesOn, IsPast, Passes, TuplesAhead, hits, ahead, hinted, transposition_plan, numbers_at}
use Rattle.dutch_sequence.proofs.Skipping.{passes-map, all-map}
use Rattle.dutch_sequence.proofs.TupleSearch.{past-apart}
use Rattle.dutch_sequence.proofs.transposition.Transpositions.leave.Goals as goal

pub returns-clause-passes : goal.returns-clause-passes
returns-clause-passes g c =
    let own = c.self.inside in
    let plan = hinted own.hint.items (transposition_plan (g.R.Rule.meets own.rule.now) own.first.items own.pool.items) in
    let tuples = numbers_at own.pool.items in
    let left = c.leave.new.descent in
    subst (λ (v : TuplesAhead). Passes (GoesOn v.beginning) v.coming (map tuples (hits (ahead plan left.path left.number)))) c.self.view_is
    (passes-map (GoesOn own.descent.path) (GoesOn (tuples own.descent.path)) tuples _ _
    (λ path on. record { rest = tuples on.rest; is = ap tuples on.is ∙ map-append _ own.descent.path on.rest }) c.leave.ensures.passes)

pub returns-clause-gone : goal.returns-clause-gone
returns-clause-gone g c =
    let own = c.self.inside in
    let plan = hinted own.hint.items (transposition_plan (g.R.Rule.meets own.rule.now) own.first.items own.pool.items) in
    let left = c.leave.new.descent in
    let tuples = numbers_at own.pool.items in
    subst (λ (v : TuplesAhead). AllByRecursion (λ list. GoesOn v.beginning list → ⊥) (map tuples (hits (ahead plan left.path left.number)))) c.self.view_is
    (all-map (IsPast plan own.descent.path) (λ list. GoesOn (tuples own.descent.path) list → ⊥) tuples (hits (ahead plan left.path left.number))
    (past-apart plan own.pool.items c.self.invariant.2 (λ path. omega arith) own.descent.path) c.leave.ensures.past)
