-- A candidate of the bracket has as many in S1 as in S2, and as many in S1R as in S2R.
use Rattle.std.proofs.Common.{sym, subst}
use Rattle.dutch_bracket.specs.Prelude.{IsOfBracket}
use Rattle.dutch_bracket.proofs.FlatBrackets.{candidate_of}
use Rattle.dutch_passes.proofs.remembered.LookAhead.fill_quality.Goals as goal

pub fill_quality-requires : goal.fill_quality-requires
fill_quality-requires c =
    let of_bracket : IsOfBracket c.self.inside.field.now c.self.inside.reached.now c.args.candidate.now =
    subst (λ r. IsOfBracket r.facts r.reached c.args.candidate.now) (sym c.self.view_is) c.requires.candidate in
    candidate_of c.self.inside.field.now c.self.inside.reached.now of_bracket.lists.0 c.args.candidate.now c.self.invariant.bracket of_bracket.lists.1 of_bracket.down
