-- The floors are those of the pass.
use Rattle.dutch_bracket.specs.Prelude.{next_in, quality_in}
use Rattle.dutch_search.proofs.FloorsOfPass.{none_has_better_next}
use Rattle.dutch_search.specs.Prelude.{pass_of}
use Rattle.dutch_search.proofs.skipper.Skipper.has_no_better_next.Goals as goal

pub returns : goal.returns
returns c = λ known.
    let skipper = c.args.self.now in
    none_has_better_next (pass_of skipper).shaped skipper.counts.now skipper.basis c.args.prefix.now (next_in (quality_in c.args.quality.now)) (c.has_no_better_next.ensures known)
