-- The floors are those of the pass.
use Rattle.dutch_bracket.specs.Prelude.{quality_in}
use Rattle.dutch_search.proofs.FloorsOfPass.{none_beats}
use Rattle.dutch_search.specs.Prelude.{pass_of}
use Rattle.dutch_search.proofs.skipper.Skipper.fill_floor.Goals as goal

pub returns-clause-floor : goal.returns-clause-floor
returns-clause-floor c = λ known.
    let skipper = c.args.self.now in
    none_beats (pass_of skipper).shaped skipper.counts.now skipper.basis c.args.asked.now.prefix.now (quality_in c.floor.new.room.quality) (c.floor.ensures.floor known)
