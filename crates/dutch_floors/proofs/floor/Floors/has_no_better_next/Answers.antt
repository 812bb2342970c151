-- What is awaited behind a beginning holds of each candidate.
use Rattle.dutch_bracket.specs.Prelude.{next_in, quality_in}
use Rattle.dutch_floors.proofs.FloorOfBeginning.{none_has_better_next}
use Rattle.dutch_floors.proofs.floor.Floors.has_no_better_next.Goals as goal

pub returns : goal.returns
returns c = λ yes.
    let none = c.awaits_no_better.ensures.none yes in
    none_has_better_next c.args.self.now c.args.prefix.now (next_in (quality_in c.args.quality.now)) c.awaits_no_better.ensures.of c.awaits_no_better.ensures.outlook
    none.0 none.1
