use Rattle.std.proofs.Common.{◌<◌, sym, subst, length, []}
use Rattle.std.specs.List.{AllByRecursion}
use Rattle.dutch_sequence.specs.Prelude.{limbo_plan}
use Rattle.dutch_sequence.proofs.HalfWalks.{half_stop-one}
use Rattle.dutch_sequence.proofs.Moves.{Walked-below}
use Rattle.dutch_sequence.proofs.limbo.RankedTreePLACES.admits.Goals as goal

pub place_mirrors-requires-clause-within : goal.place_mirrors-requires-clause-within
place_mirrors-requires-clause-within c =
    subst (AllByRecursion (λ place. place < length c.args.self.now.scores.now)) (sym c.as_slice-path.ensures)
    (Walked-below (limbo_plan c.args.self.now.scores.now c.args.self.now.k) (length c.args.self.now.scores.now)
    (half_stop-one c.args.self.now.k (length c.args.self.now.scores.now)) [] c.args.path.now c.requires.opened.1)
