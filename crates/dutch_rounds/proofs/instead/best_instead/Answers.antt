-- The bracket that was read has room for the stage's shape.
use Rattle.dutch_rounds.proofs.InsteadLemmas.{read_fits}
use Rattle.dutch_rounds.proofs.instead.best_instead.Goals as goal

pub invariant_of-shaped : goal.invariant_of-shaped
invariant_of-shaped g c = record { fits = read_fits c.args.field.now c.args.stage.now {k = c.new-context.result} (cc) c.shape.ensures c.requires }
