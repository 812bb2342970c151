-- The value that a look tells for nobody is that of all candidates.
use Rattle.std.proofs.Common.{sym, ◌∙◌}
use Rattle.dutch_passes.proofs.NextOfAll.{nobody_left}
use Rattle.dutch_passes.proofs.next_of_all.value_for_nobody.Goals as goal

pub returns-in-Value-clause-answer : goal.returns-in-Value-clause-answer
returns-in-Value-clause-answer g c =
    λ e. nobody_left g.args.shaped.now g.reached-reached.ensures.sound g.requires.all g.args.look.now c.value g.requires.look
    (g.boxed.ensures c e ∙ sym g.in-Value.ensures.answer)
