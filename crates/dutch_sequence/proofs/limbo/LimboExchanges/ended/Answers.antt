use Rattle.std.proofs.Common.{◌∙◌, [], refl}
use Rattle.dutch_sequence.specs.Prelude.{ahead, below, after}
use Rattle.dutch_sequence.proofs.LimboSets.{limbo-at}
use Rattle.dutch_sequence.proofs.limbo.LimboExchanges.ended.Goals as goal

pub returns : goal.returns
unfolding ahead below after
returns c = limbo-at _ [] 0 _ [] _ _ 1 c.new.ensures c.new-2.ensures c.new-3.ensures.path c.new-3.ensures.number ∙ refl
