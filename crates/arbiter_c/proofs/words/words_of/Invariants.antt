use Rattle.std.proofs.Common.{map, length}
use Rattle.arbiter_c.proofs.WordLemmas.{HasRead}
use Rattle.arbiter_c.proofs.words.words_of.Given as goal

abbrev pub invariant-loop-rest : goal.invariant-loop-rest
invariant-loop-rest l = HasRead l.text l.rest (map (λ word. word.now) l.words.items)

abbrev pub decreases-loop-rest : goal.decreases-loop-rest
decreases-loop-rest l = length l.rest
