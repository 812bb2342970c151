use Rattle.std.proofs.Common.{◌∙◌, [], refl}
use Rattle.dutch_sequence.specs.Prelude.{ahead, below, after}
use Rattle.dutch_sequence.proofs.TupleSearch.{tuples-at}
use Rattle.dutch_sequence.proofs.transposition.Transpositions.ended.Goals as goal

pub returns : goal.returns
unfolding ahead below after
returns g c =
    tuples-at (g.R.Rule.meets c.args.rule.now) _ [] _ [] _ [] _ _ 1 c.new.ensures c.new-2.ensures c.new-3.ensures c.new-4.ensures.path c.new-4.ensures.number ∙ refl
