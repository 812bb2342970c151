-- What is said of the next bracket has no part in a weight without it.
use Rattle.std.proofs.Common.{[], ◌^◌, ◌∙◌, ap}
use Rattle.dutch_bracket.specs.Prelude.{no_value, quality_with, next_in, quality_in}
use Rattle.dutch_weighing.specs.Prelude.{weight_with}
use Rattle.dutch_weighing.proofs.ScaleLemmas.{some_of_same}
use Rattle.dutch_weighing.proofs.WeighingLemmas.{next_is_pruned}
use Rattle.dutch_weighing.proofs.weighing.weigh.Goals as goal

pub returns : goal.returns
returns c =
    let scale = c.args.scale.now in
    let facts = c.args.field.now in
    let seated = c.args.seated.now in
    some_of_same c.weigh_alone.result (2 ^ 1024) (weight_with scale 0 [] (quality_in c.fill_seated.new.quality))
    (weight_with scale 0 [] (quality_with facts seated no_value))
    (ap (weight_with scale 0 []) c.fill_seated.ensures ∙ next_is_pruned scale facts seated (next_in (quality_in c.args.quality.now))) c.weigh_alone.ensures
