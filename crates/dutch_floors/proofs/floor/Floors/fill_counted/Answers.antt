-- What is filled in is the floor.
use Rattle.std.proofs.Common.{◌≡◌, ◌∙◌, ap, filter}
use Rattle.dutch_bracket.specs.Prelude.{all_pairs, is_uneven, quality_in, with_floats, Quality}
use Rattle.dutch_floors.specs.Behind.{Basis}
use Rattle.dutch_floors.proofs.FloorLemmas.{floor_filled}
use Rattle.dutch_floors.proofs.floor.Floors.fill_counted.Goals as goal

pub returns : goal.returns
returns c = λ more are.
    let basis = c.args.self.now in
    let lists = c.args.lists.now in
    let q : Quality = quality_in c.args.room.now.quality in
    let facts : c.field.result.now ≡ basis.facts = c.field.ensures ∙ ap (λ (b : Basis). b.facts) c.self.view_is in
    let pairs : c.fill_uneven.new.seated.pairs ≡ filter (is_uneven basis.facts) (all_pairs basis.reached.seats lists) =
    c.fill_uneven.ensures.pairs ∙ ap (λ (b : Basis). filter (is_uneven b.facts) (all_pairs b.reached.seats lists)) c.self.view_is in
    c.fill_floats.ensures
    ∙ ap (λ fs. with_floats fs c.fill_uneven.new.seated (record q {
      wide_differences = c.args.sums.wide;
      third_colours = c.args.sums.third;
      missed_preferences = c.args.sums.missed;
      missed_strong = c.args.sums.strong;
    })) facts
    ∙ floor_filled basis more lists c.args.sums are q c.fill_uneven.new.seated pairs c.fill_uneven.ensures.none
