-- One item more differs, or is passed.
use Rattle.std.proofs.Common.{◌<◌, length, ap, sym, ◌∙◌, arith}
use Rattle.std.specs.Ordering.{is_ne}
use Rattle.dutch_bracket.specs.Prelude.{all_items, quality_in}
use Rattle.dutch_bracket.proofs.ItemOrder.{differs_here, differs_later}
use Rattle.dutch_bracket.proofs.quality.Quality.first_difference.Goals as goal

pub returns-then-is_ne : goal.returns-then-is_ne
returns-then-is_ne c =
    let i = c.loop-item.item-index in
    let inside : i < length all_items = omega (arith, c.loop-item-test.true) in
    sym (differs_here (quality_in c.args.self.now) (quality_in c.args.other.now) _ i _ inside (ap is_ne (sym c.compared_in.ensures) ∙ sym c.if-is_ne.ensures))
    ∙ c.loop-item.invariant

pub loop-item-preserved : goal.loop-item-preserved
loop-item-preserved c =
    let i = c.loop-item.item-index in
    let inside : i < length all_items = omega (arith, c.loop-item-test.true) in
    sym (differs_later (quality_in c.args.self.now) (quality_in c.args.other.now) _ i _ inside (ap is_ne (sym c.compared_in.ensures) ∙ sym c.if-is_ne.ensures))
    ∙ c.loop-item.invariant
