use Rattle.std.proofs.Common.{◌∙◌, sum_by, sym, ap}
use Rattle.trf16_report.specs.declared.cell.Colour.TheVariants.{White, Black}
use Rattle.dutch_bracket.specs.Prelude.{in_both}
use Rattle.dutch_floors.specs.FloorOf.{wanting}
use Rattle.dutch_floors.proofs.known_pairs.PairSums.wants.Goals as goal

pub returns-then-firm : goal.returns-then-firm
returns-then-firm c = λ facts pairs are. (
  c.from.ensures ∙ are.firm_white ∙ ap (λ firm. sum_by (in_both (wanting firm facts White)) pairs) (sym c.if-firm.true),
  c.from-then-firm.ensures ∙ are.firm_black ∙ ap (λ firm. sum_by (in_both (wanting firm facts Black)) pairs) (sym c.if-firm.true),
)

pub returns-else-firm : goal.returns-else-firm
returns-else-firm c = λ facts pairs are. (
  c.from-else-firm.ensures ∙ are.white ∙ ap (λ firm. sum_by (in_both (wanting firm facts White)) pairs) (sym c.if-firm.false),
  c.from-else-firm-2.ensures ∙ are.black ∙ ap (λ firm. sum_by (in_both (wanting firm facts Black)) pairs) (sym c.if-firm.false),
)
