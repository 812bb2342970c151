-- The product by parts.
use Rattle.std.proofs.Common.{◌^◌}
use Rattle.dual.proofs.Products.{product}
use Rattle.dual.proofs.quarter.Quarter.carrying_mul.Goals as goal

pub returns-clause-value : goal.returns-clause-value
returns-clause-value c =
    rw (← c.self.view_is) (product (2 ^ 128) _ _ _ _ _ _ _ _ c.carrying_mul-low.ensures c.carrying_mul-high.ensures)
