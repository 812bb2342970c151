-- The product by quarters.
use Rattle.std.proofs.Common.{◌^◌}
use Rattle.dual.proofs.Products.{product}
use Rattle.dual.proofs.half.Half.carrying_mul.Goals as goal

pub returns-clause-value : goal.returns-clause-value
returns-clause-value c =
    rw (← c.self.view_is) (product (2 ^ 256) _ _ _ _ _ _ _ _ c.carrying_mul-low.ensures.value c.carrying_mul-high.ensures.value)
