-- The product by halves, and what is over.
use Rattle.dual.proofs.Products.{fits, over}
use Rattle.dual.proofs.wide.Wide.times.Goals as goal

pub returns-then-over-eq0 : goal.returns-then-over-eq0
returns-then-over-eq0 c =
    let low = c.carrying_mul-low in
    let high = c.carrying_mul-high in
    rw (← c.from-count.ensures) (fits _ _ _ _ _ _ _ _ c.self.view_is low.ensures.value high.ensures.value
    c.if-over-eq0.true high.ensures.small low.ensures.small)

pub returns-else-over-eq0 : goal.returns-else-over-eq0
returns-else-over-eq0 c =
    rw (← c.from-count.ensures) (over _ _ _ _ _ _ _ _ c.self.view_is c.carrying_mul-low.ensures.value
    c.carrying_mul-high.ensures.value c.if-over-eq0.false)
