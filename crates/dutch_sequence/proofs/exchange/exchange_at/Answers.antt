use Rattle.std.proofs.Common.{◌≡◌, ℕ, List, take, drop, ap, ◌∙◌}
use Rattle.dutch_sequence.specs.Prelude.{held_numbers, barred_numbers, ExchangeClass}
use Rattle.dutch_sequence.proofs.exchange.exchange_at.Goals as goal

-- two classes with the same lists and numbers are the same
same-class : (size difference : ℕ) (original original' others others' held held' barred barred' : List ℕ) → original ≡ original' → others ≡ others' → held ≡ held' → barred ≡ barred'
    → (let a : ExchangeClass = record { original = original; others = others; size = size; difference = difference; held = held; barred = barred } in
    let b : ExchangeClass = record { original = original'; others = others'; size = size; difference = difference; held = held'; barred = barred' } in
    a ≡ b)
same-class size difference original original' others others' held held' barred barred' same_original same_others same_held same_barred = cc

pub returns : goal.returns
returns c =
    let sides = c.args.sides.now in
    let state = c.args.state.now in
    let count : ℕ = c.put_held_and_barred-count.result in
    same-class state.size state.difference _ (take sides.k sides.pool.now) _ (drop sides.k sides.pool.now) _ (held_numbers sides.pool.now sides.k state.size state.descent.path) _ (barred_numbers sides.pool.now sides.k state.size state.descent.path)
    c.split_at-2.ensures.front c.split_at-2.ensures.back
    (c.split_at.ensures.front ∙ ap (take count) c.deref.ensures.0 ∙ c.put_held_and_barred-count.ensures.held ∙ ap (held_numbers sides.pool.now sides.k state.size) c.as_slice.ensures)
    (c.split_at.ensures.back ∙ ap (drop count) c.deref.ensures.0 ∙ c.put_held_and_barred-count.ensures.barred ∙ ap (barred_numbers sides.pool.now sides.k state.size) c.as_slice.ensures)
