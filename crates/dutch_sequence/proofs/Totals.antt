-- Sums over places, step by step.
use Rattle.std.proofs.Common.{◌≡◌, ℕ, suc, ◌+◌, ◌-◌, ◌<◌, ◌∙◌, ap, arith}
use Rattle.dutch_sequence.specs.Prelude.{numbers_from, total}

pub total-step : (f : ℕ → ℕ) (place stop : ℕ) → place < stop → f place + total f (numbers_from (place + 1) (stop - (place + 1))) ≡ total f (numbers_from place (stop - place))
total-step f place stop h =
    ap (λ n. f place + total f (numbers_from n (stop - n))) (let e : place + 1 ≡ suc place = omega arith in e)
    ∙ ap (λ count. total f (numbers_from place count)) (let e : suc (stop - suc place) ≡ stop - place = omega arith in e)
