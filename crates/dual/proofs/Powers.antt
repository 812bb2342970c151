-- Powers of two by a part of their exponent.
use Rattle.std.proofs.Common.{◌≡◌, ◌<◌, ◌≤◌, ◌+◌, ◌-◌, ◌*◌, ◌%◌, ◌^◌, ℕ, arith, sym, ◌∙◌, ap}
use Rattle.std.proofs.lemmas.Nat.{pow-add}
use Rattle.std.proofs.Math.Pow.{pow-lt}

-- a power by a part of its exponent
pub raised : (part bit : ℕ) → part ≤ bit → 2 ^ (bit - part) * 2 ^ part ≡ 2 ^ bit
raised part bit least =
    let sum : bit - part + part ≡ bit = omega arith in
    sym (pow-add 2 (bit - part) part) ∙ ap (λ n. 2 ^ n) sum

pub power : (bit : ℕ) → 128 ≤ bit → bit < 256 → (1 * 2 ^ (bit - 128) % 2 ^ 128) * 2 ^ 128 + 0 ≡ 2 ^ bit
power bit least most =
    let rest : bit - 128 < 128 = omega arith in
    let small : 2 ^ (bit - 128) < 2 ^ 128 = pow-lt rest in
    let whole = raised 128 bit least in
    omega (arith, small, whole)
