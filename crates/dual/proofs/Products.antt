-- A product by parts.
use Rattle.std.proofs.Common.{◌≡◌, ◌<◌, ◌≤◌, ◌+◌, ◌*◌, ◌^◌, ℕ, arith, ap}

-- the carry of the lower part goes into the upper one; a part is below b
pub product : (b h l k c l1 c1 h1 o : ℕ) → l1 + c1 * b ≡ l * k + c → h1 + o * b ≡ h * k + c1 →
    h1 * b + l1 + o * (b * b) ≡ (h * b + l) * k + c
product b h l k c l1 c1 h1 o low high =
    let raised : (h1 + o * b) * b ≡ (h * k + c1) * b = ap (λ x. x * b) high in
    omega (arith, raised, low)

-- where nothing is over, the halves are those of the product
pub fits : (h l k l1 c1 h1 o s : ℕ) → h * 2 ^ 512 + l ≡ s → l1 + c1 * 2 ^ 512 ≡ l * k + 0 →
    h1 + o * 2 ^ 512 ≡ h * k + c1 → o ≡ 0 → h1 < 2 ^ 512 → l1 < 2 ^ 512 →
    (s * k < 2 ^ 1024) × (h1 * 2 ^ 512 + l1 ≡ s * k)
fits h l k l1 c1 h1 o s whole low high none upper lower =
    let value : h1 * 2 ^ 512 + l1 + o * 2 ^ 1024 ≡ (h * 2 ^ 512 + l) * k + 0 =
    product (2 ^ 512) h l k 0 l1 c1 h1 o low high in
    let named : (h * 2 ^ 512 + l) * k ≡ s * k = ap (λ n. n * k) whole in
    (omega (arith, value, named, none, upper, lower), omega (arith, value, named, none))

pub over : (h l k l1 c1 h1 o s : ℕ) → h * 2 ^ 512 + l ≡ s → l1 + c1 * 2 ^ 512 ≡ l * k + 0 →
    h1 + o * 2 ^ 512 ≡ h * k + c1 → ¬ (o ≡ 0) → ¬ (s * k < 2 ^ 1024)
over h l k l1 c1 h1 o s whole low high some below =
    let value : h1 * 2 ^ 512 + l1 + o * 2 ^ 1024 ≡ (h * 2 ^ 512 + l) * k + 0 =
    product (2 ^ 512) h l k 0 l1 c1 h1 o low high in
    let named : (h * 2 ^ 512 + l) * k ≡ s * k = ap (λ n. n * k) whole in
    let more : 1 ≤ o = omega (arith, some) in
    omega (arith, value, named, more, below)
