-- What is left of a bound when a debt is taken away.
use Rattle.std.proofs.Common.{◌≡◌, ℕ, ◌+◌, ◌-◌, ◌≤◌, Option, Some, None, IfSome, arith}
use Rattle.std.specs.Option.{SomeIff}

-- a difference that is there and what was taken away are the whole again
pub back_by : (r : Option ℕ) (all less debt total : ℕ) → less ≡ debt → all ≡ total → SomeIff r (less ≤ all) (all - less)
    → IfSome r (λ n. n + debt ≡ total)
back_by None all less debt total owed same is = tt
back_by (Some n) all less debt total owed same is = omega (arith, owed, same, is.0, is.1)
