-- What calls one after another spend of a budget.
use Rattle.std.proofs.Common.{◌≤◌, ◌+◌, ◌∙◌, refl, arith}
use Rattle.dutch_sequence.specs.Prelude.{Spends}
use Rattle.dutch_sequence.specs.declared.steps.Budget.{Budget}

-- no call has been made
pub spends-none : (budget : Budget) → Spends budget budget
spends-none budget = record { limit = refl; rises = omega arith }

-- one call after another
pub spends-more : {first second third : Budget} → Spends first second → Spends second third → Spends first third
spends-more one more = record { limit = more.limit ∙ one.limit; rises = omega (arith, one.rises, more.rises) }

-- one more step, where the limit was not reached
pub spends-step : {first second : Budget} {room : second.used + 1 ≤ second.limit} → Spends first second
    → Spends first (record { limit = second.limit; used = second.used + 1; within = room })
spends-step one = record { limit = one.limit; rises = omega (arith, one.rises) }
