-- What holds of all members of two lists holds of both together, and of those that a test finds; and what holds at each place of all members.
use Rattle.std.proofs.Common.{ℕ, suc, ◌<◌, List, [], ◌∷◌, length, get_or, arith}
use Rattle.std.specs.List.{AllByRecursion}
pub use Rattle.dutch_sequence.proofs.Skipping.{all-append as all_join, all-filter as all_filter}

pub all_at : (P : ℕ → Type 0) (xs : List ℕ) → ((i : ℕ) → i < length xs → P (get_or xs i 0)) → AllByRecursion P xs
all_at P [] each = tt
all_at P (x ∷ xs) each = (each 0 (omega arith), all_at P xs (λ i lt. each (suc i) (omega (arith, lt))))
