-- Texts that are put one behind the other.
use Rattle.std.proofs.Common.{◌≡◌, ◌∙◌, ◌++◌, ℕ, List, Result, Ok, Err, OnOk, ap, append_assoc}

-- a piece that is put, and behind it another one by a call that may fail
pub joined : (old a b middle new : List ℕ) {E : Type 0} (r : Result (Unit {0}) E) → middle ≡ old ++ a → OnOk r (new ≡ middle ++ b) → OnOk r (new ≡ old ++ (a ++ b))
joined old a b middle new (Ok x) first second = second ∙ (ap (λ text. text ++ b) first ∙ append_assoc old a b)
joined old a b middle new (Err error) first second = second
