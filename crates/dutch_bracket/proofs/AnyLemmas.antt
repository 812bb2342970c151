-- A member of a list of which a test holds.
use Rattle.std.proofs.Common.{◌≡◌, Bool, true, List, [], ◌∷◌, inl, inr, refl, sym, ap, ◌∙◌}
use Rattle.std.specs.List.{list_any}
use Rattle.std.proofs.lemmas.Bool.{or_cases, or_left, or_right, true≢false}
use Rattle.dutch_arrangements.specs.Prelude.{IsIn}

pub any_in : {X : Type 0} (test : X → Bool) (x : X) (xs : List X) → IsIn x xs → test x ≡ true → list_any test xs ≡ true
any_in test x [] m h = absurd m
any_in test x (y ∷ xs) (inl same) h = or_left (test y) (list_any test xs) (ap test (sym same) ∙ h)
any_in test x (y ∷ xs) (inr m) h = or_right (test y) (list_any test xs) (any_in test x xs m h)

pub found_in : {X : Type 0} (test : X → Bool) (xs : List X) → list_any test xs ≡ true → (x : X) × IsIn x xs × (test x ≡ true)
found_in test [] h = absurd (true≢false (sym h))
found_in test (x ∷ xs) h =
    elim (or_cases (test x) (list_any test xs) h) [
      | inl here ↦ (x, inl refl, here)
      | inr later ↦ let found = found_in test xs later in (found.0, inr found.1, found.2)
    ]
