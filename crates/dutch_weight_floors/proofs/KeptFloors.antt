-- What holds of all floors that are kept holds of those that stay.
use Rattle.std.proofs.Common.{◌≡◌, ℕ, suc, List, ◌++◌, take, drop, All, sym, subst}
use Rattle.std.proofs.lemmas.List.Elements.{All-append, All-take, All-drop}
use Rattle.dutch_weight_floors.specs.Prelude.{ScopedFloor}

pub they_stay : (P : ScopedFloor → Type 0) (floors new : List ScopedFloor) (place : ℕ) → new ≡ take place floors ++ drop (suc place) floors
    → All P floors → All P new
they_stay P floors new place is all =
    subst (λ (kept : List ScopedFloor). All P kept) (sym is)
    (All-append P (take place floors) (drop (suc place) floors) (All-take P place floors all) (All-drop P (suc place) floors all))
