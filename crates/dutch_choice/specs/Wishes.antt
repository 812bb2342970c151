-- The best of the candidates of a bracket that grant a wish (C.04.3 B.3, B.8), or why there is none (B.1, C.4, C.5).
use Rattle.std.specs.Prelude.{◌≡◌, ◌<◌, ◌≤◌, ◌⊎◌, ◌+◌, ℕ, Bool, true, false, ◌&&◌, List, filter, Option}
use Rattle.std.specs.List.{list_any}
use Rattle.dutch_arrangements.specs.declared.bracket.Shape.{Shape}
use Rattle.dutch_arrangements.specs.Prelude.{Arrangement}
use Rattle.dutch_player.specs.Prelude.{Facts}
use Rattle.dutch_candidates.specs.declared.wish.Wish.{Wish}
use Rattle.dutch_bracket.specs.Prelude.{Context, eligible_here, Reached, frame_of, candidates_of, is_better_in, best, fits}
use Rattle.dutch_candidates.specs.Wishes.{grants}

-- C.4: the candidates of a shape that can be chosen and grant a wish
abbrev pub granting : Context → Shape → Wish → List Arrangement
granting context shape wish = filter (grants wish) (eligible_here context shape)

-- a candidate is better than another one [with best_granting]
abbrev pub is_better_here : Context → Arrangement → Arrangement → Bool
is_better_here context = is_better_in context.facts context.reached context.lower

-- of the candidates of a shape that can be chosen and grant a wish, the first that none of them is better than [B.8, C.4]
unfoldable pub best_granting : Context → Shape → Wish → Option Arrangement
best_granting context shape wish = best (is_better_here context) (granting context shape wish)

-- ---- why there is none

-- B.1: as many pairs as a shape has, with so many moved-down players in them
abbrev pub with_mdps : Shape → ℕ → Shape
with_mdps shape mdps = record { pairs = shape.pairs; mdps = mdps }

-- C.1 to C.3: the bracket has room for a shape, and a legal candidate of it grants a wish
abbrev pub some_grants : Facts → Reached → Wish → Shape → Bool
some_grants facts reached wish shape = fits (frame_of facts reached) shape && list_any (grants wish) (candidates_of facts reached shape)

-- a legal candidate with as many pairs as a shape, and from a number of moved-down players in them to below another number, grants a wish
-- [with IsBarred]
pub record SomeGrants (facts : Facts) (reached : Reached) (wish : Wish) (shape : Shape) (from to : ℕ) : Type 0 where
  pub mdps : ℕ
  pub from_on : from ≤ mdps
  pub below : mdps < to
  pub granted : some_grants facts reached wish (with_mdps shape mdps) ≡ true

-- no legal candidate with as many pairs as a shape, and from a number of moved-down players in them to below another number, grants a wish
-- [with IsBarred]
abbrev pub NoneGrants : Facts → Reached → Wish → Shape → ℕ → ℕ → Type 0
NoneGrants facts reached wish shape from to =
    (mdps : ℕ) → from ≤ mdps → mdps < to → some_grants facts reached wish (with_mdps shape mdps) ≡ false

-- legal candidates of a shape grant a wish; or, where none with as many pairs and as many or fewer moved-down players does, some with more;
-- and none of these can be chosen [C.4; own]
abbrev pub IsBarred : Facts → Reached → Wish → Shape → Type 0
IsBarred facts reached wish shape =
    (list_any (grants wish) (candidates_of facts reached shape) ≡ true)
    ⊎ (NoneGrants facts reached wish shape 0 (shape.mdps + 1) × SomeGrants facts reached wish shape (shape.mdps + 1) (shape.pairs + 1))
