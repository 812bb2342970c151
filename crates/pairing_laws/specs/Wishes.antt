-- What the laws of wishes name (C.04.3 B.8): which of two candidates stands first.
use Rattle.std.specs.Prelude.{◌≡◌, ◌⊎◌, List, ◌∷◌, ◌++◌}
use Rattle.dutch_arrangements.specs.declared.bracket.Shape.{Shape}
use Rattle.dutch_arrangements.specs.Prelude.{Arrangement, IsIn}
use Rattle.dutch_bracket.specs.Prelude.{Context, eligible_here, quality_here}

-- of some candidates one stands before another one [with IsAsGoodBefore]
pub record ComesBefore (c d : Arrangement) (all : List Arrangement) : Type 0 where
  pub front : List Arrangement
  pub behind : List Arrangement
  pub parts : all ≡ front ++ c ∷ behind
  pub later : IsIn d behind

-- a candidate is as good as another one, and is the same or stands before it [B.8]
abbrev pub IsAsGoodBefore : Context → Shape → Arrangement → Arrangement → Type 0
IsAsGoodBefore context shape c d =
    (quality_here context c ≡ quality_here context d) × ((c ≡ d) ⊎ ComesBefore c d (eligible_here context shape))
