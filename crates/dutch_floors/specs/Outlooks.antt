-- The best that the next bracket can be, as it is known before any candidate is looked at (C.04.3 C.7).
use Rattle.std.specs.Prelude.{◌≡◌, ℕ, Bool, if◌then◌else◌, List, map, Option, Some, None}
use Rattle.dutch_arrangements.specs.declared.bracket.Shape.{Shape}
use Rattle.dutch_arrangements.specs.Prelude.{Arrangement, arrangements, left_of, is_same, numbers_from, IsIn}
use Rattle.dutch_player.specs.Prelude.{Facts}
use Rattle.dutch_floors.specs.FirstValues.{first_limbo}
use Rattle.dutch_bracket.specs.declared.shaped.ShapedBracket.{ShapedBracket}
use Rattle.dutch_bracket.specs.Prelude.{IsFlat, HasNoBetter, NextValue, Reached, frame_of, quality_of, seat_of, score_at}

-- what the next bracket can be at best: if the Limbo has the scores of the first one, if that is known; and in any case [with IsOutlook]
pub record Outlook : Type 0 where
  pub first : Option NextValue
  pub any : NextValue

-- the scores of the moved-down players who are not in an S1
abbrev pub limbo_scores : Facts → Reached → List ℕ → List ℕ
limbo_scores facts reached s1 = map (λ i. score_at facts (seat_of reached.seats i)) (left_of (numbers_from 1 reached.mdps) s1)

-- an S1 leaves a Limbo with the scores of the first one
unfoldable pub leaves_first : Facts → Reached → Shape → List ℕ → Bool
leaves_first facts reached shape s1 = is_same (limbo_scores facts reached s1) (first_limbo facts reached shape)

-- the value for a Limbo like the first one, if it is known and the Limbo is so; otherwise the value in any case
abbrev pub first_or_any : Option NextValue → Bool → NextValue → NextValue
first_or_any None same any = any
first_or_any (Some first) same any = if same then first else any

-- the best that the next bracket can be behind arrangements with an S1 [with IsOutlook]
abbrev pub best_next_for : Facts → Reached → Shape → Outlook → List ℕ → NextValue
best_next_for facts reached shape outlook s1 = first_or_any outlook.first (leaves_first facts reached shape s1) outlook.any

-- no arrangement has a better value of the next bracket than an outlook says: any at all, and those that leave the first Limbo [C.7; own]
pub record IsOutlook (facts : Facts) (reached : Reached) (lower : List ℕ) (shape : Shape) (outlook : Outlook) : Type 0 where
  pub any : (a : Arrangement) → IsIn a (arrangements (frame_of facts reached) shape) → HasNoBetter (quality_of facts reached lower a) outlook.any
  pub first : (value : NextValue) → outlook.first ≡ Some value
      → IsFlat facts reached × ((a : Arrangement) → IsIn a (arrangements (frame_of facts reached) shape)
      → limbo_scores facts reached a.s1 ≡ first_limbo facts reached shape → HasNoBetter (quality_of facts reached lower a) value)

-- the same of an outlook from a bracket above its lower seats with a shape
abbrev pub IsOutlookFrom : ShapedBracket → Outlook → Type 0
IsOutlookFrom shaped = IsOutlook shaped.context.now.facts shaped.context.now.reached shaped.context.now.lower shaped.shape
