-- A bracket of a round and the choice in it, above all lower seats (C.04.3 A.3, A.9, B.8).
use Rattle.std.specs.Prelude.{ℕ, Bool, true, false, not, ◌||◌, ◌==◌, if◌then◌else◌, List, [], ◌∷◌, ◌++◌, map, filter, length, Option, Some}
use Rattle.dutch_arrangements.specs.declared.bracket.Shape.{Shape}
use Rattle.dutch_arrangements.specs.Prelude.{Arrangement, candidates, down}
use Rattle.dutch_arrangements.specs.Cursors.{◌>>=◌}
use Rattle.dutch_player.specs.Prelude.{Facts}
use Rattle.dutch_bracket.specs.declared.reached.BracketKind.{BracketKind}
use Rattle.dutch_bracket.specs.declared.reached.BracketKind.TheVariants.{Ordinary, Last, Penultimate, Collapsed}
use Rattle.dutch_bracket.specs.Reached.{Reached, frame_of, numbers_meet, number_may_be_left}
use Rattle.dutch_bracket.specs.Seated.{seat_of, score_at}
use Rattle.dutch_bracket.specs.Seats.{seats_meet, seats_may_be_left}
use Rattle.dutch_bracket.specs.Completion.{can_complete}
use Rattle.dutch_bracket.specs.Shapes.{greatest_shape}
use Rattle.dutch_bracket.specs.NextBracket.{quality}
use Rattle.dutch_bracket.specs.Quality.{Quality, is_better}
use Rattle.dutch_bracket.specs.Choice.{best}

-- a choice: a shape, and an arrangement of it [with bracket]
pub record Choice : Type 0 where
  pub shape : Shape
  pub lists : Arrangement

-- a bracket is the penultimate one, which is paired again by C.4 [A.9]
abbrev pub is_penultimate : BracketKind → Bool
is_penultimate Ordinary = false
is_penultimate Last = false
is_penultimate Penultimate = true
is_penultimate Collapsed = false

-- the seats of those moved down and then of the residents [A.3]
abbrev pub bracket : ℕ → BracketKind → List ℕ → List ℕ → Reached
bracket number kind moved_down residents =
    record { number = number; kind = kind; mdps = length moved_down; seats = moved_down ++ residents }

module _ (facts : Facts) where
  -- a seat put before groups of lower seats: into the first of them if that has its score
  abbrev pub onto_group : ℕ → List (List ℕ) → List (List ℕ)
  onto_group seat [] = (seat ∷ []) ∷ []
  onto_group seat ([] ∷ groups) = (seat ∷ []) ∷ groups
  onto_group seat ((first ∷ others) ∷ groups) =
      if score_at facts seat == score_at facts first then (seat ∷ first ∷ others) ∷ groups else (seat ∷ []) ∷ (first ∷ others) ∷ groups

  -- the groups of some seats by rank with one score [A.3]
  abbrev pub scoregroups : List ℕ → List (List ℕ)
  scoregroups [] = []
  scoregroups (seat ∷ seats) = onto_group seat (scoregroups seats)

  -- the first of some scoregroups, and nobody where there is none [A.3]
  abbrev pub first_group : List (List ℕ) → List ℕ
  first_group [] = []
  first_group (group ∷ groups) = group

  -- the seats can be paired out [A.9]
  unfoldable pub completable : List ℕ → Bool
  completable seats = can_complete (seats_meet facts) (seats_may_be_left facts) seats

  -- the downfloaters of an arrangement, by seat [with can_be_chosen]
  abbrev pub downfloaters : Reached → Arrangement → List ℕ
  downfloaters reached lists = map (seat_of reached.seats) (down (frame_of facts reached) lists)

  -- the candidates of a bracket and a shape, by the rule of its field [C.1 to C.3]
  unfoldable pub candidates_of : Reached → Shape → List Arrangement
  candidates_of reached shape = candidates (numbers_meet facts reached) (number_may_be_left facts reached) (frame_of facts reached) shape

  -- a candidate can be chosen: in the penultimate bracket only if those whom it leaves over can be paired out with all lower
  -- players [C.4]
  abbrev pub can_be_chosen : Reached → List ℕ → Arrangement → Bool
  can_be_chosen reached lower lists = not (is_penultimate reached.kind) || completable (downfloaters reached lists ++ lower)

  -- the candidates of a shape that can be chosen [C.4]
  unfoldable pub eligible : Reached → List ℕ → Shape → List Arrangement
  eligible reached lower shape = filter (can_be_chosen reached lower) (candidates_of reached shape)

  -- the quality of a candidate, with the first lower scoregroup as the next bracket's residents [C.6 to C.19]
  unfoldable pub quality_of : Reached → List ℕ → Arrangement → Quality
  quality_of reached lower lists =
      quality facts reached (first_group (scoregroups lower)) (record { lists = lists; down = down (frame_of facts reached) lists })

  -- B.8: a candidate is better than another one
  abbrev pub is_better_in : Reached → List ℕ → Arrangement → Arrangement → Bool
  is_better_in reached lower c d = is_better (quality_of reached lower c) (quality_of reached lower d)

  -- of the candidates of a shape that can be chosen the first that none is better than [B.8]
  unfoldable pub best_of_shape : Reached → List ℕ → Shape → Option Arrangement
  best_of_shape reached lower shape = best (is_better_in reached lower) (eligible reached lower shape)

  -- the shape of a bracket: the greatest that has a candidate that can be chosen [C.5, B.1]
  unfoldable pub shape_of : Reached → List ℕ → Option Shape
  shape_of reached lower = greatest_shape (eligible reached lower) (frame_of facts reached)

  -- the choice in a bracket above all lower seats: its shape, and the best candidate of it; none where no shape has one [B.8]
  unfoldable pub choice : Reached → List ℕ → Option Choice
  choice reached lower = do
    shape ← shape_of reached lower
    lists ← best_of_shape reached lower shape
    Some (record { shape = shape; lists = lists })
