-- The arrangements of a bracket (C.04.3 A.3, B.2 to B.7): who is paired with whom, in article D's order.
use Rattle.std.specs.Prelude.{ℕ, ◌+◌, ◌-◌, ◌*◌, ◌<◌, ◌≤◌, Bool, true, false, not, ◌&&◌, ◌||◌, if◌then◌else◌, List, [], ◌∷◌, ◌++◌, map, filter, flat_map, length, take, slice_index}
use Rattle.dutch_sequence.specs.Choices.{all_meet, is_same, left_of, numbers_from}
use Rattle.dutch_sequence.specs.Transposition.{all_tuples}
use Rattle.dutch_sequence.specs.Exchange.{exchanges}
use Rattle.dutch_sequence.specs.Limbo.{limbo_exchanges, IsNonAscending}
use Rattle.dutch_arrangements.specs.declared.bracket.Shape.{Shape}
use Rattle.dutch_sequence.specs.declared.numbers.TheConstants.{LIMIT}

-- a bracket: the scores of its players by rank, those moved down first; how many were moved down; and whether at most one player may be
-- left over in it, as in the last one and in a collapsed one [A.3]
pub record Frame : Type 0 where
  pub scores : List ℕ
  pub mdps : ℕ
  pub last : Bool

-- four lists of a bracket's numbers: S1, moved-down players; S2, whom they meet, place by place; S1R, residents of the remainder; S2R, whom
-- they meet [B.2]
pub record Arrangement : Type 0 where
  pub s1 : List ℕ
  pub s2 : List ℕ
  pub s1r : List ℕ
  pub s2r : List ℕ

-- the numbers of a bracket's players, which count from 1 by rank and stay the same in the remainder [A.3; own]
abbrev pub players_of : Frame → List ℕ
players_of frame = numbers_from 1 (length frame.scores)

-- the numbers of the residents, behind those of the moved-down players [with players_of]
abbrev pub residents_of : Frame → List ℕ
residents_of frame = numbers_from (frame.mdps + 1) (length frame.scores - frame.mdps)

-- the scores of the moved-down players
abbrev pub moved_down_scores : Frame → List ℕ
moved_down_scores frame = take frame.mdps frame.scores

-- how many pairs of a shape are of two residents [with Fits]
abbrev pub remainder_pairs : Shape → ℕ
remainder_pairs shape = shape.pairs - shape.mdps

-- a bracket has room for a shape: each moved-down player in a pair has a resident to meet, and two more residents are there for each other
-- pair [B.1; own]
pub record Fits (frame : Frame) (shape : Shape) : Type 0 where
  pub within_pairs : shape.mdps ≤ shape.pairs
  pub within_moved_down : shape.mdps ≤ frame.mdps
  pub residents_enough : shape.mdps + 2 * remainder_pairs shape ≤ length frame.scores - frame.mdps

-- scores as a bracket has them: at most 1,024, not ascending, that of each moved-down player above that of each resident [A.2, A.3]
pub record IsBracket (scores : List ℕ) (mdps : ℕ) : Type 0 where
  pub few : length scores ≤ LIMIT
  pub within : mdps ≤ length scores
  pub descends : IsNonAscending scores
  pub above : (i j : ℕ) → i < mdps → mdps ≤ j → j < length scores → slice_index scores j < slice_index scores i

module _ (frame : Frame) (shape : Shape) where
  -- D.1: once all but S2R is chosen, the tuples of those who are left
  abbrev pub with_s2r : List ℕ → List ℕ → List ℕ → List Arrangement
  with_s2r s1 s2 s1r =
      map (λ s2r. record { s1 = s1; s2 = s2; s1r = s1r; s2r = s2r })
      (all_tuples (left_of (left_of (residents_of frame) s2) s1r) (remainder_pairs shape))

  -- D.2: once S1 and S2 are chosen, the sets of residents of the remainder
  abbrev pub with_s1r : List ℕ → List ℕ → List Arrangement
  with_s1r s1 s2 = flat_map (with_s2r s1 s2) (exchanges (left_of (residents_of frame) s2) (remainder_pairs shape))

  -- D.1: once S1 is chosen, the tuples of residents whom its players meet
  abbrev pub with_s2 : List ℕ → List Arrangement
  with_s2 s1 = flat_map (with_s1r s1) (all_tuples (residents_of frame) shape.mdps)

  -- all arrangements of a shape in order: S1 by D.3, then S2 by D.1, then S1R by D.2, then S2R by D.1 [B.6, B.7, D]
  abbrev pub arrangements : List Arrangement
  arrangements = flat_map with_s2 (limbo_exchanges (moved_down_scores frame) shape.mdps)

-- B.3: the players of an arrangement's pairs
abbrev pub paired : Arrangement → List ℕ
paired a = a.s1 ++ (a.s2 ++ (a.s1r ++ a.s2r))

-- those in no pair of an arrangement, by rank: its downfloaters [B.3]
abbrev pub down : Frame → Arrangement → List ℕ
down frame a = left_of (players_of frame) (paired a)

-- nobody is left over, or one player is who may have the bye [C.2]
abbrev pub leaves_one : (ℕ → Bool) → List ℕ → Bool
leaves_one may_be_left [] = true
leaves_one may_be_left (player ∷ []) = may_be_left player
leaves_one may_be_left (player ∷ other ∷ others) = false

module _ (meets : ℕ → ℕ → Bool) (may_be_left : ℕ → Bool) where
  -- each pair of an arrangement may meet, and in a last or collapsed bracket at most one player is left over, who may have the bye
  -- [C.1 to C.3]
  abbrev pub is_legal : Frame → Arrangement → Bool
  is_legal frame a =
      all_meet meets a.s1 a.s2 && (all_meet meets a.s1r a.s2r && (not frame.last || leaves_one may_be_left (down frame a)))

  -- the arrangements that are legal, in their order; two with the same pairs are two candidates [B.6, B.7; own]
  abbrev pub candidates : Frame → Shape → List Arrangement
  candidates frame shape = filter (is_legal frame) (arrangements frame shape)

-- two arrangements are the same
abbrev pub is_same_arrangement : Arrangement → Arrangement → Bool
is_same_arrangement a b = is_same a.s1 b.s1 && (is_same a.s2 b.s2 && (is_same a.s1r b.s1r && is_same a.s2r b.s2r))

-- what stands behind an arrangement in a list [with rest]
abbrev pub behind : Arrangement → List Arrangement → List Arrangement
behind a [] = []
behind a (b ∷ rest) = if is_same_arrangement b a then rest else behind a rest

-- the candidates that stand behind an arrangement of the bracket and shape, legal or not [own]
abbrev pub rest : (ℕ → ℕ → Bool) → (ℕ → Bool) → Frame → Shape → Arrangement → List Arrangement
rest meets may_be_left frame shape a = filter (is_legal meets may_be_left frame) (behind a (arrangements frame shape))
