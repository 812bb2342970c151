-- What the levels of a listing have still to give: a model that carries the listing, and which a reader of its promise may pass by.
use Rattle.std.specs.Prelude.{ℕ, Bool, true, false, not, ◌&&◌, ◌||◌, List, [], ◌∷◌, map, filter, length, if◌then◌else◌, Option, Some, None}
use Rattle.dutch_sequence.specs.Choices.{all_meet, is_same, from_on, subsets, tuples, joined, left_of}
use Rattle.dutch_sequence.specs.Keys.{IsIn}
use Rattle.dutch_arrangements.specs.Arrangements.{Frame, Arrangement, residents_of, moved_down_scores, remainder_pairs, down, leaves_one}
use Rattle.dutch_sequence.specs.Transposition.{all_tuples}
use Rattle.dutch_sequence.specs.Exchange.{exchanges}
use Rattle.dutch_sequence.specs.Limbo.{limbo_exchanges}
use Rattle.dutch_arrangements.specs.declared.bracket.Shape.{Shape}

-- what is left in a block, if a level stands in it
abbrev pub within : {X : Type 0} → Bool → List X → List X
within true coming = coming
within false coming = []

-- four lists
abbrev pub arranged : List ℕ → List ℕ → List ℕ → List ℕ → Arrangement
arranged s1 s2 s1r s2r = record { s1 = s1; s2 = s2; s1r = s1r; s2r = s2r }

-- lists S2R to come behind a cursor: without the cursor's own, if that one comes first
abbrev pub without_own : Option Arrangement → List (List ℕ) → List (List ℕ)
without_own None lists = lists
without_own (Some own) [] = []
without_own (Some own) (list ∷ lists) = if is_same list own.s2r then lists else list ∷ lists

-- choices from a cursor's own on, or all if there is no cursor
abbrev pub choices_from : (Arrangement → List ℕ) → Option Arrangement → List (List ℕ) → List (List ℕ)
choices_from part None choices = choices
choices_from part (Some own) choices = from_on (part own) choices

-- a cursor, if a choice is its own
abbrev pub if_own : (Arrangement → List ℕ) → Option Arrangement → List ℕ → Option Arrangement
if_own part None choice = None
if_own part (Some own) choice = if is_same choice (part own) then Some own else None

-- blocks for choices: the first of them is what stands behind a cursor, if the choice is the cursor's own, and each other is whole
abbrev pub blocks_from : (Arrangement → List ℕ) → (Option Arrangement → List ℕ → List Arrangement) → Option Arrangement → List (List ℕ) → List (List Arrangement)
blocks_from part block None choices = map (block None) choices
blocks_from part block (Some own) [] = []
blocks_from part block (Some own) (choice ∷ choices) = block (if_own part (Some own) choice) choice ∷ map (block None) choices

module _ (meets : ℕ → ℕ → Bool) where
  -- once S1, S2 and S1R are chosen: an arrangement for each S2R whose players those of S1R may meet, all or those behind a cursor
  unfoldable pub in_s1r : List ℕ → List ℕ → List ℕ → Option Arrangement → List ℕ → List Arrangement
  in_s1r s1 s2 remainder own s1r =
      map (arranged s1 s2 s1r)
      (without_own own (filter (all_meet meets s1r) (choices_from (λ a. a.s2r) own (all_tuples (left_of remainder s1r) (length s1r)))))

  -- a block for each S1R
  abbrev pub s1r_blocks : List ℕ → List ℕ → List ℕ → Option Arrangement → List (List ℕ) → List (List Arrangement)
  s1r_blocks s1 s2 remainder = blocks_from (λ a. a.s1r) (in_s1r s1 s2 remainder)

  -- once S1 and S2 are chosen: the arrangements, all or those behind a cursor
  unfoldable pub in_s2 : ℕ → List ℕ → List ℕ → Option Arrangement → List ℕ → List Arrangement
  in_s2 k s1 residents own s2 =
      joined (s1r_blocks s1 s2 (left_of residents s2) own (choices_from (λ a. a.s1r) own (exchanges (left_of residents s2) k)))

  -- a block for each S2
  abbrev pub s2_blocks : ℕ → List ℕ → List ℕ → Option Arrangement → List (List ℕ) → List (List Arrangement)
  s2_blocks k s1 residents = blocks_from (λ a. a.s2) (in_s2 k s1 residents)

  -- once S1 is chosen: the arrangements, all or those behind a cursor
  unfoldable pub in_s1 : ℕ → List ℕ → Option Arrangement → List ℕ → List Arrangement
  in_s1 k residents own s1 =
      joined (s2_blocks k s1 residents own (filter (all_meet meets s1) (choices_from (λ a. a.s2) own (all_tuples residents (length s1)))))

  -- a block for each S1
  abbrev pub s1_blocks : ℕ → List ℕ → Option Arrangement → List (List ℕ) → List (List Arrangement)
  s1_blocks k residents = blocks_from (λ a. a.s1) (in_s1 k residents)

  -- the arrangements of a bracket and a shape whose pairs may meet, all or those behind a cursor
  unfoldable pub in_bracket : Frame → Shape → Option Arrangement → List Arrangement
  in_bracket frame shape own =
      joined (s1_blocks (remainder_pairs shape) (residents_of frame) own (choices_from (λ a. a.s1) own (limbo_exchanges (moved_down_scores frame) shape.mdps)))

-- a cursor's S2R is a choice
abbrev pub HasS2r : List ℕ → Arrangement → Type 0
HasS2r remainder own = IsIn own.s2r (tuples (left_of remainder own.s1r) (length own.s1r))

-- its S1R is a choice, and its S2R is
abbrev pub HasS1r : ℕ → List ℕ → Arrangement → Type 0
HasS1r k remainder own = IsIn own.s1r (subsets remainder k) × HasS2r remainder own

-- its S2 is a choice, its S1R and its S2R are
abbrev pub HasS2 : ℕ → List ℕ → Arrangement → Type 0
HasS2 k residents own = IsIn own.s2 (tuples residents (length own.s1)) × HasS1r k (left_of residents own.s2) own

-- what is true of a cursor, if there is one
abbrev pub Of : (Arrangement → Type 0) → Option Arrangement → Type 0
Of holds None = Unit {0}
Of holds (Some own) = holds own

-- the players of each pair may meet
abbrev pub pairs_meet : (ℕ → ℕ → Bool) → Arrangement → Bool
pairs_meet meets a = all_meet meets a.s1 a.s2 && all_meet meets a.s1r a.s2r

-- an arrangement leaves over only those whom its bracket may leave over
unfoldable pub may_leave : (ℕ → Bool) → Frame → Arrangement → Bool
may_leave may_be_left frame a = not frame.last || leaves_one may_be_left (down frame a)
