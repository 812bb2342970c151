-- What a candidate leaves for the next bracket (C.04.3 C.7), and its whole quality.
use Rattle.std.specs.Prelude.{◌≡◌, ℕ, ◌+◌, ◌<◌, ◌≤◌, Bool, if◌then◌else◌, List, [], ◌∷◌, ◌++◌, map, length, slice_index, Option, Some, None, false}
use Rattle.std.specs.List.Sorted.{IsStrictlyIncreasing}
use Rattle.std.specs.Ordering.{nat_cmp, is_lt}
use Rattle.std.specs.Cmp.Lexicographic.{slice_cmp}
use Rattle.dutch_arrangements.specs.declared.bracket.Shape.{Shape}
use Rattle.dutch_arrangements.specs.Prelude.{Arrangement, Frame, down, arrangements, candidates, IsIn, Candidate}
use Rattle.dutch_sequence.specs.declared.numbers.TheConstants.{LIMIT}
use Rattle.dutch_player.specs.Prelude.{Facts}
use Rattle.dutch_bracket.specs.declared.reached.BracketKind.{BracketKind}
use Rattle.dutch_bracket.specs.declared.reached.BracketKind.TheVariants.{Ordinary, Last, Penultimate, Collapsed}
use Rattle.dutch_bracket.specs.Seated.{seat_of, score_at, by_seats, AreSeats, AllNumbers}
use Rattle.dutch_bracket.specs.Reached.{Reached, frame_of, numbers_meet, number_may_be_left}
use Rattle.dutch_bracket.specs.Shapes.{greatest_shape}
use Rattle.dutch_bracket.specs.Quality.{Quality, NextValue, psd, quality_with}

-- a list of numbers before another: at the first difference its number is lower, or it has ended
abbrev pub is_lower : List ℕ → List ℕ → Bool
is_lower xs ys = is_lt (slice_cmp nat_cmp xs ys)

-- the lowest of a list and some others
abbrev pub lowest_list_upto : List ℕ → List (List ℕ) → List ℕ
lowest_list_upto least [] = least
lowest_list_upto least (xs ∷ others) = lowest_list_upto (if is_lower xs least then xs else least) others

-- the lowest of some lists
abbrev pub lowest_list : List (List ℕ) → List ℕ
lowest_list [] = []
lowest_list (xs ∷ others) = lowest_list_upto xs others

-- the next bracket: a candidate's downfloaters are its moved-down players, and the next lower scoregroup its residents; it is an ordinary
-- one, and lower scoregroups are not looked at [C.7; own]
abbrev pub next_bracket : List ℕ → List ℕ → Reached
next_bracket moved_down next = record { number = 0; kind = Ordinary; mdps = length moved_down; seats = moved_down ++ next }

-- the arrangements of a bracket whose pairs may meet, and which, if it ends the round, leave over at most one player, who may have the bye
-- [C.7, C.1 to C.3]
abbrev pub legal_in : Facts → Reached → Shape → List Arrangement
legal_in facts reached = candidates (numbers_meet facts reached) (number_may_be_left facts reached) (frame_of facts reached)

-- those of a bracket that is known by scores
abbrev pub legal_by : Facts → Reached → Frame → Shape → List Arrangement
legal_by facts reached frame = candidates (numbers_meet facts reached) (number_may_be_left facts reached) frame

-- C.6: the PSD of an arrangement of a bracket
abbrev pub psd_in : Facts → Reached → Arrangement → List ℕ
psd_in facts reached lists = psd facts (by_seats facts reached.seats (record { lists = lists; down = down (frame_of facts reached) lists }))

-- the value where C.7 does not count [with value_in]
abbrev pub no_value : NextValue
no_value = record { pairs = 0; psd = [] }

-- C.7: of a shape the number of pairs, and the least PSD of its arrangements
abbrev pub value_of_shape : Facts → Reached → Option Shape → NextValue
value_of_shape facts reached None = no_value
value_of_shape facts reached (Some shape) =
    record { pairs = shape.pairs; psd = lowest_list (map (psd_in facts reached) (legal_in facts reached shape)) }

-- what a bracket can be: the most pairs, and the least PSD of an arrangement with so many pairs and, among these, with the most moved-down
-- players [C.7, C.6; own]
unfoldable pub value_of : Facts → Reached → NextValue
value_of facts reached = value_of_shape facts reached (greatest_shape (legal_in facts reached) (frame_of facts reached))

-- what the next bracket of an ordinary bracket can be; in other brackets C.7 does not count, and all candidates have the same value [C.7;
-- own]
abbrev pub value_in : BracketKind → Facts → List ℕ → List ℕ → NextValue
value_in Ordinary facts moved_down next = value_of facts (next_bracket moved_down next)
value_in Last facts moved_down next = no_value
value_in Penultimate facts moved_down next = no_value
value_in Collapsed facts moved_down next = no_value

-- the quality of a candidate of a bracket above a next lower scoregroup [C.6 to C.19]
unfoldable pub quality : Facts → Reached → List ℕ → Candidate → Quality
quality facts reached next candidate =
    quality_with facts (by_seats facts reached.seats candidate) (value_in reached.kind facts (map (seat_of reached.seats) candidate.down) next)

-- a bracket with a resident, whose residents have one score, as a scoregroup has [own]
pub record IsFlat (facts : Facts) (reached : Reached) : Type 0 where
  pub resident : reached.mdps < length reached.seats
  pub same : (i : ℕ) → reached.mdps < i → i ≤ length reached.seats → score_at facts (seat_of reached.seats i) ≡ score_at facts (seat_of reached.seats (reached.mdps + 1))

-- an arrangement of a bracket, with those whom it leaves over [B.3]
pub record IsOfBracket (facts : Facts) (reached : Reached) (candidate : Candidate) : Type 0 where
  pub lists : (shape : Shape) × IsIn candidate.lists (arrangements (frame_of facts reached) shape)
  pub down : candidate.down ≡ down (frame_of facts reached) candidate.lists

-- numbers of a bracket, ascending, as those of its downfloaters [B.3]
pub record AreLeft (reached : Reached) (down : List ℕ) : Type 0 where
  pub numbers : AllNumbers reached.seats down
  pub ascend : IsStrictlyIncreasing down

-- the next lower scoregroup: seats with one score, below those of a bracket with which it has at most 1,024 players; below an ordinary
-- bracket there is one [A.3]
pub record IsNext (facts : Facts) (reached : Reached) (next : List ℕ) : Type 0 where
  pub inside : AreSeats facts next
  pub few : length reached.seats + length next ≤ LIMIT
  pub same : (i j : ℕ) → i < length next → j < length next → score_at facts (slice_index next i) ≡ score_at facts (slice_index next j)
  pub below : (i j : ℕ) → i < length reached.seats → j < length next → score_at facts (slice_index next j) < score_at facts (slice_index reached.seats i)
  pub there : reached.kind ≡ Ordinary → 0 < length next

-- a value of the next bracket is not better than another one: no more pairs, and with as many no lower PSD [C.7; own]
abbrev pub IsNoBetter : NextValue → NextValue → Type 0
IsNoBetter next other = (next.pairs ≤ other.pairs) × (next.pairs ≡ other.pairs → is_lower next.psd other.psd ≡ false)

-- a quality has no better value of the next bracket [with IsNoBetter]
abbrev pub HasNoBetter : Quality → NextValue → Type 0
HasNoBetter q next = (q.next_pairs ≤ next.pairs) × (q.next_pairs ≡ next.pairs → is_lower q.next_psd next.psd ≡ false)
