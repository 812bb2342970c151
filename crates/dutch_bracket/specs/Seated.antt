-- A candidate by the seats of its players: the pairs, those who go down or up in them, and by how much (C.04.3 A.8).
use Rattle.std.specs.Prelude.{◌≡◌, ℕ, ◌+◌, ◌-◌, ◌<◌, ◌≤◌, length, Bool, not, ◌==◌, nat_lt, min, if◌then◌else◌, List, [], ◌∷◌, ◌++◌, map, filter, slice_index}
use Rattle.std.specs.List.{AllByRecursion}
use Rattle.dutch_arrangements.specs.Prelude.{Arrangement, Candidate}
use Rattle.dutch_player.specs.declared.float.Float.{Float}
use Rattle.dutch_player.specs.declared.float.Float.TheVariants.{Up, Down}
use Rattle.dutch_player.specs.Prelude.{Facts, seat_at}
use Rattle.dutch_bracket.specs.declared.seated.Floater.{Floater}
use Rattle.dutch_sequence.specs.declared.numbers.TheConstants.{LIMIT}

-- the pairs of a candidate, its downfloaters, and the lowest score in its bracket [B.2, B.3]
pub record Seated : Type 0 where
  pub pairs : List (ℕ × ℕ)
  pub down : List ℕ
  pub lowest : ℕ

-- the seat of a number in a bracket, where numbers count from 1 [A.2]
abbrev pub seat_of : List ℕ → ℕ → ℕ
seat_of seats number = slice_index seats (number - 1)

-- the score of a seat [with seat_of]
abbrev pub score_at : Facts → ℕ → ℕ
score_at facts seat = (seat_at facts seat).score

-- two lists of numbers, place by place, as pairs of seats [own]
abbrev pub pairs_of : List ℕ → List ℕ → List ℕ → List (ℕ × ℕ)
pairs_of seats [] seconds = []
pairs_of seats (a ∷ firsts) [] = []
pairs_of seats (a ∷ firsts) (b ∷ seconds) = (seat_of seats a, seat_of seats b) ∷ pairs_of seats firsts seconds

-- all pairs of an arrangement: S1 with S2, then S1R with S2R
abbrev pub all_pairs : List ℕ → Arrangement → List (ℕ × ℕ)
all_pairs seats lists = pairs_of seats lists.s1 lists.s2 ++ pairs_of seats lists.s1r lists.s2r

-- the lowest of a score and those of some seats
abbrev pub lowest_upto : Facts → ℕ → List ℕ → ℕ
lowest_upto facts least [] = least
lowest_upto facts least (seat ∷ seats) = lowest_upto facts (min least (score_at facts seat)) seats

-- the lowest score of some seats [with seat_of]
abbrev pub lowest : Facts → List ℕ → ℕ
lowest facts [] = 0
lowest facts (seat ∷ seats) = lowest_upto facts (score_at facts seat) seats

-- a candidate of a bracket by the seats of its players: its pairs, S1 with S2 and then S1R with S2R, and its downfloaters [with Seated]
abbrev pub by_seats : Facts → List ℕ → Candidate → Seated
by_seats facts seats candidate = record {
  pairs = all_pairs seats candidate.lists;
  down = map (seat_of seats) candidate.down;
  lowest = lowest facts seats;
}

-- the difference of a pair: that of its scores [A.8]
abbrev pub difference : Facts → ℕ × ℕ → ℕ
difference facts pair =
    (score_at facts pair.0 - score_at facts pair.1) + (score_at facts pair.1 - score_at facts pair.0)

-- the difference of a downfloater: their score less the lowest score in the bracket, and 2 half points more [A.8]
abbrev pub difference_down : Facts → ℕ → ℕ → ℕ
difference_down facts least seat = (score_at facts seat - least) + 2

-- the players of a pair have different scores [with goes]
abbrev pub is_uneven : Facts → ℕ × ℕ → Bool
is_uneven facts pair = not (score_at facts pair.0 == score_at facts pair.1)

-- A.4: of a pair with different scores the player with the higher one goes down
abbrev pub goes_down : Facts → ℕ × ℕ → Floater
goes_down facts pair =
    record { seat = if nat_lt (score_at facts pair.0) (score_at facts pair.1) then pair.1 else pair.0; by = difference facts pair }

-- A.4: and the player with the lower one goes up
abbrev pub goes_up : Facts → ℕ × ℕ → Floater
goes_up facts pair =
    record { seat = if nat_lt (score_at facts pair.0) (score_at facts pair.1) then pair.0 else pair.1; by = difference facts pair }

-- the player of a pair with different scores who floats so: the one with the higher score goes down, and the other one goes up [A.4; own]
abbrev pub goes : Facts → Float → ℕ × ℕ → Floater
goes facts Up = goes_up facts
goes facts Down = goes_down facts

-- whoever is in no pair goes down too [with goes]
abbrev pub floats_down : Facts → ℕ → ℕ → Floater
floats_down facts least seat = record { seat = seat; by = difference_down facts least seat }

-- all who go down
unfoldable pub going_down : Facts → Seated → List Floater
going_down facts candidate =
    map (goes_down facts) (filter (is_uneven facts) candidate.pairs) ++ map (floats_down facts candidate.lowest) candidate.down

-- all who go up
unfoldable pub going_up : Facts → Seated → List Floater
going_up facts candidate = map (goes_up facts) (filter (is_uneven facts) candidate.pairs)

-- all of these are seats of the field [own]
abbrev pub AreSeats : Facts → List ℕ → Type 0
AreSeats facts seats = (i : ℕ) → i < length seats → slice_index seats i < length facts.seats

-- both of a pair are seats of the field [with AreSeats]
abbrev pub IsPair : Facts → ℕ × ℕ → Type 0
IsPair facts pair = (pair.0 < length facts.seats) × (pair.1 < length facts.seats)

-- numbers that a bracket with these seats has [with AreLeft]
abbrev pub AllNumbers : List ℕ → List ℕ → Type 0
AllNumbers seats numbers = AllByRecursion (λ number. (0 < number) × (number ≤ length seats)) numbers

-- a candidate: the lists of those who meet have one length, and pairs and downfloaters are at most LIMIT [B.2, B.3]
pub record IsCandidate (candidate : Candidate) : Type 0 where
  pub moved_down : length candidate.lists.s1 ≡ length candidate.lists.s2
  pub residents : length candidate.lists.s1r ≡ length candidate.lists.s2r
  pub few : (length candidate.lists.s1 + length candidate.lists.s1r) + length candidate.down ≤ LIMIT
