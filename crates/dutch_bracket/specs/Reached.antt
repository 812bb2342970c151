-- The brackets that a round reaches (C.04.3 A.3, A.9), by the seats of their players.
use Rattle.std.specs.Prelude.{◌≡◌, ℕ, ◌+◌, ◌<◌, ◌≤◌, Bool, true, false, ◌&&◌, not, ◌==◌, nat_le, List, map, length, slice_index}
use Rattle.dutch_arrangements.specs.Prelude.{Frame, IsBracket}
use Rattle.dutch_bracket.specs.declared.reached.BracketKind.{BracketKind}
use Rattle.dutch_bracket.specs.declared.reached.BracketKind.TheVariants.{Ordinary, Last, Penultimate, Collapsed}
use Rattle.dutch_player.specs.Prelude.{Facts, seat_at, may_meet}
use Rattle.dutch_bracket.specs.Seated.{seat_of, score_at, AreSeats}
use Rattle.dutch_sequence.specs.declared.numbers.TheConstants.{LIMIT}

-- a bracket that is reached: its number, counted from 1, its kind, how many of its players were moved down, and the seats of its players by
-- rank [A.3, A.9]
pub record Reached : Type 0 where
  pub number : ℕ
  pub kind : BracketKind
  pub mdps : ℕ
  pub seats : List ℕ

-- at most one player may be left over, as in the last bracket and in a collapsed one [A.9]
abbrev pub ends_round : BracketKind → Bool
ends_round Ordinary = false
ends_round Last = true
ends_round Penultimate = false
ends_round Collapsed = true

-- a bracket as `dutch_arrangements` knows it: scores, moved-down players, and whether it ends the round [A.3]
abbrev pub frame_of : Facts → Reached → Frame
frame_of facts reached = record {
  scores = map (score_at facts) reached.seats;
  mdps = reached.mdps;
  last = ends_round reached.kind;
}

-- a number is one of the bracket's, from 1 to the count of its players [with seat_of]
abbrev pub is_number : Reached → ℕ → Bool
is_number reached a = nat_le 1 a && nat_le a (length reached.seats)

-- two numbers of the bracket are different and their players may meet [C.1, C.3]
unfoldable pub numbers_meet : Facts → Reached → ℕ → ℕ → Bool
numbers_meet facts reached a b =
    (is_number reached a && is_number reached b) && (not (a == b) && may_meet facts (seat_of reached.seats a) (seat_of reached.seats b))

-- the player of a number may have the bye [C.2]
unfoldable pub number_may_be_left : Facts → Reached → ℕ → Bool
number_may_be_left facts reached a = is_number reached a && (seat_at facts (seat_of reached.seats a)).may_bye

-- a bracket is one of a field: its seats are the field's, and their scores are those of a bracket [A.3]
pub record IsOf (facts : Facts) (reached : Reached) : Type 0 where
  pub inside : AreSeats facts reached.seats
  pub sound : IsBracket (frame_of facts reached).scores reached.mdps

-- a bracket of a field above some lower seats: their scores are below those of the bracket, together they are at most 1,024, and below an
-- ordinary bracket there is a seat [A.3]
pub record IsAbove (facts : Facts) (reached : Reached) (lower : List ℕ) : Type 0 where
  pub bracket : IsOf facts reached
  pub inside : AreSeats facts lower
  pub few : length reached.seats + length lower ≤ LIMIT
  pub below : (i j : ℕ) → i < length reached.seats → j < length lower → score_at facts (slice_index lower j) < score_at facts (slice_index reached.seats i)
  pub there : reached.kind ≡ Ordinary → 0 < length lower
