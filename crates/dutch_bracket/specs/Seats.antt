-- Who of a field may meet whom, and who may have the bye, by seat (C.04.3 C.1 to C.3).
use Rattle.std.specs.Prelude.{ℕ, Bool, not, ◌&&◌, ◌==◌, nat_lt, length}
use Rattle.dutch_player.specs.Prelude.{Facts, seat_at, may_meet}
use Rattle.dual.specs.Prelude.{Costs}

-- a place among the present players by rank, from 0 [with AreSeats]
abbrev pub is_seat : Facts → ℕ → Bool
is_seat facts a = nat_lt a (length facts.seats)

-- two different seats whose players may meet [C.1, C.3]
unfoldable pub seats_meet : Facts → ℕ → ℕ → Bool
seats_meet facts a b = is_seat facts a && is_seat facts b && not (a == b) && may_meet facts a b

-- a seat whose player may have the bye [C.2]
unfoldable pub seats_may_be_left : Facts → ℕ → Bool
seats_may_be_left facts a = is_seat facts a && (seat_at facts a).may_bye

-- the same, at no cost
abbrev pub costs_nothing : Facts → Costs
costs_nothing facts = record { meets = seats_meet facts; weight = λ a b. 0; may_be_left = seats_may_be_left facts; left_cost = λ a. 0 }
