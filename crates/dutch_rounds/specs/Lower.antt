-- The players below a bracket (C.04.3 A.3).
use Rattle.std.specs.Prelude.{ℕ, Bool, nat_lt, List, filter}
use Rattle.std.specs.List.{list_all}
use Rattle.dutch_player.specs.Prelude.{Facts}
use Rattle.dutch_bracket.specs.Prelude.{score_at, Context, Reached}
use Rattle.dutch_rounds.specs.Round.{everybody}

-- the score of a seat is lower than each of some seats
abbrev pub is_below : Facts → List ℕ → ℕ → Bool
is_below facts seats seat = list_all (λ other. nat_lt (score_at facts seat) (score_at facts other)) seats

-- the present players with a lower score than all of a bracket, by rank [A.3]
abbrev pub lower_of : Facts → Reached → List ℕ
lower_of facts reached = filter (is_below facts reached.seats) (everybody facts)

-- a bracket above all players below it [with lower_of]
abbrev pub above_lower : Facts → Reached → Context
above_lower facts reached = record { facts = facts; reached = reached; lower = lower_of facts reached }
