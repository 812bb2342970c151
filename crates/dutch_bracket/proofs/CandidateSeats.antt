-- The numbers of a bracket are those of seats of its field, and two lists make no more pairs than the first one has numbers.
use Rattle.std.proofs.Common.{ℕ, zero, suc, ◌-◌, ◌<◌, ◌≤◌, length, List, [], ◌∷◌, map, arith}
use Rattle.dutch_player.specs.Prelude.{Facts}
use Rattle.dutch_bracket.specs.Prelude.{seat_of, pairs_of, AreSeats, AllNumbers}

seat_within : (facts : Facts) (seats : List ℕ) (number : ℕ) → AreSeats facts seats → (0 < number) × (number ≤ length seats)
    → seat_of seats number < length facts.seats
seat_within facts seats number p h = p (number - 1) (omega arith)

pub all_within : (facts : Facts) (seats numbers : List ℕ) → AreSeats facts seats → AllNumbers seats numbers → AreSeats facts (map (seat_of seats) numbers)
all_within facts seats [] p h i lt = absurd (omega arith)
all_within facts seats (number ∷ numbers) p h zero lt = seat_within facts seats number p h.0
all_within facts seats (number ∷ numbers) p h (suc i) lt = all_within facts seats numbers p h.1 i (omega arith)

pub length_pairs : (seats firsts seconds : List ℕ) → length (pairs_of seats firsts seconds) ≤ length firsts
length_pairs seats [] seconds = omega arith
length_pairs seats (a ∷ firsts) [] = omega arith
length_pairs seats (a ∷ firsts) (b ∷ seconds) = let h = length_pairs seats firsts seconds in omega (arith, h)
