-- Those whom an arrangement leaves over are numbers of the bracket.
use Rattle.std.proofs.Common.{◌≡◌, ◌<◌, ◌≤◌, ℕ, Bool, not, List, length, arith}
use Rattle.std.proofs.lemmas.List.{length-map}
use Rattle.dutch_arrangements.specs.Prelude.{is_member, numbers_from, Arrangement, down, paired}
use Rattle.dutch_sequence.proofs.Members.{filter-length, length-numbers}
use Rattle.dutch_player.specs.Prelude.{Facts}
use Rattle.dutch_bracket.specs.Prelude.{Reached, frame_of, AllNumbers, score_at}
use Rattle.dutch_bracket.proofs.AllLemmas.{all_filter}
use Rattle.dutch_bracket.proofs.ArrangementParts.{numbers_within}

pub players : (facts : Facts) (reached : Reached) → length (frame_of facts reached).scores ≡ length reached.seats
players facts reached = length-map reached.seats (score_at facts)

pub down_numbers : (facts : Facts) (reached : Reached) (lists : Arrangement) → AllNumbers reached.seats (down (frame_of facts reached) lists)
down_numbers facts reached lists =
    let count = length (frame_of facts reached).scores in
    all_filter (λ i. (0 < i) × (i ≤ length reached.seats)) _ (numbers_from 1 count)
    (numbers_within 0 1 count (length reached.seats) (omega arith) (omega (arith, players facts reached)))

pub down_few : (facts : Facts) (reached : Reached) (lists : Arrangement) → length (down (frame_of facts reached) lists) ≤ length reached.seats
down_few facts reached lists =
    let numbers : List ℕ = numbers_from 1 (length (frame_of facts reached).scores) in
    let test : ℕ → Bool = λ x. not (is_member x (paired lists)) in
    omega (arith, filter-length test numbers, length-numbers 1 (length (frame_of facts reached).scores), players facts reached)
