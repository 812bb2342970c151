-- The laws of the rules by seat and by number, which the rules themselves name: who meets is met.
use Rattle.std.proofs.Common.{◌≡◌, ℕ, not, ◌&&◌, ◌∙◌, ap, arith}
use Rattle.std.specs.Prelude.{◌==◌}
use Rattle.std.proofs.Math.Bool.{and_comm}
use Rattle.std.proofs.lemmas.Bool.Decides.{nat_tests}
use Rattle.dutch_player.specs.Prelude.{Facts, may_meet}
use Rattle.dutch_player.proofs.LawLemmas.{meeting_sym}
use Rattle.dutch_bracket.specs.Reached.{Reached, is_number, numbers_meet}
use Rattle.dutch_bracket.specs.Seated.{seat_of}
use Rattle.dutch_bracket.specs.Seats.{is_seat, seats_meet}

-- equality of numbers is the same from both sides
pub equal_sym : (a b : ℕ) → (a == b) ≡ (b == a)
equal_sym a b = grind (arith, nat_tests)

-- whether two seats may meet is the same from both sides
pub seats_meet_sym : (facts : Facts) (a b : ℕ) → seats_meet facts a b ≡ seats_meet facts b a
unfolding seats_meet
seats_meet_sym facts a b =
    ap (λ t. t && not (a == b) && may_meet facts a b) (and_comm (is_seat facts a) (is_seat facts b))
    ∙ ap (λ t. is_seat facts b && is_seat facts a && not t && may_meet facts a b) (equal_sym a b)
    ∙ ap (λ t. is_seat facts b && is_seat facts a && not (b == a) && t) (meeting_sym facts a b)

-- whether two numbers may meet is the same from both sides
pub numbers_meet_sym : (facts : Facts) (reached : Reached) (a b : ℕ) → numbers_meet facts reached a b ≡ numbers_meet facts reached b a
unfolding numbers_meet
numbers_meet_sym facts reached a b =
    let one = seat_of reached.seats a in
    let other = seat_of reached.seats b in
    ap (λ t. t && (not (a == b) && may_meet facts one other)) (and_comm (is_number reached a) (is_number reached b))
    ∙ ap (λ t. (is_number reached b && is_number reached a) && (not t && may_meet facts one other)) (equal_sym a b)
    ∙ ap (λ t. (is_number reached b && is_number reached a) && (not (b == a) && t)) (meeting_sym facts one other)
