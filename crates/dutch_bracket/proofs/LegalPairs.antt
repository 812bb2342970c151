-- The pairs of a candidate, those of a beginning and the others, may meet (C.04.3 C.1, C.3).
use Rattle.std.proofs.Common.{◌≡◌, ℕ, Bool, true, not, ◌&&◌, ◌==◌, List, [], ◌∷◌, ◌++◌}
use Rattle.std.specs.Prelude.{filter}
use Rattle.std.specs.List.{AllByRecursion}
use Rattle.std.proofs.lemmas.Bool.{and_parts}
use Rattle.dutch_arrangements.specs.declared.bracket.Shape.{Shape}
use Rattle.dutch_arrangements.specs.Prelude.{all_meet, IsIn, Arrangement, arrangements, is_legal}
use Rattle.dutch_player.specs.Prelude.{Facts, may_meet}
use Rattle.dutch_bracket.specs.Prelude.{seat_of, pairs_of, all_pairs, Reached, frame_of, is_number, numbers_meet, number_may_be_left, candidates_of}
use Rattle.dutch_bracket.proofs.AllLemmas.{all_join}
use Rattle.dutch_bracket.proofs.FixedPairs.{Beside}
use Rattle.dutch_sequence.proofs.Orders.{IsIn-filter, all_members, member_has}

pub in_passes : {X : Type 0} (p : X → Bool) (x : X) (xs : List X) → IsIn x (filter p xs) → p x ≡ true
in_passes p x xs m = (IsIn-filter p x xs m).1

-- a candidate is an arrangement whose pairs meet
pub record IsArranged (facts : Facts) (reached : Reached) (shape : Shape) (a : Arrangement) : Type 0 where
  pub arranged : IsIn a (arrangements (frame_of facts reached) shape)
  pub moved_down : all_meet (numbers_meet facts reached) a.s1 a.s2 ≡ true
  pub residents : all_meet (numbers_meet facts reached) a.s1r a.s2r ≡ true

pub legal_of : (facts : Facts) (reached : Reached) (shape : Shape) (a : Arrangement) → IsIn a (candidates_of facts reached shape) → IsArranged facts reached shape a
unfolding candidates_of
legal_of facts reached shape a m =
    let kept = IsIn-filter (is_legal (numbers_meet facts reached) (number_may_be_left facts reached) (frame_of facts reached)) a (arrangements (frame_of facts reached) shape) m in
    let first = and_parts (all_meet (numbers_meet facts reached) a.s1 a.s2) _ kept.1 in
    record { arranged = kept.0; moved_down = first.0; residents = (and_parts (all_meet (numbers_meet facts reached) a.s1r a.s2r) _ first.1).0 }

-- the players of a pair may meet
abbrev pub MayMeet : Facts → ℕ × ℕ → Type 0
MayMeet facts pair = may_meet facts pair.0 pair.1 ≡ true

pairs_meet : (facts : Facts) (reached : Reached) (firsts seconds : List ℕ) → all_meet (numbers_meet facts reached) firsts seconds ≡ true
    → AllByRecursion (MayMeet facts) (pairs_of reached.seats firsts seconds)
unfolding numbers_meet
pairs_meet facts reached [] seconds meet = tt
pairs_meet facts reached (a ∷ firsts) [] meet = tt
pairs_meet facts reached (a ∷ firsts) (b ∷ seconds) meet =
    let parts = and_parts (numbers_meet facts reached a b) (all_meet (numbers_meet facts reached) firsts seconds) meet in
    let both = and_parts (is_number reached a && is_number reached b) _ parts.0 in
    ((and_parts (not (a == b)) (may_meet facts (seat_of reached.seats a) (seat_of reached.seats b)) both.1).1, pairs_meet facts reached firsts seconds parts.1)

-- the pairs beside those that are known may meet
pub others_meet : (facts : Facts) (reached : Reached) (shape : Shape) (known : List (ℕ × ℕ)) (a : Arrangement) → IsArranged facts reached shape a
    → (others : Beside known (all_pairs reached.seats a)) → AllByRecursion (λ pair. may_meet facts pair.0 pair.1 ≡ true) others.others
others_meet facts reached shape known a legal others =
    let firsts : List (ℕ × ℕ) = pairs_of reached.seats a.s1 a.s2 in
    let seconds : List (ℕ × ℕ) = pairs_of reached.seats a.s1r a.s2r in
    let all = all_join (MayMeet facts) firsts seconds (pairs_meet facts reached a.s1 a.s2 legal.moved_down) (pairs_meet facts reached a.s1r a.s2r legal.residents) in
    all_members (MayMeet facts) others.others (λ pair m. member_has (MayMeet facts) (firsts ++ seconds) all pair (others.inside pair m))
