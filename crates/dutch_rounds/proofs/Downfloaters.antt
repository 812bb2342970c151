-- What is chosen in a bracket leaves over seats of the bracket, each once; two of them who may meet, not both moved down, would make
-- one pair more, so there are no such two if the choice has the most pairs (C.04.3 C.5).
use Rattle.std.proofs.Common.{◌≡◌, ℕ, ◌<◌, Bool, true, false, not, ◌&&◌, ◌==◌, List, ◌++◌, length, refl, sym, ap, ◌∙◌, arith, subst, inl, inr, Some}
use Rattle.std.proofs.lemmas.Bool.{cases_lt, cases_order, eq-eqb, ne_eqb, and_parts, and_from, not_from_false, not-true, true≢false}
use Rattle.dutch_arrangements.specs.Prelude.{Arrangement, Frame, arrangements, down, is_legal, paired, players_of, is_member, NoneTwice, IsIn}
use Rattle.dutch_arrangements.proofs.CursorSets.{numbers-within}
use Rattle.dutch_arrangements.proofs.NoneTwice.{in-left, rises-twice}
use Rattle.dutch_sequence.proofs.Orders.{IsIn-map, Rises-filter, IsIn-filter, filter-IsIn}
use Rattle.dutch_player.specs.Prelude.{Facts, may_meet}
use Rattle.dutch_bracket.specs.declared.reached.BracketKind.{BracketKind}
use Rattle.dutch_bracket.specs.Prelude.{Reached, ends_round, frame_of, is_number, numbers_meet, number_may_be_left, Choice, bracket, candidates_of, choice, completable, downfloaters, eligible, is_penultimate, seat_of, is_seat, seats_meet, has_member, seats_meet_sym}
use Rattle.dutch_bracket.proofs.ArrangementParts.{numbers_rise}
use Rattle.dutch_rounds.proofs.FinalBrackets.{is_number_true, low_seat, same_number, seat_in, within}
use Rattle.dutch_candidates.proofs.MateLists.{IsNumber, has_kept, twice_map}
use Rattle.dutch_rounds.proofs.OnePairMore.{Larger, one_larger}
use Rattle.dutch_bracket.proofs.ShapeLaws.{has_room, none_is_greater}
use Rattle.dutch_choice.proofs.BestLemmas.{chosen_is}
use Rattle.dutch_completion.proofs.EligibleLemmas.{eligible_all, eligible_some}

-- ---- what is chosen

-- a seat does not meet itself
pub meets_other : (facts : Facts) (s t : ℕ) → seats_meet facts s t ≡ true → s ≡ t → ⊥
unfolding seats_meet
meets_other facts s t h same =
    let first = and_parts (is_seat facts s && is_seat facts t && not (s == t)) (may_meet facts s t) h in
    let second = and_parts (is_seat facts s && is_seat facts t) (not (s == t)) first.0 in
    true≢false (sym (eq-eqb s t same) ∙ not-true (s == t) second.1)

-- ---- the downfloaters of a bracket

module _ (facts : Facts) (number : ℕ) (kind : BracketKind) (md residents : List ℕ) (twice : NoneTwice (md ++ residents)) where
  abbrev reached : Reached
  reached = bracket number kind md residents

  abbrev seats : List ℕ
  seats = md ++ residents

  abbrev frame : Frame
  frame = frame_of facts reached

  pub down_number : (a : Arrangement) (x : ℕ) → IsIn x (down frame a) → IsNumber frame x
  down_number a x m =
      let h = numbers-within 1 (length frame.scores) x (in-left x (players_of frame) (paired a) m).0 in (omega (arith, h.0), omega (arith, h.1))

  -- each of them once
  pub down_twice : (a : Arrangement) → NoneTwice (downfloaters facts reached a)
  down_twice a =
      twice_map (seat_of seats) (down frame a) (rises-twice (down frame a) (Rises-filter (λ x. not (is_member x (paired a))) (players_of frame) (numbers_rise 1 (length frame.scores))))
      (λ x y m n e. same_number facts number kind md residents twice x y (down_number a x m) (down_number a y n) e)

  -- they are the bracket's
  pub down_seats : (a : Arrangement) (s : ℕ) → IsIn s (downfloaters facts reached a) → IsIn s seats
  down_seats a s m =
      let from = IsIn-map (seat_of seats) s (down frame a) m in subst (λ t. IsIn t seats) (sym from.1) (seat_in facts number kind md residents twice from.0 (down_number a from.0 from.2))

  meet_numbers : (x y : ℕ) → IsNumber frame x → IsNumber frame y → seats_meet facts (seat_of seats x) (seat_of seats y) ≡ true → numbers_meet facts reached x y ≡ true
  unfolding numbers_meet seats_meet
  meet_numbers x y h g may =
      let s = seat_of seats x in
      let t = seat_of seats y in
      let last = and_parts (is_seat facts s && is_seat facts t && not (s == t)) (may_meet facts s t) may in
      and_from (is_number reached x && is_number reached y) _ (and_from (is_number reached x) (is_number reached y) (is_number_true facts number kind md residents twice x h) (is_number_true facts number kind md residents twice y g))
      (and_from (not (x == y)) (may_meet facts s t) (not_from_false (x == y) (ne_eqb x y (λ e. meets_other facts s t may (ap (seat_of seats) e)))) last.1)

  -- no two of those moved down may meet
  abbrev pub Strangers : List ℕ → Type 0
  Strangers players = (s t : ℕ) → IsIn s players → IsIn t players → seats_meet facts s t ≡ true → ⊥

  module _ (lower : List ℕ) (chosen : Choice) (is : choice facts reached lower ≡ Some chosen) (not_last : ends_round kind ≡ false) (strangers : Strangers md) where
    -- a candidate with one pair more, by two downfloaters
    abbrev pub More : ℕ → ℕ → Type 0
    More x y = Larger (numbers_meet facts reached) (number_may_be_left facts reached) frame not_last chosen.shape chosen.lists x y

    -- it cannot be chosen
    pub no_more : (x y : ℕ) (more : More x y) → has_member (eligible facts reached lower more.larger) ≡ true → ⊥
    no_more x y more has = none_is_greater facts reached lower chosen.shape more.larger (chosen_is facts reached lower chosen is).0 more.fits has more.greater

    of_candidates_at : (t : Bool) → is_penultimate kind ≡ t → IsIn chosen.lists (candidates_of facts reached chosen.shape)
    of_candidates_at true e =
        (IsIn-filter (λ lists. completable facts (downfloaters facts reached lists ++ lower)) chosen.lists (candidates_of facts reached chosen.shape)
        (subst (IsIn chosen.lists) (eligible_some facts reached lower chosen.shape e) (chosen_is facts reached lower chosen is).1)).0
    of_candidates_at false e = subst (IsIn chosen.lists) (eligible_all facts reached lower chosen.shape e) (chosen_is facts reached lower chosen is).1

    of_candidates : IsIn chosen.lists (candidates_of facts reached chosen.shape)
    of_candidates = of_candidates_at (is_penultimate kind) refl

    pub more_of : (x y : ℕ) → IsIn x (down frame chosen.lists) → IsIn y (down frame chosen.lists) → x < y → seats_meet facts (seat_of seats x) (seat_of seats y) ≡ true → More x y
    unfolding candidates_of
    more_of x y m n rises may =
        let legal = IsIn-filter (is_legal (numbers_meet facts reached) (number_may_be_left facts reached) frame) chosen.lists (arrangements frame chosen.shape) of_candidates in
        let h = down_number chosen.lists x m in
        let g = down_number chosen.lists y n in
        let resident : length md < y = elim (cases_lt (length md) y) [
          | inl above ↦ above
          | inr low ↦ absurd (strangers (seat_of seats x) (seat_of seats y) (low_seat facts number kind md residents twice x (h.0, omega (arith, low, rises))) (low_seat facts number kind md residents twice y (g.0, low)) may)
        ] in
        one_larger (numbers_meet facts reached) (number_may_be_left facts reached) frame not_last (within facts number kind md residents twice) chosen.shape chosen.lists x y
        (has_room facts reached lower chosen.shape (chosen_is facts reached lower chosen is).0).within_pairs legal.0 legal.1 m n rises resident
        (meet_numbers x y h g may)

    -- it is a candidate
    pub more_candidate : (x y : ℕ) (more : More x y) → IsIn more.lists (candidates_of facts reached more.larger)
    unfolding candidates_of
    more_candidate x y more = filter-IsIn (is_legal (numbers_meet facts reached) (number_may_be_left facts reached) frame) more.lists (arrangements frame more.larger) more.arranged more.legal

    -- where no two downfloaters in the order of their numbers may meet, no two may at all
    ordered_strangers : ((x y : ℕ) → IsIn x (down frame chosen.lists) → IsIn y (down frame chosen.lists) → x < y → seats_meet facts (seat_of seats x) (seat_of seats y) ≡ true → ⊥)
        → Strangers (downfloaters facts reached chosen.lists)
    ordered_strangers none s t m n may =
        let one = IsIn-map (seat_of seats) s (down frame chosen.lists) m in
        let two = IsIn-map (seat_of seats) t (down frame chosen.lists) n in
        let x = one.0 in
        let y = two.0 in
        let may' : seats_meet facts (seat_of seats x) (seat_of seats y) ≡ true = subst (λ w. seats_meet facts (seat_of seats x) w ≡ true) two.1 (subst (λ w. seats_meet facts w t ≡ true) one.1 may) in
        elim (cases_order x y) [
          | inl same ↦ meets_other facts (seat_of seats x) (seat_of seats y) may' (ap (seat_of seats) same)
          | inr (inl lower') ↦ none x y one.2 two.2 lower' may'
          | inr (inr higher) ↦ none y x two.2 one.2 higher (seats_meet_sym facts (seat_of seats y) (seat_of seats x) ∙ may')
        ]

    -- C.5: no two downfloaters of a bracket that is not paired again may meet
    pub down_strangers : is_penultimate kind ≡ false → Strangers (downfloaters facts reached chosen.lists)
    unfolding candidates_of
    down_strangers first =
        ordered_strangers (λ x y m n rises may.
        let more = more_of x y m n rises may in
        no_more x y more (ap has_member (eligible_all facts reached lower more.larger first)
        ∙ has_kept (is_legal (numbers_meet facts reached) (number_may_be_left facts reached) frame) more.lists (arrangements frame more.larger) more.arranged more.legal))
