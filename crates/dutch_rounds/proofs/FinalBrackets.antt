-- A bracket whose players have mates, of whom no two are moved down, has a candidate that leaves over those who are their own mates.
use Rattle.std.proofs.Common.{◌≡◌, ℕ, zero, suc, ◌-◌, ◌<◌, ◌≤◌, true, not, ◌&&◌, ◌==◌, nat_le, List, [], ◌∷◌, ◌++◌, length, get_or, refl, sym, ap, ◌∙◌, arith, subst, inl, inr, Option, Some, None, length-append}
use Rattle.std.proofs.lemmas.List.{length-map}
use Rattle.std.proofs.lemmas.Bool.{ne_eqb, and_parts, and_from, not_from_false, le-leb}
use Rattle.dutch_arrangements.specs.declared.bracket.Shape.{Shape}
use Rattle.dutch_arrangements.specs.Prelude.{Fits, Frame, NoneTwice, IsMovedDown, IsIn}
use Rattle.dutch_player.specs.Prelude.{Facts, seat_at, may_meet}
use Rattle.dutch_bracket.specs.declared.reached.BracketKind.{BracketKind}
use Rattle.dutch_bracket.specs.Prelude.{Reached, frame_of, is_number, numbers_meet, number_may_be_left, Choice, bracket, candidates_of, choice, eligible, shape_of, seat_of, score_at, is_seat, seats_meet, seats_may_be_left, has_member}
use Rattle.dutch_choice.proofs.BestLemmas.{choice_of_shape}
use Rattle.dutch_candidates.proofs.MateLists.{IsNumber, NumberMates, mates_candidate, mates_fit, mates_shape}
use Rattle.dutch_completion.proofs.Mates.{AreMates}
use Rattle.dutch_bracket.proofs.ShapeLaws.{none_has_one}
use Rattle.dutch_bracket.proofs.SeatPlaces.{get_in, get_place, place_get, place_of}

get_front : (xs ys : List ℕ) (i : ℕ) → i < length xs → IsIn (get_or (xs ++ ys) i 0) xs
get_front [] ys i lt = absurd (omega (arith, lt))
get_front (x ∷ xs) ys zero lt = inl refl
get_front (x ∷ xs) ys (suc i) lt = inr (get_front xs ys i (omega (arith, lt)))

-- ---- the numbers of a bracket and its seats

module _ (facts : Facts) (number : ℕ) (kind : BracketKind) (md residents : List ℕ) (twice : NoneTwice (md ++ residents)) where
  abbrev reached : Reached
  reached = bracket number kind md residents

  abbrev seats : List ℕ
  seats = md ++ residents

  abbrev frame : Frame
  frame = frame_of facts reached

  pub count : length frame.scores ≡ length seats
  count = length-map seats (score_at facts)

  pub within : frame.mdps ≤ length frame.scores
  within = omega (arith, count, length-append md residents)

  before : (x : ℕ) → IsNumber frame x → x - 1 < length seats
  before x h = omega (arith, h.0, h.1, count)

  pub seat_in : (x : ℕ) → IsNumber frame x → IsIn (seat_of seats x) seats
  seat_in x h = get_in seats (x - 1) (before x h)

  number_of_seat : (x : ℕ) → IsNumber frame x → suc (place_of (seat_of seats x) seats) ≡ x
  number_of_seat x h = let e = get_place seats (x - 1) twice (before x h) in omega (arith, e, h.0)

  pub same_number : (x y : ℕ) → IsNumber frame x → IsNumber frame y → seat_of seats x ≡ seat_of seats y → x ≡ y
  same_number x y h g e = sym (number_of_seat x h) ∙ ap (λ s. suc (place_of s seats)) e ∙ number_of_seat y g

  pub low_seat : (x : ℕ) → IsMovedDown frame x → IsIn (seat_of seats x) md
  low_seat x h = get_front md residents (x - 1) (omega (arith, h.0, h.1))

  pub is_number_true : (x : ℕ) → IsNumber frame x → is_number reached x ≡ true
  is_number_true x h =
      and_from (nat_le 1 x) (nat_le x (length seats)) (le-leb 1 x (omega (arith, h.0))) (le-leb x (length seats) (omega (arith, h.1, count)))

  -- ---- the mates of a bracket

  module _ (mate : ℕ → ℕ) (are : AreMates (seats_meet facts) (seats_may_be_left facts) seats mate) (apart : (s : ℕ) → IsIn s md → IsIn (mate s) md → mate s ≡ s) where
    -- the number of a player's mate
    abbrev number_mate : ℕ → ℕ
    number_mate x = suc (place_of (mate (seat_of seats x)) seats)

    mate_in : (x : ℕ) → IsNumber frame x → IsIn (mate (seat_of seats x)) seats
    mate_in x h = are.inside (seat_of seats x) (seat_in x h)

    -- the seat of the mate's number is the mate's
    mate_seat : (x : ℕ) → IsNumber frame x → seat_of seats (number_mate x) ≡ mate (seat_of seats x)
    mate_seat x h =
        ap (λ k. get_or seats k 0) (let e : number_mate x - 1 ≡ place_of (mate (seat_of seats x)) seats = omega arith in e)
        ∙ (place_get (mate (seat_of seats x)) seats (mate_in x h)).1

    inside : (x : ℕ) → IsNumber frame x → IsNumber frame (number_mate x)
    inside x h = (omega arith, let lt = (place_get (mate (seat_of seats x)) seats (mate_in x h)).0 in omega (arith, lt, count))

    -- who has no mate by number has none by seat, and the other way round
    alone_seat : (x : ℕ) → IsNumber frame x → number_mate x ≡ x → mate (seat_of seats x) ≡ seat_of seats x
    alone_seat x h e = sym (mate_seat x h) ∙ ap (seat_of seats) e

    alone_number : (x : ℕ) → IsNumber frame x → mate (seat_of seats x) ≡ seat_of seats x → number_mate x ≡ x
    alone_number x h e = ap (λ s. suc (place_of s seats)) e ∙ number_of_seat x h

    pub number_mates : NumberMates frame number_mate
    number_mates = record {
      inside = inside;
      back = λ x h.
          ap (λ s. suc (place_of (mate s) seats)) (mate_seat x h) ∙ ap (λ s. suc (place_of s seats)) (are.back (seat_of seats x) (seat_in x h)) ∙ number_of_seat x h;
      apart = λ x h low.
          let number : IsNumber frame x = (h.0, omega (arith, h.1, within)) in
          let there = low_seat (number_mate x) (omega arith, low) in
          alone_number x number (apart (seat_of seats x) (low_seat x h) (subst (λ s. IsIn s md) (mate_seat x number) there));
    }

    met : (x : ℕ) → IsNumber frame x → (number_mate x ≡ x → ⊥) → numbers_meet facts reached x (number_mate x) ≡ true
    unfolding numbers_meet seats_meet
    met x h ne =
        let s = seat_of seats x in
        let may : seats_meet facts s (mate s) ≡ true = are.met s (seat_in x h) (λ e. ne (alone_number x h e)) in
        let last = and_parts (is_seat facts s && is_seat facts (mate s) && not (s == mate s)) (may_meet facts s (mate s)) may in
        and_from (is_number reached x && is_number reached (number_mate x)) _
        (and_from (is_number reached x) (is_number reached (number_mate x)) (is_number_true x h) (is_number_true (number_mate x) (inside x h)))
        (and_from (not (x == number_mate x)) _ (not_from_false (x == number_mate x) (ne_eqb x (number_mate x) (λ e. ne (sym e))))
        (ap (may_meet facts s) (mate_seat x h) ∙ last.1))

    may : (x : ℕ) → IsNumber frame x → number_mate x ≡ x → number_may_be_left facts reached x ≡ true
    unfolding number_may_be_left seats_may_be_left
    may x h e =
        let s = seat_of seats x in
        let left : seats_may_be_left facts s ≡ true = are.left s (seat_in x h) (alone_seat x h e) in
        and_from (is_number reached x) ((seat_at facts s).may_bye) (is_number_true x h) (and_parts (is_seat facts s) ((seat_at facts s).may_bye) left).1

    one : (x y : ℕ) → IsNumber frame x → IsNumber frame y → number_mate x ≡ x → number_mate y ≡ y → x ≡ y
    one x y h g e f =
        same_number x y h g (are.one (seat_of seats x) (seat_of seats y) (seat_in x h) (seat_in y g) (alone_seat x h e) (alone_seat y g f))

    -- the shape of the mates
    abbrev pub final_shape : Shape
    final_shape = mates_shape frame number_mate within number_mates

    pub final_fits : Fits frame final_shape
    final_fits = mates_fit frame number_mate within number_mates

    pub final_candidate : has_member (candidates_of facts reached final_shape) ≡ true
    unfolding candidates_of
    final_candidate =
        mates_candidate frame number_mate within number_mates (numbers_meet facts reached) (number_may_be_left facts reached) met one may

-- ---- a shape with a candidate makes a choice

module _ (facts : Facts) (reached : Reached) (lower : List ℕ) where
  pub record Chooses : Type 0 where
    pub chosen : Choice
    pub is : choice facts reached lower ≡ Some chosen

  chooses_at : (t : Shape) (o : Option Shape) → shape_of facts reached lower ≡ o → Fits (frame_of facts reached) t → has_member (eligible facts reached lower t) ≡ true → Chooses
  chooses_at t None e fit has = absurd (none_has_one facts reached lower t e fit has)
  chooses_at t (Some shape) e fit has =
      let one = choice_of_shape facts reached lower shape e in
      record { chosen = record { shape = shape; lists = one.0 }; is = one.1 }

  -- B.8: where a shape with room has a candidate that can be chosen, there is a choice
  pub chooses : (t : Shape) → Fits (frame_of facts reached) t → has_member (eligible facts reached lower t) ≡ true → Chooses
  chooses t = chooses_at t (shape_of facts reached lower) refl
