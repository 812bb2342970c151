-- Mates who may be pairs of a bracket are the pairs of a candidate (C.04.3 B.1 to B.3, C.1 to C.4), which can be chosen if those who are their
-- own mates may be left over.
use Rattle.std.proofs.Common.{◌≡◌, ℕ, ◌+◌, ◌-◌, ◌<◌, ◌≤◌, Bool, true, false, not, cond, ◌&&◌, ◌||◌, ◌==◌, nat_le, ltb, List, ◌++◌, map, length, inl, inr, refl, sym, ap, subst, ◌∙◌, arith}
use Rattle.std.specs.Prelude.{filter}
use Rattle.std.proofs.Math.Bool.{and_comm}
use Rattle.std.proofs.lemmas.Bool.{and_parts, cases_eq, le-leb, leb-true, true≢false}
use Rattle.std.proofs.lemmas.List.{length-map}
use Rattle.dutch_arrangements.specs.declared.bracket.Shape.{Shape}
use Rattle.dutch_arrangements.specs.Prelude.{Arrangement, Fits, Frame, IsIn, IsMovedDown, down, leaves_one, numbers_from}
use Rattle.dutch_sequence.proofs.Orders.{filter-IsIn}
use Rattle.dutch_player.specs.Prelude.{Facts}
use Rattle.dutch_bracket.specs.declared.reached.BracketKind.{BracketKind}
use Rattle.dutch_bracket.specs.declared.reached.BracketKind.TheVariants.{Ordinary, Last, Penultimate, Collapsed}
use Rattle.dutch_bracket.specs.Prelude.{Context, FitsHere, Reached, can_be_chosen, candidates_of, completable, downfloaters, eligible, eligible_here, ends_round, frame_of, has_member, is_number, is_penultimate, number_may_be_left, numbers_meet, numbers_meet_sym, score_at, seat_of}
use Rattle.dutch_completion.proofs.EligibleLemmas.{eligible_is}
use Rattle.dutch_candidates.proofs.MateLists.{IsNumber, NumberMates, down_is, legal_member, mates_fit, mates_shape, of_mates}
use Rattle.dutch_bracket.proofs.ShapeSearch.{has_in}
use Rattle.dutch_choice.specs.Mates.{may_leave}
use Rattle.dutch_choice.specs.ShapeCosts.{are_pair}

-- the penultimate bracket does not end the round
goes_on : (kind : BracketKind) → is_penultimate kind ≡ true → ends_round kind ≡ false
goes_on Ordinary e = refl
goes_on Last e = absurd (true≢false (sym e))
goes_on Penultimate e = refl
goes_on Collapsed e = absurd (true≢false (sym e))

pub two_numbers : (facts : Facts) (reached : Reached) (a b : ℕ) → numbers_meet facts reached a b ≡ true → is_number reached b ≡ true
unfolding numbers_meet
two_numbers facts reached a b e =
    let both = and_parts (is_number reached a && is_number reached b) _ e in (and_parts (is_number reached a) (is_number reached b) both.0).1

pub number_is : (reached : Reached) (b : ℕ) → is_number reached b ≡ true → (0 < b) × (b ≤ length reached.seats)
number_is reached b e =
    let both = and_parts (nat_le 1 b) (nat_le b (length reached.seats)) e in
    let low : 1 ≤ b = leb-true 1 b both.0 in (omega (arith, low), leb-true b (length reached.seats) both.1)

-- the shape of the pairs of mates: the moved-down players with mates, and the residents whose mates stand behind them
abbrev pub shape_of_mates : Context → (ℕ → ℕ) → Shape
shape_of_mates context mate = record {
  pairs = length (filter (λ a. not (mate a == a)) (numbers_from 1 context.reached.mdps))
      + length (filter (λ a. ltb a (mate a)) (numbers_from (context.reached.mdps + 1) (length context.reached.seats - context.reached.mdps)));
  mdps = length (filter (λ a. not (mate a == a)) (numbers_from 1 context.reached.mdps));
}

-- those who are their own mates
abbrev pub alone_of : Context → (ℕ → ℕ) → List ℕ
alone_of context mate = filter (λ a. mate a == a) (numbers_from 1 (length context.reached.seats))

module _ (context : Context) where
  pub pair_sym : (a b : ℕ) → are_pair context a b ≡ are_pair context b a
  pair_sym a b =
      ap (λ t. t && not (nat_le a context.reached.mdps && nat_le b context.reached.mdps)) (numbers_meet_sym context.facts context.reached a b)
      ∙ ap (λ t. numbers_meet context.facts context.reached b a && not t) (and_comm (nat_le a context.reached.mdps) (nat_le b context.reached.mdps))

  module _ (mate : ℕ → ℕ) (are : (x : ℕ) → (mate x ≡ x → ⊥) → are_pair context x (mate x) ≡ true) (back : (x : ℕ) → mate (mate x) ≡ x)
      (within : context.reached.mdps ≤ length context.reached.seats) where
    abbrev frame : Frame
    frame = frame_of context.facts context.reached

    count : length frame.scores ≡ length context.reached.seats
    count = length-map context.reached.seats (score_at context.facts)

    inside : frame.mdps ≤ length frame.scores
    inside = omega (arith, within, count)

    met : (x : ℕ) → IsNumber frame x → (mate x ≡ x → ⊥) → numbers_meet context.facts context.reached x (mate x) ≡ true
    met x h ne = (and_parts (numbers_meet context.facts context.reached x (mate x)) _ (are x ne)).0

    number_mate : (x : ℕ) → IsNumber frame x → IsNumber frame (mate x)
    number_mate x h = elim (cases_eq (mate x) x) [
      | inl same ↦ subst (IsNumber frame) (sym same) h
      | inr ne ↦
          (let number = number_is context.reached (mate x) (two_numbers context.facts context.reached x (mate x) (met x h ne)) in
          (number.0, omega (arith, number.1, count)))
    ]

    both_low : (one other : Bool) → not (one && other) ≡ true → one ≡ true → other ≡ true → ⊥
    both_low one other e f g = true≢false (sym e ∙ ap (λ t. not (t && other)) f ∙ ap (λ t. not t) g)

    never_both : (x : ℕ) → IsMovedDown frame x → mate x ≤ frame.mdps → mate x ≡ x
    never_both x h few = elim (cases_eq (mate x) x) [
      | inl same ↦ same
      | inr ne ↦
          absurd (both_low (nat_le x context.reached.mdps) (nat_le (mate x) context.reached.mdps)
          (and_parts (numbers_meet context.facts context.reached x (mate x)) _ (are x ne)).1
          (le-leb x context.reached.mdps h.1) (le-leb (mate x) context.reached.mdps few))
    ]

    mates : NumberMates frame mate
    mates = record { inside = number_mate; back = λ x h. back x; apart = never_both }

    abbrev shape : Shape
    shape = shape_of_mates context mate

    abbrev lists : Arrangement
    lists = of_mates frame mate inside mates

    same_shape : mates_shape frame mate inside mates ≡ shape
    same_shape =
        ap (λ (n : ℕ). record {
          pairs = length (filter (λ x. not (mate x == x)) (numbers_from 1 context.reached.mdps))
              + length (filter (λ x. ltb x (mate x)) (numbers_from (context.reached.mdps + 1) (n - context.reached.mdps)));
          mdps = length (filter (λ x. not (mate x == x)) (numbers_from 1 context.reached.mdps));
        }) count

    pub mates_fit_here : FitsHere context shape
    mates_fit_here = subst (Fits frame) same_shape (mates_fit frame mate inside mates)

    left_is : down frame lists ≡ alone_of context mate
    left_is = down_is frame mate inside mates ∙ ap (λ (n : ℕ). filter (λ z. mate z == z) (numbers_from 1 n)) count

    abbrev may : ℕ → Bool
    may = number_may_be_left context.facts context.reached

    abbrev kind : BracketKind
    kind = context.reached.kind

    -- what those left over may be, by the test
    legal_by : (t : Bool) → is_penultimate kind ≡ t
        → cond t (completable context.facts (map (seat_of context.reached.seats) (alone_of context mate) ++ context.lower))
        (not (ends_round kind) || leaves_one may (alone_of context mate)) ≡ true
        → (not (ends_round kind) || leaves_one may (down frame lists)) ≡ true
    legal_by true e can = ap (λ t. not t || leaves_one may (down frame lists)) (goes_on kind e)
    legal_by false e can = ap (λ (left : List ℕ). not (ends_round kind) || leaves_one may left) left_is ∙ can

    chosen_by : (t : Bool) → is_penultimate kind ≡ t
        → cond t (completable context.facts (map (seat_of context.reached.seats) (alone_of context mate) ++ context.lower))
        (not (ends_round kind) || leaves_one may (alone_of context mate)) ≡ true
        → (not t || completable context.facts (downfloaters context.facts context.reached lists ++ context.lower)) ≡ true
    chosen_by true e can =
        ap (λ (left : List ℕ). completable context.facts (map (seat_of context.reached.seats) left ++ context.lower)) left_is ∙ can
    chosen_by false e can = refl

    module _ (can : may_leave context (alone_of context mate) ≡ true) where
      member : IsIn lists (candidates_of context.facts context.reached (mates_shape frame mate inside mates))
      unfolding candidates_of
      member = legal_member frame mate inside mates (numbers_meet context.facts context.reached) may met (legal_by (is_penultimate kind) refl can)

      chosen : can_be_chosen context.facts context.reached context.lower lists ≡ true
      chosen = chosen_by (is_penultimate kind) refl can

      pub mates_eligible : has_member (eligible_here context shape) ≡ true
      mates_eligible =
          ap (λ (s : Shape). has_member (eligible context.facts context.reached context.lower s)) (sym same_shape)
          ∙ ap has_member (eligible_is context.facts context.reached context.lower (mates_shape frame mate inside mates))
          ∙ has_in lists _
          (filter-IsIn (can_be_chosen context.facts context.reached context.lower) lists
          (candidates_of context.facts context.reached (mates_shape frame mate inside mates)) member chosen)
