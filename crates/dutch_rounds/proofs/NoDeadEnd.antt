-- No dead end (C.04.3 A.9, C.5): if all players can be paired out, each bracket that the round reaches has a candidate that can be
-- chosen, so the round is paired.
use Rattle.std.proofs.Common.{◌≡◌, ℕ, ◌+◌, ◌-◌, ◌<◌, Bool, true, false, cond, List, [], ◌∷◌, ◌++◌, map, length, take, get_or, is_some, refl, sym, ap, ◌∙◌, arith, subst, inl, inr, Option, Some, None, append_assoc}
use Rattle.std.specs.Prelude.{option_map, ◌↔◌}
use Rattle.std.specs.List.{AllByRecursion, concat}
use Rattle.std.proofs.Math.Seq.{take-append_seam}
use Rattle.std.proofs.lemmas.List.{append-nil}
use Rattle.std.proofs.lemmas.Bool.{cases_eq, cases_order, false_from_ne_true, cond_both, true_from_ne_false, true≢false, false≢true}
use Rattle.dutch_arrangements.specs.declared.bracket.Shape.{Shape}
use Rattle.dutch_arrangements.specs.Prelude.{Arrangement, Fits, Frame, arrangements, down, is_legal, numbers_from, NoneTwice, IsIn}
use Rattle.dutch_arrangements.proofs.CursorSets.{AreLists}
use Rattle.dutch_listing.proofs.FormArrangements.{in-lists}
use Rattle.dutch_sequence.proofs.Lists.{filter-all, map-numbers_from}
use Rattle.dutch_arrangements.proofs.NoneTwice.{rises-twice, twice-apart, twice-back, twice-front, twice-join}
use Rattle.dutch_sequence.proofs.Orders.{IsIn-append, IsIn-back, IsIn-front, IsIn-map, map-IsIn, IsIn-filter, filter-IsIn, member_has}
use Rattle.dutch_player.specs.Prelude.{Facts}
use Rattle.dutch_bracket.specs.Prelude.{HasCandidate, Reached, ends_round, frame_of, numbers_meet, number_may_be_left, Choice, bracket, candidates_of, choice, completable, downfloaters, eligible, is_penultimate, scoregroups, seats_meet_sym, seat_of, all_pairs, seats_meet, seats_may_be_left, has_member}
use Rattle.dutch_bracket.specs.Completion.{Completable}
use Rattle.dutch_rounds.specs.Prelude.{visit_of, NoTwoMayMeet, moved_down, Pairing, Round, Visit, brackets, everybody, final_bracket, no_pairing, ordinary_bracket, pairing_in, passing, penultimate_bracket, round, paired_again, GoesOut, HasWayOut, StandsBefore}
use Rattle.dutch_bracket.specs.declared.reached.BracketKind.{BracketKind}
use Rattle.dutch_bracket.specs.declared.reached.BracketKind.TheVariants.{Ordinary, Last, Penultimate, Collapsed}
use Rattle.dutch_rounds.proofs.RoundBy.{final_by, ordinary_by, penultimate_by}
use Rattle.dutch_bracket.proofs.ArrangementParts.{numbers_rise}
use Rattle.dutch_completion.proofs.Covering.{completable_by_test}
use Rattle.dutch_choice.proofs.BestLemmas.{chosen_is}
use Rattle.dutch_rounds.proofs.Downfloaters.{down_number, down_seats, down_strangers, down_twice, more_candidate, more_of, no_more}
use Rattle.dutch_completion.proofs.EligibleLemmas.{eligible_all, eligible_some}
use Rattle.dutch_rounds.proofs.FinalBrackets.{Chooses, chooses, count, final_candidate, final_fits, final_shape, same_number, within}
use Rattle.dutch_bracket.proofs.GroupLemmas.{concat_scoregroups}
use Rattle.dutch_candidates.proofs.MateLists.{fits_arrangement, has_kept}
use Rattle.dutch_completion.proofs.Mates.{AreMates, FoundMates, complete_mates, fewer_mates, mates_complete}
use Rattle.dutch_rounds.proofs.OnePairMore.{pairs_legal}
use Rattle.dutch_rounds.proofs.RoundEnds.{none_past}

module _ (facts : Facts) where
  -- no two who were moved down into a bracket may meet, but in the collapsed one
  abbrev IsApart : Reached → Type 0
  IsApart reached = (reached.kind ≡ Collapsed → ⊥) → NoTwoMayMeet facts (moved_down reached)

  -- a round has a pairing, and its brackets are such ones
  abbrev IsSound : Round → Type 0
  IsSound round = (is_some round.pairing ≡ true) × AllByRecursion (λ visit. IsApart visit.bracket) round.reached

  apart_of : (number : ℕ) (kind : BracketKind) (md residents rest : List ℕ) → GoesOut facts md rest → IsApart (bracket number kind md residents)
  apart_of number kind md residents rest goes first a b m n =
      let here : take (length md) (md ++ residents) ≡ md = take-append_seam md residents in
      false_from_ne_true (seats_meet facts a b) (goes.strangers a b (subst (IsIn a) here m) (subst (IsIn b) here n))

  abbrev Mates : List ℕ → (ℕ → ℕ) → Type 0
  Mates = AreMates (seats_meet facts) (seats_may_be_left facts)

  mates_of : (players : List ℕ) → NoneTwice players → Completable (seats_meet facts) (seats_may_be_left facts) players → FoundMates (seats_meet facts) (seats_meet_sym facts) (seats_may_be_left facts) players
  mates_of = complete_mates (seats_meet facts) (seats_meet_sym facts) (seats_may_be_left facts)

  by_test : (players : List ℕ) → Completable (seats_meet facts) (seats_may_be_left facts) players ↔ (completable facts players ≡ true)
  unfolding completable
  by_test = completable_by_test (seats_meet facts) (seats_may_be_left facts)

  some_more : (f : Pairing → Pairing) (o : Option Pairing) → is_some o ≡ true → is_some (option_map f o) ≡ true
  some_more f None h = h
  some_more f (Some pairing) h = refl

  one_more : (reached : Reached) (chosen : Choice) (rest : Round) → IsApart reached → IsSound rest → IsSound (pairing_in facts reached chosen rest)
  one_more reached chosen rest own sound =
      (some_more (λ later. record { pairs = all_pairs reached.seats chosen.lists ++ later.pairs; bye = later.bye }) rest.pairing sound.0, (own, sound.1))

  -- ---- the bracket that ends a round

  final_is : (reached : Reached) → Chooses facts reached [] → IsApart reached → IsSound (final_bracket facts reached)
  final_is reached found own = subst (λ o. IsSound (final_by facts reached o)) (sym found.is) (refl, (own, tt))

  -- a bracket with a candidate has a choice
  has_choice : (reached : Reached) (lower : List ℕ) → HasCandidate facts reached lower → Chooses facts reached lower
  has_choice reached lower has = chooses facts reached lower has.shape has.room has.candidate

  final_has : (number : ℕ) (kind : BracketKind) (md residents : List ℕ) → is_penultimate kind ≡ false → (twice : NoneTwice (md ++ residents)) → (mate : ℕ → ℕ)
      → (are : Mates (md ++ residents) mate) → (apart : (s : ℕ) → IsIn s md → IsIn (mate s) md → mate s ≡ s) → HasCandidate facts (bracket number kind md residents) []
  final_has number kind md residents first twice mate are apart =
      let shape = final_shape facts number kind md residents twice mate are apart in
      record {
        shape = shape;
        room = final_fits facts number kind md residents twice mate are apart;
        candidate = ap has_member (eligible_all facts (bracket number kind md residents) [] shape first) ∙ final_candidate facts number kind md residents twice mate are apart;
      }

  last_has : (number : ℕ) (md residents : List ℕ) → GoesOut facts md residents → HasCandidate facts (bracket number Last md residents) []
  last_has number md residents goes =
      let found = mates_of (md ++ residents) goes.twice goes.complete in
      final_has number Last md residents refl goes.twice found.mate found.are
      (λ s m n. elim (cases_eq (found.mate s) s) [
        | inl same ↦ same
        | inr ne ↦ absurd (goes.strangers s (found.mate s) m n (found.are.met s (IsIn-front s md residents m) ne))
      ])

  -- ---- a bracket always has the candidate that pairs nobody

  abbrev nobody_paired : Arrangement
  nobody_paired = record { s1 = []; s2 = []; s1r = []; s2r = [] }

  abbrev no_pairs : Shape
  no_pairs = record { pairs = 0; mdps = 0 }

  module _ (number : ℕ) (kind : BracketKind) (md residents lower : List ℕ) (twice : NoneTwice (md ++ residents)) (not_last : ends_round kind ≡ false) where
    abbrev here : Reached
    here = bracket number kind md residents

    empty_lists : AreLists (frame_of facts here) no_pairs nobody_paired
    empty_lists = record {
      s1 = record { rises = tt; within = λ z m. absurd m; count = refl };
      s2 = record { different = refl; within = λ z m. absurd m; count = refl };
      s1r = record { rises = tt; within = λ z m. absurd m; count = refl };
      s2r = record { different = refl; within = λ z m. absurd m; count = refl };
    }

    empty_in : IsIn nobody_paired (arrangements (frame_of facts here) no_pairs)
    empty_in = in-lists (frame_of facts here) no_pairs nobody_paired (within facts number kind md residents twice) empty_lists

    empty_fits : Fits (frame_of facts here) no_pairs
    empty_fits = fits_arrangement (frame_of facts here) no_pairs nobody_paired (within facts number kind md residents twice) (omega arith) empty_in

    empty_legal : is_legal (numbers_meet facts here) (number_may_be_left facts here) (frame_of facts here) nobody_paired ≡ true
    empty_legal = pairs_legal (numbers_meet facts here) (number_may_be_left facts here) (frame_of facts here) not_last nobody_paired tt

    empty_candidate : IsIn nobody_paired (candidates_of facts here no_pairs)
    unfolding candidates_of
    empty_candidate =
        filter-IsIn (is_legal (numbers_meet facts here) (number_may_be_left facts here) (frame_of facts here)) nobody_paired (arrangements (frame_of facts here) no_pairs) empty_in empty_legal

    -- it leaves over all
    empty_down : downfloaters facts here nobody_paired ≡ md ++ residents
    empty_down =
        ap (map (seat_of (md ++ residents))) (filter-all (numbers_from 1 (length (frame_of facts here).scores)))
        ∙ ap (λ n. map (seat_of (md ++ residents)) (numbers_from 1 n)) (count facts number kind md residents twice)
        ∙ map-numbers_from (seat_of (md ++ residents)) (md ++ residents) 1 (λ j lt. ap (λ k. get_or (md ++ residents) k 0) (let e : (1 + j) - 1 ≡ j = omega arith in e))

    -- whom a candidate leaves over is above the lower players
    all_down : NoneTwice ((md ++ residents) ++ lower) → (a : Arrangement) → NoneTwice (downfloaters facts here a ++ lower)
    all_down all a =
        twice-join (downfloaters facts here a) lower (down_twice facts number kind md residents twice a) (twice-back (md ++ residents) lower all)
        (λ z m n. twice-apart (md ++ residents) lower all z (down_seats facts number kind md residents twice a z m) n)

  -- ---- the penultimate bracket

  module _ (number : ℕ) (md residents lower : List ℕ) (goes : GoesOut facts md (residents ++ lower)) where
    abbrev reached : Reached
    reached = bracket number Penultimate md residents

    abbrev seats : List ℕ
    seats = md ++ residents

    abbrev complete_below : Arrangement → Bool
    complete_below lists = completable facts (downfloaters facts reached lists ++ lower)

    all_twice : NoneTwice (seats ++ lower)
    all_twice = subst NoneTwice (sym (append_assoc md residents lower)) goes.twice

    own_twice : NoneTwice seats
    own_twice = twice-front seats lower all_twice

    pub left_twice : (a : Arrangement) → NoneTwice (downfloaters facts reached a ++ lower)
    left_twice = all_down number Penultimate md residents lower own_twice refl all_twice

    empty_complete : complete_below nobody_paired ≡ true
    empty_complete =
        ap (λ left. completable facts (left ++ lower)) (empty_down number Penultimate md residents lower own_twice refl)
        ∙ (by_test (seats ++ lower)).0 (subst (Completable (seats_meet facts) (seats_may_be_left facts)) (sym (append_assoc md residents lower)) goes.complete)

    empty_eligible : has_member (eligible facts reached lower no_pairs) ≡ true
    empty_eligible =
        ap has_member (eligible_some facts reached lower no_pairs refl)
        ∙ has_kept complete_below nobody_paired (candidates_of facts reached no_pairs) (empty_candidate number Penultimate md residents lower own_twice refl) empty_complete

    again_has : HasCandidate facts reached lower
    again_has = record { shape = no_pairs; room = empty_fits number Penultimate md residents lower own_twice refl; candidate = empty_eligible }

    module _ (chosen : Choice) (is' : choice facts reached lower ≡ Some chosen) where
      abbrev lists : Arrangement
      lists = chosen.lists

      abbrev left : List ℕ
      left = downfloaters facts reached lists

      left_complete : completable facts (left ++ lower) ≡ true
      left_complete =
          (IsIn-filter complete_below lists (candidates_of facts reached chosen.shape)
          (subst (IsIn lists) (eligible_some facts reached lower chosen.shape refl) (chosen_is facts reached lower chosen is').1)).1

      module _ (mate : ℕ → ℕ) (are : Mates (left ++ lower) mate) where
        abbrev frame : Frame
        frame = frame_of facts reached

        seat_differs : (x y : ℕ) → IsIn x (down frame lists) → IsIn y (down frame lists) → (x ≡ y → ⊥) → seat_of seats x ≡ seat_of seats y → ⊥
        seat_differs x y m n ne e =
            ne (same_number facts number Penultimate md residents own_twice x y (down_number facts number Penultimate md residents own_twice lists x m)
            (down_number facts number Penultimate md residents own_twice lists y n) e)

        -- A.9, C.5: no list of pairs that pairs out the downfloaters with all lower players has two of them in a pair
        no_two : (x y : ℕ) → IsIn x (down frame lists) → IsIn y (down frame lists) → x < y → mate (seat_of seats x) ≡ seat_of seats y → ⊥
        no_two x y m n rises is =
            let s = seat_of seats x in
            let t = seat_of seats y in
            let apart : s ≡ t → ⊥ = seat_differs x y m n (λ e. omega (arith, e, rises)) in
            let s_left : IsIn s left = map-IsIn (seat_of seats) x (down frame lists) m in
            let t_left : IsIn t left = map-IsIn (seat_of seats) y (down frame lists) n in
            let s_in : IsIn s (left ++ lower) = IsIn-front s left lower s_left in
            let met : seats_meet facts s (mate s) ≡ true = are.met s s_in (λ e. apart (sym e ∙ is)) in
            let may : seats_meet facts s t ≡ true = subst (λ w. seats_meet facts s w ≡ true) is met in
            let more = more_of facts number Penultimate md residents own_twice lower chosen is' refl goes.strangers x y m n rises may in
            let few : List ℕ = downfloaters facts reached more.lists in
            let back : mate t ≡ s = ap mate (sym is) ∙ are.back s s_in in
            let few_in : (b : ℕ) → IsIn b few → IsIn b left × (b ≡ s → ⊥) × (b ≡ t → ⊥) = λ b k.
            let from = IsIn-map (seat_of seats) b (down frame more.lists) k in
            let still = more.still_down from.0 from.2 in (
              subst (λ c. IsIn c left) (sym from.1) (map-IsIn (seat_of seats) from.0 (down frame lists) still.0),
              λ e. seat_differs from.0 x still.0 m still.1 (sym from.1 ∙ e),
              λ e. seat_differs from.0 y still.0 n still.2 (sym from.1 ∙ e),
            ) in
            let in_few : (b : ℕ) → IsIn b left → (b ≡ s → ⊥) → (b ≡ t → ⊥) → IsIn b few = λ b k ne ne'.
            let from = IsIn-map (seat_of seats) b (down frame lists) k in
            subst (λ c. IsIn c few) (sym from.1)
            (map-IsIn (seat_of seats) from.0 (down frame more.lists)
            (more.down_still from.0 from.2 (λ e. ne (from.1 ∙ ap (seat_of seats) e)) (λ e. ne' (from.1 ∙ ap (seat_of seats) e)))) in
            let lower_apart : (b : ℕ) → IsIn b left → IsIn b lower → ⊥ = twice-apart left lower (left_twice lists) in
            let among : (b : ℕ) → IsIn b (few ++ lower) → IsIn b (left ++ lower) × (b ≡ s → ⊥) × (b ≡ t → ⊥) = λ b k.
            elim (IsIn-append b few lower k) [
              | inl front ↦ (let h = few_in b front in (IsIn-front b left lower h.0, h.1, h.2))
              | inr low ↦ (
                IsIn-back b left lower low,
                λ e. lower_apart b (subst (λ c. IsIn c left) (sym e) s_left) low,
                λ e. lower_apart b (subst (λ c. IsIn c left) (sym e) t_left) low,
              )
            ] in
            let closed : (b : ℕ) → IsIn b (few ++ lower) → IsIn (mate b) (few ++ lower) = λ b k.
            let h = among b k in
            let own = are.back b h.0 in
            elim (IsIn-append (mate b) left lower (are.inside b h.0)) [
              | inl front ↦
                  IsIn-front (mate b) few lower
                  (in_few (mate b) front (λ e. h.2 (sym own ∙ ap mate e ∙ is)) (λ e. h.1 (sym own ∙ ap mate e ∙ back)))
              | inr low ↦ IsIn-back (mate b) few lower low
            ] in
            let few_are : Mates (few ++ lower) mate =
            fewer_mates (seats_meet facts) (seats_may_be_left facts) (seats_may_be_left facts) (left ++ lower) (few ++ lower) mate are (λ b k. (among b k).0) closed
            (λ b k e. are.left b (among b k).0 e) in
            let complete : complete_below more.lists ≡ true =
            (by_test (few ++ lower)).0 (mates_complete (seats_meet facts) (seats_may_be_left facts) (few ++ lower) mate (left_twice more.lists) few_are) in
            no_more facts number Penultimate md residents own_twice lower chosen is' refl goes.strangers x y more
            (ap has_member (eligible_some facts reached lower more.larger refl)
            ∙ has_kept complete_below more.lists (candidates_of facts reached more.larger)
            (more_candidate facts number Penultimate md residents own_twice lower chosen is' refl goes.strangers x y more) complete)

        pub no_mates : (s : ℕ) → IsIn s left → IsIn (mate s) left → mate s ≡ s
        no_mates s m n =
            let one = IsIn-map (seat_of seats) s (down frame lists) m in
            let two = IsIn-map (seat_of seats) (mate s) (down frame lists) n in
            let x = one.0 in
            let y = two.0 in
            elim (cases_order x y) [
              | inl same ↦ two.1 ∙ ap (seat_of seats) (sym same) ∙ sym one.1
              | inr (inl lower') ↦ absurd (no_two x y one.2 two.2 lower' (ap mate (sym one.1) ∙ two.1))
              | inr (inr higher) ↦
                  absurd (no_two y x two.2 one.2 higher (ap mate (sym two.1) ∙ are.back s (IsIn-front s left lower m) ∙ one.1))
            ]

      collapsed_has : (place : ℕ) → HasCandidate facts (bracket place Collapsed left lower) []
      collapsed_has place =
          let mates = mates_of (left ++ lower) (left_twice lists) ((by_test (left ++ lower)).1 left_complete) in
          final_has place Collapsed left lower refl (left_twice lists) mates.mate mates.are (no_mates mates.mate mates.are)

    again_goes : IsSound (penultimate_by facts reached lower (choice facts reached lower))
    again_goes =
        let found = has_choice reached lower again_has in
        let collapsed = bracket (number + 1) Collapsed (downfloaters facts reached found.chosen.lists) lower in
        subst (λ o. IsSound (penultimate_by facts reached lower o)) (sym found.is)
        (one_more reached found.chosen (final_bracket facts collapsed) (apart_of number Penultimate md residents (residents ++ lower) goes)
        (final_is collapsed (has_choice collapsed [] (collapsed_has found.chosen found.is (number + 1))) (λ first. absurd (first refl))))

  penultimate_goes : (number : ℕ) (md residents lower : List ℕ) → GoesOut facts md (residents ++ lower) → IsSound (penultimate_bracket facts (paired_again (bracket number Ordinary md residents)) lower)
  penultimate_goes number md residents lower goes = again_goes (number + 1) md residents lower goes

  -- ---- an ordinary bracket

  module _ (number : ℕ) (md residents lower : List ℕ) (goes : GoesOut facts md (residents ++ lower)) where
    abbrev first : Reached
    first = bracket number Ordinary md residents

    first_all : NoneTwice ((md ++ residents) ++ lower)
    first_all = subst NoneTwice (sym (append_assoc md residents lower)) goes.twice

    first_twice : NoneTwice (md ++ residents)
    first_twice = twice-front (md ++ residents) lower first_all

    first_has : HasCandidate facts first lower
    unfolding candidates_of
    first_has = record {
      shape = no_pairs;
      room = empty_fits number Ordinary md residents lower first_twice refl;
      candidate = ap has_member (eligible_all facts first lower no_pairs refl)
          ∙ has_kept (is_legal (numbers_meet facts first) (number_may_be_left facts first) (frame_of facts first)) nobody_paired (arrangements (frame_of facts first) no_pairs)
          (empty_in number Ordinary md residents lower first_twice refl) (empty_legal number Ordinary md residents lower first_twice refl);
    }

    -- those whom it leaves over go out with the lower seats where they can be paired out with them
    pub first_out : (chosen : Choice) → choice facts first lower ≡ Some chosen → completable facts (downfloaters facts first chosen.lists ++ lower) ≡ true
        → GoesOut facts (downfloaters facts first chosen.lists) lower
    first_out chosen is' e = record {
      twice = all_down number Ordinary md residents lower first_twice refl first_all chosen.lists;
      strangers = down_strangers facts number Ordinary md residents first_twice lower chosen is' refl goes.strangers refl;
      complete = (by_test (downfloaters facts first chosen.lists ++ lower)).1 e;
    }

    module _ (goes_on : List ℕ → Round) (later : (left : List ℕ) → GoesOut facts left lower → IsSound (goes_on left)) where
      ordinary_goes : IsSound (ordinary_bracket facts first lower goes_on)
      ordinary_goes =
          let found = has_choice first lower first_has in
          let left : List ℕ = downfloaters facts first found.chosen.lists in
          let own = apart_of number Ordinary md residents (residents ++ lower) goes in
          let again = penultimate_goes number md residents lower goes in
          subst (λ o. IsSound (ordinary_by facts first lower goes_on o)) (sym found.is)
          (cond_both (completable facts (left ++ lower)) (pairing_in facts first found.chosen (goes_on left))
          (passing facts first found.chosen (penultimate_bracket facts (paired_again first) lower)) IsSound
          (λ e. one_more first found.chosen (goes_on left) own (later left (first_out found.chosen found.is e))) (λ e. (again.0, (own, again.1))))

  -- ---- all brackets

  brackets_go : (number : ℕ) (md : List ℕ) (groups : List (List ℕ)) → GoesOut facts md (concat groups) → IsSound (brackets facts number md groups)
  brackets_go number md [] goes = (refl, tt)
  brackets_go number md (group ∷ []) goes =
      let last = bracket number Last md group in
      final_is last (has_choice last [] (last_has number md group (subst (GoesOut facts md) (append-nil group) goes))) (apart_of number Last md group (group ++ []) goes)
  brackets_go number md (group ∷ next ∷ groups) goes =
      ordinary_goes number md group (concat (next ∷ groups)) goes (λ left. brackets facts (number + 1) left (next ∷ groups))
      (λ left goes'. brackets_go (number + 1) left (next ∷ groups) goes')

  -- what all have to be where a walk begins
  pub everybody_out : (all : List ℕ) → all ≡ everybody facts → completable facts all ≡ true → GoesOut facts [] all
  everybody_out all same e = record {
    twice = subst NoneTwice (sym same) (rises-twice (everybody facts) (numbers_rise 0 (length facts.seats)));
    strangers = λ s t m n may. absurd m;
    complete = (by_test all).1 e;
  }

  whole_sound : completable facts (everybody facts) ≡ true → IsSound (brackets facts 1 [] (scoregroups facts (everybody facts)))
  whole_sound e =
      let all : List ℕ = everybody facts in
      brackets_go 1 [] (scoregroups facts all) (subst (GoesOut facts []) (sym (concat_scoregroups facts all)) (everybody_out all refl e))

  pub moved_down_apart : (visit : Visit) → IsIn visit (round facts).reached → (visit.bracket.kind ≡ Collapsed → ⊥) → NoTwoMayMeet facts (moved_down visit.bracket)
  moved_down_apart visit m =
      member_has (λ (visit : Visit). IsApart visit.bracket) (round facts).reached
      (cond_both (completable facts (everybody facts)) (brackets facts 1 [] (scoregroups facts (everybody facts))) (no_pairing facts)
      (λ (r : Round). AllByRecursion (λ visit. IsApart visit.bracket) r.reached) (λ e. (whole_sound e).1) (λ e. tt)) visit m

  -- where everybody can be paired out, the round is paired
  pub round_goes : completable facts (everybody facts) ≡ true → is_some (round facts).pairing ≡ true
  round_goes e = ap (λ (t : Bool). is_some (cond t (brackets facts 1 [] (scoregroups facts (everybody facts))) (no_pairing facts)).pairing) e ∙ (whole_sound e).0

  -- where not everybody can be, it is not
  pub not_paired : completable facts (everybody facts) ≡ false → (round facts).pairing ≡ None
  not_paired e = ap (λ (t : Bool). (cond t (brackets facts 1 [] (scoregroups facts (everybody facts))) (no_pairing facts)).pairing) e

  pub paired_exactly : Completable (seats_meet facts) (seats_may_be_left facts) (everybody facts) ↔ (is_some (round facts).pairing ≡ true)
  paired_exactly = (
    λ whole. round_goes ((by_test (everybody facts)).0 whole),
    λ h. (by_test (everybody facts)).1 (true_from_ne_false (completable facts (everybody facts)) (λ e. false≢true (sym (ap is_some (not_paired e)) ∙ h))),
  )

  pub unpaired_exactly : ((round facts).pairing ≡ None) ↔ (completable facts (everybody facts) ≡ false)
  unpaired_exactly = (λ h. false_from_ne_true (completable facts (everybody facts)) (λ e. true≢false (sym (round_goes e) ∙ ap is_some h)), not_paired)

  -- ---- what the calls on a round answer

  pub all_complete : completable facts (everybody facts) ≡ true → Completable (seats_meet facts) (seats_may_be_left facts) (everybody facts)
  all_complete = (by_test (everybody facts)).1

  pub not_complete : completable facts (everybody facts) ≡ false → Completable (seats_meet facts) (seats_may_be_left facts) (everybody facts) → ⊥
  not_complete e whole = let bad : true ≡ false = sym ((by_test (everybody facts)).0 whole) ∙ e in cc

  pub nothing_reached : (number : ℕ) → completable facts (everybody facts) ≡ false → visit_of number (round facts).reached ≡ None
  nothing_reached number e =
      ap (λ (t : Bool). visit_of number (cond t (brackets facts 1 [] (scoregroups facts (everybody facts))) (no_pairing facts)).reached) e ∙ none_past number [] (λ some. some)

  -- ---- along the walk

  has_by : (kind : BracketKind) (number : ℕ) (md residents lower : List ℕ) → HasWayOut facts kind number md residents lower → HasCandidate facts (bracket number kind md residents) lower
  has_by Ordinary number md residents lower out = first_has number md residents lower out.0
  has_by Last number md residents lower out =
      subst (HasCandidate facts (bracket number Last md residents)) (sym out.1)
      (last_has number md residents (subst (GoesOut facts md) (ap (λ xs. residents ++ xs) out.1 ∙ append-nil residents) out.0))
  has_by Penultimate number md residents lower out = again_has number md residents lower out.0
  has_by Collapsed number md residents lower out = out.0

  -- a bracket that comes next has a candidate
  pub stands_has : (number : ℕ) (reached : Reached) (lower : List ℕ) → StandsBefore facts number reached lower → HasCandidate facts reached lower
  stands_has number reached lower s =
      subst (λ (b : Reached). HasCandidate facts b lower) (sym s.is) (has_by reached.kind number s.md s.residents lower s.out)

  -- those left over by an ordinary one go out with the lower seats where they can be paired out with them
  pub ordinary_out : (number : ℕ) (reached : Reached) (lower : List ℕ) (made : Choice) → StandsBefore facts number reached lower → reached.kind ≡ Ordinary
      → choice facts reached lower ≡ Some made → completable facts (downfloaters facts reached made.lists ++ lower) ≡ true → GoesOut facts (downfloaters facts reached made.lists) lower
  ordinary_out number reached lower made s kind is' e =
      let own : reached ≡ bracket number Ordinary s.md s.residents = s.is ∙ ap (λ k. bracket number k s.md s.residents) kind in
      let out = subst (λ k. HasWayOut facts k number s.md s.residents lower) kind s.out in
      subst (λ (b : Reached). choice facts b lower ≡ Some made → completable facts (downfloaters facts b made.lists ++ lower) ≡ true → GoesOut facts (downfloaters facts b made.lists) lower)
      (sym own) (first_out number s.md s.residents lower out.0 made) is' e

  -- those left over by the penultimate one and all lower players have a candidate
  pub collapsed_out : (number : ℕ) (reached : Reached) (lower : List ℕ) (made : Choice) (place : ℕ) → StandsBefore facts number reached lower → reached.kind ≡ Penultimate
      → choice facts reached lower ≡ Some made → HasCandidate facts (bracket place Collapsed (downfloaters facts reached made.lists) lower) []
  collapsed_out number reached lower made place s kind is' =
      let own : reached ≡ bracket number Penultimate s.md s.residents = s.is ∙ ap (λ k. bracket number k s.md s.residents) kind in
      let out = subst (λ k. HasWayOut facts k number s.md s.residents lower) kind s.out in
      subst (λ (b : Reached). choice facts b lower ≡ Some made → HasCandidate facts (bracket place Collapsed (downfloaters facts b made.lists) lower) [])
      (sym own) (λ e. collapsed_has number s.md s.residents lower out.0 made e place) is'
