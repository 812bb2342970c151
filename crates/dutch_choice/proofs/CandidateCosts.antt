-- The pairs of a candidate that can be chosen, in the penultimate bracket with those of the rest, are a matching of the bracket's graph, which
-- costs no more than its shape does (C.04.3 B.1, C.1 to C.5).
use Rattle.std.proofs.Common.{◌≡◌, ℕ, zero, suc, ◌+◌, ◌-◌, ◌*◌, ◌<◌, ◌≤◌, Bool, true, false, not, cond, ◌&&◌, ◌||◌, ◌==◌, nat_le, List, [], ◌∷◌, ◌++◌, All, map, length, get_or, sum_by, inl, inr, refl, sym, ap, subst, ◌∙◌, arith}
use Rattle.std.specs.Prelude.{◌%◌}
use Rattle.std.specs.List.{AllByRecursion}
use Rattle.std.proofs.lemmas.Bool.{and_from, and_parts, cases_eq, cases_lt, eq-eqb, le-leb, ne_eqb, or_left, or_right}
use Rattle.std.proofs.lemmas.List.{append-nil, get_or_append_left, get_or-append-add, length-map, map-append}
use Rattle.std.proofs.lemmas.List.Elements.{All-nil, All-cons, All-head, All-tail}
use Rattle.std.proofs.lemmas.List.Sums.{sum_by-cons, sum_by-append}
use Rattle.dual.specs.Prelude.{FloorTable, IsFloor, IsMatching, MakeUp, cost, in_both}
use Rattle.dual.proofs.Sums.{sum_none}
use Rattle.dual.proofs.WeakDuality.{counted}
use Rattle.dutch_arrangements.specs.declared.bracket.Shape.{Shape}
use Rattle.dutch_arrangements.specs.Prelude.{Arrangement, Frame, IsIn, IsMovedDown, IsResident, all_meet, arrangements, by_place, down, is_legal, leaves_one, numbers_from}
use Rattle.dutch_sequence.proofs.Lists.{map-numbers_from}
use Rattle.dutch_sequence.proofs.Members.{length-numbers, numbers-append}
use Rattle.dutch_sequence.proofs.Orders.{all_members, IsIn-filter}
use Rattle.dutch_player.specs.Prelude.{Facts}
use Rattle.dutch_bracket.specs.Completion.{Completable}
use Rattle.dutch_bracket.specs.declared.reached.BracketKind.{BracketKind}
use Rattle.dutch_bracket.specs.declared.reached.BracketKind.TheVariants.{Ordinary, Last, Penultimate, Collapsed}
use Rattle.dutch_bracket.specs.Prelude.{AllNumbers, Context, FitsHere, IsOf, Reached, candidates_of, completable, downfloaters, eligible_here, ends_round, frame_of, has_member, is_penultimate, number_may_be_left, numbers_meet, score_at, seat_of, seats_may_be_left, seats_meet}
use Rattle.dutch_bracket.specs.Eligible.{can_be_chosen}
use Rattle.dutch_bracket.proofs.AllLemmas.{all_join}
use Rattle.dutch_bracket.proofs.ArrangementParts.{numbers_above}
use Rattle.dutch_completion.proofs.Covering.{completable_by_test}
use Rattle.dutch_bracket.proofs.DownLemmas.{down_numbers}
use Rattle.dutch_completion.proofs.EligibleLemmas.{eligible_is}
use Rattle.dutch_bracket.proofs.Everybody.{arranged}
use Rattle.dutch_candidates.proofs.CandidatePairs.{all_onto, first_count, high, lists, low, numbers_total, other_count, places_total, s1_low, s1r_high, s2_high, s2r_high}
use Rattle.dutch_bracket.proofs.LegalPairs.{IsArranged, in_passes, legal_of}
use Rattle.dutch_candidates.proofs.PairedOut.{Meet, PairedOut, each, few_left, odd_one, one_by_one, paired_out, sums_rise, sums_same}
use Rattle.dutch_bracket.proofs.ShapeSearch.{member_of}
use Rattle.dutch_bracket.proofs.Totals.{total, total_sum}
use Rattle.dutch_choice.specs.declared.certified.ShapeFloor.{ShapeFloor}
use Rattle.dutch_choice.specs.ShapeCosts.{IsShapeFloor, alone_cost, any_seat, are_pair, are_paired_out, cost_of, count_all, may_stay, shape_costs, spare_cost}

-- ---- numbers that all weigh the same

all_weigh_more : (w : ℕ → ℕ) (xs : List ℕ) → ((z : ℕ) → IsIn z xs → w z ≡ 4098) → total w xs ≡ 4098 * length xs
all_weigh_more w [] same = refl
all_weigh_more w (x ∷ xs) same = omega (arith, same x (inl refl), all_weigh_more w xs (λ z m. same z (inr m)))

all_weigh : (w : ℕ → ℕ) (xs : List ℕ) → ((z : ℕ) → IsIn z xs → w z ≡ 4096) → total w xs ≡ 4096 * length xs
all_weigh w [] same = refl
all_weigh w (x ∷ xs) same = omega (arith, same x (inl refl), all_weigh w xs (λ z m. same z (inr m)))

left_may : (may : ℕ → Bool) (ends : Bool) (left : List ℕ) → (not ends || leaves_one may left) ≡ true → AllByRecursion (λ v. (not ends || may v) ≡ true) left
left_may may false [] e = tt
left_may may false (v ∷ left) e = (refl, left_may may false left refl)
left_may may true [] e = tt
left_may may true (v ∷ []) e = (e, tt)
left_may may true (v ∷ w ∷ left) e = absurd (let bad : false ≡ true = e in cc)

-- ---- who may be left over

-- a bracket that is not the penultimate one, and no ordinary one, ends the round
other_ends : (kind : BracketKind) → is_penultimate kind ≡ false → ¬ (kind ≡ Ordinary) → ends_round kind ≡ true
other_ends Ordinary once other = absurd (other refl)
other_ends Last once other = refl
other_ends Penultimate once other = absurd (let bad : true ≡ false = once in cc)
other_ends Collapsed once other = refl

few_by : (may : ℕ → Bool) (ends : Bool) (left : List ℕ) → ends ≡ true → (not ends || leaves_one may left) ≡ true → length left ≤ 1
few_by may true [] on e = omega arith
few_by may true (v ∷ []) on e = omega arith
few_by may true (v ∷ w ∷ left) on e = absurd (let bad : false ≡ true = e in cc)
few_by may false left on e = absurd (let bad : false ≡ true = on in cc)

odd_is : (p : Bool) (n k : ℕ) → k ≡ n % 2 → cond p 16777216 0 * k ≡ cond (p && (n % 2 == 1)) 16777216 0
odd_is true n k e = elim (cases_eq (n % 2) 1) [
  | inl odd ↦
      (let given : cond (n % 2 == 1) 16777216 0 ≡ 16777216 = ap (λ t. cond t 16777216 0) (eq-eqb (n % 2) 1 odd) in
      let all : 16777216 * k ≡ 16777216 = omega (arith, e, odd) in all ∙ sym given)
  | inr even ↦
      (let given : cond (n % 2 == 1) 16777216 0 ≡ 0 = ap (λ t. cond t 16777216 0) (ne_eqb (n % 2) 1 even) in
      let none : n % 2 ≡ 0 = elim (cases_lt 0 (n % 2)) [ inl some ↦ absurd (even (omega (arith, some))) | inr few ↦ omega (arith, few) ] in
      let all : 16777216 * k ≡ 0 = omega (arith, e, none) in all ∙ sym given)
]
odd_is false n k e = let none : 0 * k ≡ 0 = omega arith in none

module _ (context : Context) where
  abbrev facts : Facts
  facts = context.facts

  abbrev reached : Reached
  reached = context.reached

  abbrev n : ℕ
  n = length context.reached.seats

  abbrev q : ℕ
  q = context.reached.mdps

  abbrev frame : Frame
  frame = frame_of context.facts context.reached

  abbrev w : ℕ → ℕ
  w = alone_cost context

  count : length frame.scores ≡ n
  count = length-map context.reached.seats (score_at context.facts)

  -- ---- what numbers cost alone

  cost_low : (v : ℕ) → v ≤ q → w v ≡ 4098
  cost_low v h = ap (λ t. cond t 4098 (cond (nat_le v n) 4096 0)) (low v q h)

  cost_high : (v : ℕ) → q < v → v ≤ n → w v ≡ 4096
  cost_high v h g = ap (λ t. cond t 4098 (cond (nat_le v n) 4096 0)) (high v q h) ∙ ap (λ t. cond t 4096 0) (low v n g)

  cost_below : (v : ℕ) → q < v → n < v → w v ≡ 0
  cost_below v h g = ap (λ t. cond t 4098 (cond (nat_le v n) 4096 0)) (high v q h) ∙ ap (λ t. cond t 4096 0) (high v n g)

  -- ---- seats

  -- the numbers of the lower seats
  abbrev pub lowers : List ℕ
  lowers = numbers_from (1 + n) (length context.lower)

  pub inside_mapped : (vs : List ℕ) → AllNumbers context.reached.seats vs → map (any_seat context) vs ≡ map (seat_of context.reached.seats) vs
  inside_mapped [] all = refl
  inside_mapped (v ∷ vs) all =
      ap (λ x. x ∷ map (any_seat context) vs) (get_or_append_left context.reached.seats context.lower 0 (v - 1) (omega (arith, all.0.0, all.0.1)))
      ∙ ap (λ xs. seat_of context.reached.seats v ∷ xs) (inside_mapped vs all.1)

  pub lower_mapped : map (any_seat context) lowers ≡ context.lower
  lower_mapped =
      map-numbers_from (any_seat context) context.lower (1 + n)
      (λ j lt.
      ap (λ k. get_or (context.reached.seats ++ context.lower) k 0) (let e : ((1 + n) + j) - 1 ≡ n + j = omega arith in e)
      ∙ get_or-append-add context.reached.seats context.lower j 0)

  module _ (of' : IsOf context.facts context.reached) (shape : Shape) (a : Arrangement) (room : FitsHere context shape)
      (m : IsIn a (candidates_of context.facts context.reached shape)) where
    within : q ≤ n
    within = omega (arith, of'.sound.within, count)

    inside : frame.mdps ≤ length frame.scores
    inside = of'.sound.within

    legal : IsArranged context.facts context.reached shape a
    legal = legal_of context.facts context.reached shape a m

    abbrev left : List ℕ
    left = down frame a

    abbrev firsts : List (ℕ × ℕ)
    firsts = by_place a.s1 a.s2

    abbrev others : List (ℕ × ℕ)
    others = by_place a.s1r a.s2r ++ []

    abbrev pairs : List (ℕ × ℕ)
    pairs = firsts ++ others

    -- ---- the pairs in the bracket

    whole : MakeUp (numbers_from 1 n) pairs left
    whole u = omega (
      arith,
      arranged u frame shape a inside legal.arranged,
      ap (λ k. total u (numbers_from 1 k)) count,
      total_sum u (numbers_from 1 n),
      total_sum u left,
      sum_by-append (in_both u) firsts others,
      sum_by-append (in_both u) (by_place a.s1r a.s2r) [],
      places_total u a.s1 a.s2 (first_count facts reached shape a within legal),
      places_total u a.s1r a.s2r (other_count facts reached shape a within legal),
    )

    abbrev IsPair : ℕ × ℕ → Type 0
    IsPair pair = are_pair context pair.0 pair.1 ≡ true

    apart : (x y : ℕ) (one other : Bool) → nat_le x q ≡ one → nat_le y q ≡ other → not (one && other) ≡ true → numbers_meet facts reached x y ≡ true → IsPair (x, y)
    apart x y one other first second not_both met =
        and_from (numbers_meet facts reached x y) _ met
        (ap (λ b. not (b && nat_le y q)) first ∙ ap (λ b. not (one && b)) second ∙ not_both)

    pub all_pairs : All IsPair pairs
    all_pairs =
        all_onto IsPair (numbers_meet facts reached) (IsMovedDown frame) (IsResident frame)
        (λ x y one other met. apart x y true false (low x q one.1) (high y q other.0) refl met)
        a.s1 a.s2 (s1_low facts reached shape a within legal) (s2_high facts reached shape a within legal) legal.moved_down others
        (all_onto IsPair (numbers_meet facts reached) (IsResident frame) (IsResident frame)
        (λ x y one other met. apart x y false false (high x q one.0) (high y q other.0) refl met)
        a.s1r a.s2r (s1r_high facts reached shape a within legal) (s2r_high facts reached shape a within legal) legal.residents [] (All-nil IsPair))

    abbrev weigh : ℕ × ℕ → ℕ
    weigh pair = (shape_costs context).weight pair.0 pair.1

    pairs_cost : (ps : List (ℕ × ℕ)) → All IsPair ps → sum_by weigh ps ≡ 0
    pairs_cost [] all = refl
    pairs_cost (pair ∷ ps) all =
        let here : weigh pair ≡ 0 = ap (λ t. cond t 0 (w pair.0 + w pair.1)) (All-head IsPair pair ps all) in
        omega (arith, sum_by-cons weigh pair ps, here, pairs_cost ps (All-tail IsPair pair ps all))

    -- ---- what those left over cost

    residents_all : (z : ℕ) → IsResident frame z → w z ≡ 4096
    residents_all z h = cost_high z h.0 (omega (arith, h.1, count))

    lows_cost : (first many : ℕ) → 0 < first → first + many ≤ q + 1 → total w (numbers_from first many) ≡ 4098 * many
    lows_cost first zero h g = refl
    lows_cost first (suc many) h g = omega (arith, cost_low first (omega (arith, g)), lows_cost (suc first) many (omega arith) (omega (arith, g)))

    highs_cost : (first many : ℕ) → q < first → first + many ≤ n + 1 → total w (numbers_from first many) ≡ 4096 * many
    highs_cost first zero h g = refl
    highs_cost first (suc many) h g =
        omega (arith, cost_high first h (omega (arith, g)), highs_cost (suc first) many (omega (arith, h)) (omega (arith, g)))

    all_cost : total w (numbers_from 1 n) ≡ 4098 * q + 4096 * (n - q)
    all_cost =
        omega (
          arith,
          ap (λ k. total w (numbers_from 1 k)) (let e : n ≡ q + (n - q) = omega (arith, within) in e),
          numbers_total w 1 q (n - q),
          lows_cost 1 q (omega arith) (omega arith),
          highs_cost (1 + q) (n - q) (omega arith) (omega (arith, within)),
        )

    left_cost : sum_by w left ≡ 4096 * ((n - shape.pairs) - shape.pairs) + 2 * (q - shape.mdps)
    left_cost =
        let four = lists facts reached shape a within legal in
        omega (
          arith,
          arranged w frame shape a inside legal.arranged,
          ap (λ k. total w (numbers_from 1 k)) count,
          all_cost,
          total_sum w left,
          all_weigh_more w a.s1 (λ z i. cost_low z (s1_low facts reached shape a within legal z i).1),
          all_weigh w a.s2 (λ z i. residents_all z (s2_high facts reached shape a within legal z i)),
          all_weigh w a.s1r (λ z i. residents_all z (s1r_high facts reached shape a within legal z i)),
          all_weigh w a.s2r (λ z i. residents_all z (s2r_high facts reached shape a within legal z i)),
          four.s1.count,
          four.s2.count,
          four.s1r.count,
          four.s2r.count,
          within,
          count,
          room.within_pairs,
          room.within_moved_down,
          room.residents_enough,
        )

    -- ---- a matching of the graph

    pub record Whole : Type 0 where
      pub pairs_all : List (ℕ × ℕ)
      pub out : List ℕ
      pub matching : IsMatching (shape_costs context) (numbers_from 1 (count_all context)) pairs_all out
      pub no_more : cost (shape_costs context) pairs_all out ≤ cost_of context shape
      pub few : ¬ (context.reached.kind ≡ Ordinary) → length out ≤ 1
      pub more : List (ℕ × ℕ)
      pub parts : pairs_all ≡ pairs ++ more

    meets_pair : (pair : ℕ × ℕ) → IsPair pair → (shape_costs context).meets pair.0 pair.1 ≡ true
    meets_pair pair e = or_left (are_pair context pair.0 pair.1) (are_paired_out context pair.0 pair.1) e

    abbrev Meets : ℕ × ℕ → Type 0
    Meets pair = (shape_costs context).meets pair.0 pair.1 ≡ true

    abbrev Stays : ℕ → Type 0
    Stays v = may_stay context v ≡ true

    so : {X : Type 0} (P Q : X → Type 0) → ((x : X) → P x → Q x) → (xs : List X) → All P xs → All Q xs
    so P Q f [] all = All-nil Q
    so P Q f (x ∷ xs) all = All-cons Q x xs (f x (All-head P x xs all)) (so P Q f xs (All-tail P x xs all))

    so_each : {X : Type 0} (P Q : X → Type 0) → ((x : X) → P x → Q x) → (xs : List X) → AllByRecursion P xs → AllByRecursion Q xs
    so_each P Q f [] all = tt
    so_each P Q f (x ∷ xs) all = (f x all.0, so_each P Q f xs all.1)

    -- elsewhere than in the penultimate bracket
    module _ (once : is_penultimate context.reached.kind ≡ false) where
      left_legal : (not (ends_round context.reached.kind) || leaves_one (number_may_be_left facts reached) left) ≡ true
      unfolding candidates_of
      left_legal =
          let passes = in_passes (is_legal (numbers_meet facts reached) (number_may_be_left facts reached) frame) a (arrangements frame shape) m in
          let first = and_parts (all_meet (numbers_meet facts reached) a.s1 a.s2) _ passes in
          (and_parts (all_meet (numbers_meet facts reached) a.s1r a.s2r) _ first.1).1

      left_stays : AllByRecursion Stays left
      left_stays =
          so_each (λ v. (not (ends_round context.reached.kind) || number_may_be_left facts reached v) ≡ true) Stays
          (λ v e. ap (λ t. cond t (seats_may_be_left facts (any_seat context v)) (not (ends_round context.reached.kind) || number_may_be_left facts reached v)) once ∙ e)
          left (left_may (number_may_be_left facts reached) (ends_round context.reached.kind) left left_legal)

      same_size : count_all context ≡ n
      same_size = ap (λ t. cond t (n + length context.lower) n) once

      no_bye : (v : ℕ) → (shape_costs context).left_cost v ≡ w v
      no_bye v = omega (arith, ap {B = ℕ} (λ t. cond t 16777216 0) once)

      alone : Whole
      alone = record {
        pairs_all = pairs;
        out = left;
        matching = record {
          whole = λ u. whole u ∙ ap (λ k. sum_by u (numbers_from 1 k)) (sym same_size);
          may_meet = so IsPair Meets meets_pair pairs all_pairs;
          may_be_left = each Stays left left_stays;
        };
        no_more = omega (
          arith,
          pairs_cost pairs all_pairs,
          sums_same (shape_costs context).left_cost w left (all_members (λ v. (shape_costs context).left_cost v ≡ w v) left (λ v i. no_bye v)),
          left_cost,
        );
        few = λ other.
            few_by (number_may_be_left facts reached) (ends_round context.reached.kind) left (other_ends context.reached.kind once other) left_legal;
        more = [];
        parts = sym (append-nil pairs);
      }

    -- in the penultimate bracket
    module _ (again : is_penultimate context.reached.kind ≡ true) (whole_rest : Completable (seats_meet context.facts) (seats_may_be_left context.facts) (downfloaters context.facts context.reached a ++ context.lower)) where
      seats_are : map (any_seat context) (left ++ lowers) ≡ map (seat_of context.reached.seats) left ++ context.lower
      seats_are =
          map-append (any_seat context) left lowers
          ∙ ap (λ xs. xs ++ map (any_seat context) lowers) (inside_mapped left (down_numbers facts reached a))
          ∙ ap (λ xs. map (seat_of context.reached.seats) left ++ xs) lower_mapped

      abbrev Some' : ℕ → Type 0
      Some' v = 1 ≤ v

      all_some : AllByRecursion Some' (left ++ lowers)
      all_some =
          all_join Some' left lowers
          (so_each (λ v. (0 < v) × (v ≤ n)) Some' (λ v h. omega (arith, h.0)) left (down_numbers facts reached a))
          (so_each (λ v. n < v) Some' (λ v h. omega (arith, h)) lowers (numbers_above n (1 + n) (length context.lower) (omega arith)))

      rest : PairedOut (any_seat context) (seats_meet context.facts) Some' (left ++ lowers) whole_rest.out
      rest =
          paired_out (any_seat context) (seats_meet context.facts) Some' whole_rest.pairs (downfloaters facts reached a ++ context.lower) whole_rest.out whole_rest.covered
          (left ++ lowers) seats_are all_some

      one_left : (length rest.out ≤ 1) × AllByRecursion (λ v. seats_may_be_left facts (any_seat context v) ≡ true) rest.out
      one_left = few_left (seats_may_be_left facts) (any_seat context) rest.out whole_rest.out rest.out_is whole_rest.left_out

      lowers_cost : sum_by w lowers ≡ 0
      lowers_cost =
          sums_same w (λ v. 0) lowers
          (so_each (λ v. n < v) (λ v. w v ≡ 0) (λ v h. cost_below v (omega (arith, h, within)) h) lowers (numbers_above n (1 + n) (length context.lower) (omega arith)))
          ∙ sum_none lowers

      abbrev Paired : ℕ × ℕ → Type 0
      Paired = Meet (any_seat context) (seats_meet context.facts) Some'

      rest_meets : (pair : ℕ × ℕ) → Paired pair → Meets pair
      rest_meets pair h =
          or_right (are_pair context pair.0 pair.1) (are_paired_out context pair.0 pair.1)
          (and_from (is_penultimate context.reached.kind) _ again
          (and_from (nat_le 1 pair.0 && nat_le 1 pair.1) _
          (and_from (nat_le 1 pair.0) (nat_le 1 pair.1) (le-leb 1 pair.0 h.0.0) (le-leb 1 pair.1 h.0.1)) h.1))

      no_more_by : (t : Bool) (x : ℕ) → cond t 0 x ≤ x
      no_more_by true x = omega arith
      no_more_by false x = omega arith

      rest_costs : (pair : ℕ × ℕ) → Paired pair → weigh pair ≤ in_both w pair
      rest_costs pair h = no_more_by (are_pair context pair.0 pair.1) (w pair.0 + w pair.1)

      all_size : count_all context ≡ n + length context.lower
      all_size = ap (λ t. cond t (n + length context.lower) n) again

      with_bye : (v : ℕ) → (shape_costs context).left_cost v ≡ w v + 16777216
      with_bye v = ap (λ t. w v + cond t 16777216 0) again

      out_cost : (xs : List ℕ) → sum_by (shape_costs context).left_cost xs ≡ sum_by w xs + 16777216 * length xs
      out_cost [] = refl
      out_cost (x ∷ xs) = omega (arith, sum_by-cons (shape_costs context).left_cost x xs, sum_by-cons w x xs, with_bye x, out_cost xs)

      matched : IsMatching (shape_costs context) (numbers_from 1 (count_all context)) (pairs ++ rest.pairs) rest.out
      matched = record {
        whole = λ u. omega (
          arith,
          sum_by-append (in_both u) pairs rest.pairs,
          rest.whole u,
          sum_by-append u left lowers,
          whole u,
          ap (λ k. sum_by u (numbers_from 1 k)) all_size,
          ap (sum_by u) (numbers-append 1 n (length context.lower)),
          sum_by-append u (numbers_from 1 n) lowers,
        );
        may_meet = each Meets (pairs ++ rest.pairs)
            (all_join Meets pairs rest.pairs (one_by_one Meets pairs (so IsPair Meets meets_pair pairs all_pairs)) (so_each Paired Meets rest_meets rest.pairs rest.meet));
        may_be_left = each Stays rest.out
            (so_each (λ v. seats_may_be_left facts (any_seat context v) ≡ true) Stays
            (λ v e. ap (λ t. cond t (seats_may_be_left facts (any_seat context v)) (not (ends_round context.reached.kind) || number_may_be_left facts reached v)) again ∙ e)
            rest.out one_left.1);
      }

      few_out : length rest.out ≡ count_all context % 2
      few_out =
          odd_one (length (pairs ++ rest.pairs)) (length rest.out) (count_all context)
          (counted (shape_costs context) (numbers_from 1 (count_all context)) (pairs ++ rest.pairs) rest.out matched
          ∙ length-numbers 1 (count_all context)) one_left.0

      spare : 16777216 * length rest.out ≡ spare_cost context
      spare = ap (λ t. cond t 16777216 0 * length rest.out) (sym again) ∙ odd_is (is_penultimate context.reached.kind) (count_all context) (length rest.out) few_out

      below : Whole
      below = record {
        pairs_all = pairs ++ rest.pairs;
        out = rest.out;
        matching = matched;
        no_more = omega (
          arith,
          sum_by-append weigh pairs rest.pairs,
          pairs_cost pairs all_pairs,
          sums_rise weigh (in_both w) rest.pairs (so_each Paired (λ pair. weigh pair ≤ in_both w pair) rest_costs rest.pairs rest.meet),
          rest.whole w,
          sum_by-append w left lowers,
          lowers_cost,
          left_cost,
          out_cost rest.out,
          spare,
        );
        few = λ other. one_left.0;
        more = rest.pairs;
        parts = refl;
      }

    -- a candidate that can be chosen
    pub whole_of : (t : Bool) → is_penultimate context.reached.kind ≡ t
        → (not t || completable facts (downfloaters facts reached a ++ context.lower)) ≡ true → Whole
    unfolding completable
    whole_of true again can =
        below again ((completable_by_test (seats_meet facts) (seats_may_be_left facts) (downfloaters facts reached a ++ context.lower)).1 can)
    whole_of false once can = alone once

    floor_at : (floor : FloorTable)
        → ((count' : ℕ) → IsFloor (shape_costs context) (numbers_from 1 (count_all context)) count' floor)
        → Whole → floor.base ≤ floor.debt + cost_of context shape
    floor_at floor is all =
        let bound = is (length all.out) all.pairs_all all.out all.matching refl [] []
        (record { others = all.pairs_all; whole = λ f. omega arith }) (record { others = all.out; whole = λ f. omega arith }) in
        omega (arith, bound, all.no_more)

  -- what a certificate that is confirmed tells of every shape with a candidate that can be chosen
  pub floor_of_shapes : IsOf context.facts context.reached → (floor : FloorTable)
      → ((count' : ℕ) → IsFloor (shape_costs context) (numbers_from 1 (count_all context)) count' floor)
      → (shape : Shape) → FitsHere context shape → has_member (eligible_here context shape) ≡ true → floor.base ≤ floor.debt + cost_of context shape
  floor_of_shapes of' floor is shape room some =
      let one = member_of (eligible_here context shape) some in
      let kept = IsIn-filter (can_be_chosen context.facts context.reached context.lower) one.0 (candidates_of context.facts context.reached shape)
      (subst (IsIn one.0) (eligible_is context.facts context.reached context.lower shape) one.1) in
      floor_at of' shape one.0 room kept.0 floor is (whole_of of' shape one.0 room kept.0 (is_penultimate context.reached.kind) refl kept.1)

-- the same for players and numbers that are these
pub floor_told : (context : Context) → IsOf context.facts context.reached → (players : List ℕ)
    → players ≡ numbers_from 1 (count_all context) → (floor : FloorTable)
    → ((count' : ℕ) → IsFloor (shape_costs context) players count' floor) → (told : ShapeFloor) → told.base ≡ floor.base → told.debt ≡ floor.debt
    → IsShapeFloor context told
floor_told context of' players are floor is told base debt shape room some =
    let all : (count' : ℕ) → IsFloor (shape_costs context) (numbers_from 1 (count_all context)) count' floor =
    λ count'. subst (λ (xs : List ℕ). IsFloor (shape_costs context) xs count' floor) are (is count') in
    omega (arith, base, debt, floor_of_shapes context of' floor all shape room some)
