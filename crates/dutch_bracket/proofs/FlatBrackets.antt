-- Brackets whose residents have one score, and the candidates of a bracket.
use Rattle.std.proofs.Common.{◌≡◌, ℕ, zero, suc, ◌+◌, ◌-◌, ◌<◌, ◌≤◌, List, ◌∷◌, length, get_or, inl, inr, refl, sym, ap, ◌∙◌, subst, arith}
use Rattle.std.specs.Prelude.{slice_index, Some}
use Rattle.std.proofs.lemmas.List.{get_or-map}
use Rattle.std.proofs.lemmas.Bool.{cases_lt}
use Rattle.dutch_arrangements.specs.declared.bracket.Shape.{Shape}
use Rattle.dutch_arrangements.specs.Prelude.{IsIn, IsNonAscending, Candidate, Frame, Arrangement, candidates, arrangements, is_legal, down}
use Rattle.dutch_player.specs.Prelude.{Facts}
use Rattle.dutch_bracket.specs.Prelude.{seat_of, score_at, lowest, by_seats, IsCandidate, Reached, frame_of, numbers_meet, number_may_be_left, IsOf, NextValue, psd, IsFirst, greatest_shape, legal_in, psd_in, value_of_shape, IsFlat}
use Rattle.dutch_bracket.proofs.ArrangementParts.{parts_of}
use Rattle.dutch_bracket.proofs.Everybody.{how_many}
use Rattle.dutch_bracket.proofs.PsdParts.{OneScore}
use Rattle.dutch_bracket.proofs.Descents.{lowest_is_one, none_lower}
use Rattle.dutch_bracket.proofs.DownLemmas.{players}
use Rattle.dutch_bracket.proofs.LeastPsd.{Descends, first_is_least, in_filter}

seat_score : (facts : Facts) (reached : Reached) (i : ℕ) → i < length reached.seats → slice_index (frame_of facts reached).scores i ≡ score_at facts (get_or reached.seats i 0)
seat_score facts reached i h = get_or-map (score_at facts) reached.seats i 0 0 h

-- an arrangement of a bracket and those whom it leaves over
pub candidate_of : (facts : Facts) (reached : Reached) (shape : Shape) (candidate : Candidate) → IsOf facts reached → IsIn candidate.lists (arrangements (frame_of facts reached) shape)
    → candidate.down ≡ down (frame_of facts reached) candidate.lists → IsCandidate candidate
candidate_of facts reached shape candidate of' m e =
    let frame = frame_of facts reached in
    let q = reached.mdps in
    let n = length frame.scores in
    let inside : q ≤ n = of'.sound.within in
    let parts = parts_of frame shape candidate.lists inside m in
    let a : Arrangement = candidate.lists in
    record {
      moved_down = parts.s1_count ∙ sym parts.s2_count;
      residents = parts.s1r_count ∙ sym parts.s2r_count;
      few = omega (arith, how_many frame shape a inside m, of'.sound.few, parts.s1_count, parts.s2_count, ap length e);
    }

-- scores that do not ascend, far apart
falls_far : (scores : List ℕ) → IsNonAscending scores → (i n : ℕ) → i + n < length scores → slice_index scores (i + n) ≤ slice_index scores i
falls_far scores falls i zero h = let e : slice_index scores (i + 0) ≡ slice_index scores i = ap (slice_index scores) (let e : i + 0 ≡ i = omega arith in e) in omega (arith, e)
falls_far scores falls i (suc n) h =
    let e : slice_index scores (i + suc n) ≡ slice_index scores (i + n + 1) = ap (slice_index scores) (let e : i + suc n ≡ i + n + 1 = omega arith in e) in
    omega (arith, falls (i + n) (omega arith), falls_far scores falls i n (omega arith), e)

-- the seats of a bracket have scores that do not ascend
pub seats_fall : (facts : Facts) (reached : Reached) → IsOf facts reached
    → (i j : ℕ) → 0 < i → i ≤ j → j ≤ length reached.seats → score_at facts (seat_of reached.seats j) ≤ score_at facts (seat_of reached.seats i)
seats_fall facts reached of' i j p h g =
    let same : length (frame_of facts reached).scores ≡ length reached.seats = players facts reached in
    let far : slice_index (frame_of facts reached).scores ((i - 1) + (j - i)) ≤ slice_index (frame_of facts reached).scores (i - 1) =
    falls_far (frame_of facts reached).scores of'.sound.descends (i - 1) (j - i) (omega arith) in
    let e : slice_index (frame_of facts reached).scores ((i - 1) + (j - i)) ≡ slice_index (frame_of facts reached).scores (j - 1) =
    ap (slice_index (frame_of facts reached).scores) (let e : (i - 1) + (j - i) ≡ j - 1 = omega arith in e) in
    omega (arith, far, e, seat_score facts reached (i - 1) (omega arith), seat_score facts reached (j - 1) (omega arith))

pub descends_of : (facts : Facts) (reached : Reached) → IsOf facts reached → ((i : ℕ) → slice_index (frame_of facts reached).scores i ≤ 65535) → Descends facts reached
descends_of facts reached of' small =
    let same : length (frame_of facts reached).scores ≡ length reached.seats = players facts reached in
    let inside : reached.mdps ≤ length (frame_of facts reached).scores = of'.sound.within in
    record {
      falling = λ i j p h g. seats_fall facts reached of' i j p h (omega arith);
      small = λ i p h.
          omega (arith, seat_score facts reached (i - 1) (omega arith), small (i - 1));
    }

-- the lowest score is one that a seat has, and which none is below
lowest_of : (facts : Facts) (s : ℕ) (seats : List ℕ) (k : ℕ) → k < length seats → ((i : ℕ) → i < length seats → s ≤ score_at facts (get_or seats i 0))
    → score_at facts (get_or seats k 0) ≡ s → lowest facts seats ≡ s
lowest_of facts s seats k h each e =
    let one = lowest_is_one facts seats (omega (arith, h)) in
    omega (arith, each one.0 one.1, none_lower facts seats k h, one.2, e)

pub one_score_of : (facts : Facts) (reached : Reached) → IsOf facts reached → IsFlat facts reached → OneScore facts reached (score_at facts (seat_of reached.seats (reached.mdps + 1)))
one_score_of facts reached of' flat =
    let s : ℕ = score_at facts (seat_of reached.seats (reached.mdps + 1)) in
    let q = reached.mdps in
    let same : length (frame_of facts reached).scores ≡ length reached.seats = players facts reached in
    let resident : q < length reached.seats = flat.resident in
    let at_q : score_at facts (get_or reached.seats q 0) ≡ s = ap (λ k. score_at facts (get_or reached.seats k 0)) (let e : q ≡ (q + 1) - 1 = omega arith in e) in
    let higher : (i : ℕ) → 0 < i → i ≤ q → s < score_at facts (seat_of reached.seats i) = λ i p h.
    let apart : slice_index (frame_of facts reached).scores q < slice_index (frame_of facts reached).scores (i - 1) = of'.sound.above (i - 1) q (omega arith) (omega arith) (omega arith) in
    omega (arith, apart, at_q, seat_score facts reached q resident, seat_score facts reached (i - 1) (omega arith)) in
    record {
      within = resident;
      higher = higher;
      same = flat.same;
      least = lowest_of facts s reached.seats q resident
          (λ i lt.
          let back : score_at facts (seat_of reached.seats (i + 1)) ≡ score_at facts (get_or reached.seats i 0) = ap (λ k. score_at facts (get_or reached.seats k 0)) (let e : (i + 1) - 1 ≡ i = omega arith in e) in
          elim (cases_lt i q) [
            | inl h ↦ let up = higher (i + 1) (omega arith) (omega arith) in omega (arith, up, back)
            | inr h ↦ let level = flat.same (i + 1) (omega arith) (omega arith) in omega (arith, level, back)
          ])
          at_q;
    }

-- the value of a shape is known by its first candidate
pub value_found : (facts : Facts) (reached : Reached) (shape : Shape) (candidate : Candidate) (rest : List Arrangement) (list : List ℕ) → IsOf facts reached → IsFlat facts reached
    → ((i : ℕ) → slice_index (frame_of facts reached).scores i ≤ 65535)
    → legal_in facts reached shape ≡ candidate.lists ∷ rest → candidate.down ≡ down (frame_of facts reached) candidate.lists → list ≡ psd facts (by_seats facts reached.seats candidate)
    → (let value : NextValue = record { pairs = shape.pairs; psd = list } in value ≡ value_of_shape facts reached (Some shape))
value_found facts reached shape candidate rest list of' flat small e left by =
    let s : ℕ = score_at facts (seat_of reached.seats (reached.mdps + 1)) in
    let least = first_is_least facts reached s (one_score_of facts reached of' flat) (descends_of facts reached of' small) shape candidate.lists rest e in
    let as_psd : list ≡ psd_in facts reached candidate.lists =
    by ∙ ap (λ (left : List ℕ). psd facts (by_seats facts reached.seats (record { lists = candidate.lists; down = left }))) left in
    ap (λ (list : List ℕ). let value : NextValue = record { pairs = shape.pairs; psd = list } in value) (as_psd ∙ sym least)

pub in_legal : (facts : Facts) (reached : Reached) (shape : Shape) (lists : Arrangement) (rest : List Arrangement) → legal_in facts reached shape ≡ lists ∷ rest
    → IsIn lists (arrangements (frame_of facts reached) shape)
in_legal facts reached shape lists rest e =
    in_filter (is_legal (numbers_meet facts reached) (number_may_be_left facts reached) (frame_of facts reached)) lists (arrangements (frame_of facts reached) shape)
    (subst (IsIn lists) (sym e) (inl refl))

-- the greatest shape of a bracket by a rule, and its first arrangement
abbrev pub IsGreatest : Facts → Reached → Frame → Shape → Candidate → Type 0
IsGreatest facts reached frame shape candidate =
    (greatest_shape (candidates (numbers_meet facts reached) (number_may_be_left facts reached) frame) frame ≡ Some shape)
    × IsFirst (candidates (numbers_meet facts reached) (number_may_be_left facts reached) frame shape) frame candidate

pub greatest_as : (facts facts' : Facts) (reached reached' : Reached) (frame : Frame) (shape : Shape) (candidate : Candidate)
    → facts' ≡ facts → reached' ≡ reached → frame ≡ frame_of facts reached → IsGreatest facts' reached' frame shape candidate → IsGreatest facts reached (frame_of facts reached) shape candidate
greatest_as facts facts' reached reached' frame shape candidate f s b found =
    subst (λ (frame : Frame). IsGreatest facts reached frame shape candidate) b
    (subst (λ (t : Reached). IsGreatest facts t frame shape candidate) s (subst (λ (g : Facts). IsGreatest g reached' frame shape candidate) f found))
