-- The differences of which the PSD of an arrangement is made, if all residents of the bracket have one score.
use Rattle.std.proofs.Common.{◌≡◌, ℕ, suc, ◌+◌, ◌-◌, ◌<◌, ◌≤◌, Bool, true, false, cond, not, ◌||◌, eqb, List, [], ◌∷◌, ◌++◌, map, length, refl, sym, ap, ◌∙◌, arith}
use Rattle.std.specs.List.{AllByRecursion}
use Rattle.std.specs.Prelude.{filter}
use Rattle.std.proofs.lemmas.List.{map-append}
use Rattle.std.proofs.lemmas.List.Elements.{filter-append}
use Rattle.std.proofs.lemmas.Simd.{map-map}
use Rattle.std.proofs.lemmas.Bool.{ne_eqb}
use Rattle.std.proofs.Math.Bool.{or-false}
use Rattle.dutch_sequence.proofs.Lists.{filter-all}
use Rattle.dutch_arrangements.specs.Prelude.{numbers_from, is_member, Frame, Arrangement, left_of, paired, down}
use Rattle.dutch_sequence.proofs.HalfWalks.{Climbs}
use Rattle.dutch_sequence.proofs.Members.{filter-numbers, numbers-append}
use Rattle.dutch_sequence.proofs.Counts.{left-append, member-append}
use Rattle.dutch_player.specs.Prelude.{Facts}
use Rattle.dutch_bracket.specs.Prelude.{seat_of, score_at, pairs_of, all_pairs, lowest, difference, difference_down, Reached, frame_of, one_if, repeated}
use Rattle.dutch_bracket.proofs.Copies.{copies, copies_append}
use Rattle.dutch_bracket.proofs.ArrangementParts.{Parts, Residents, not_member, numbers_within}

-- what a test finds and what it leaves are the whole list
pub copies_shared : (d : ℕ) (f : ℕ → ℕ) (p : ℕ → Bool) (xs : List ℕ)
    → copies d (map f (filter p xs)) + copies d (map f (filter (λ x. not (p x)) xs)) ≡ copies d (map f xs)
copies_shared d f p [] = refl
copies_shared d f p (x ∷ xs) =
    let more = copies_shared d f p xs in
    elim (p x) as (λ b. copies d (map f (cond b (x ∷ filter p xs) (filter p xs))) + copies d (map f (cond (not b) (x ∷ filter (λ y. not (p y)) xs) (filter (λ y. not (p y)) xs)))
    ≡ one_if (eqb (f x) d) + copies d (map f xs))
    [ true ↦ omega (arith, more) | false ↦ omega (arith, more) ]

-- numbers by their scores, where those above q have the score s and those up to q have a higher one
module _ (score : ℕ → ℕ) (s q n : ℕ) (higher : (i : ℕ) → 0 < i → i ≤ q → s < score i) (same : (i : ℕ) → q < i → i ≤ n → score i ≡ s) where
  -- what a moved-down player adds if they are paired, and if they are not
  abbrev pub paired_by : ℕ → ℕ
  paired_by i = score i - s

  abbrev pub limbo_by : ℕ → ℕ
  limbo_by i = (score i - s) + 2

  pub paired_differences : (seats : List ℕ) (facts : Facts) → ((i : ℕ) → score_at facts (seat_of seats i) ≡ score i)
      → (low : ℕ) (firsts seconds : List ℕ) → 0 < low → Climbs low (1 + q) firsts → Residents q n seconds → length firsts ≡ length seconds
      → map (difference facts) (pairs_of seats firsts seconds) ≡ map paired_by firsts
  paired_differences seats facts as_scores low [] seconds h climbs residents equal = refl
  paired_differences seats facts as_scores low (a ∷ firsts) [] h climbs residents equal = absurd (omega arith)
  paired_differences seats facts as_scores low (a ∷ firsts) (b ∷ seconds) h climbs residents equal =
      let above : low ≤ a = climbs.0 in
      let within : a < 1 + q = climbs.1 in
      let up : s < score a = higher a (omega arith) (omega arith) in
      let at_low : score b ≡ s = same b residents.0.0 residents.0.1 in
      let one : difference facts (seat_of seats a, seat_of seats b) ≡ paired_by a = omega (arith, up, at_low, as_scores a, as_scores b) in
      let rest = paired_differences seats facts as_scores (suc a) firsts seconds (omega arith) climbs.2 residents.1 (omega arith) in
      ap (λ x. x ∷ map (difference facts) (pairs_of seats firsts seconds)) one ∙ ap (λ xs. paired_by a ∷ xs) rest

  pub resident_differences : (seats : List ℕ) (facts : Facts) → ((i : ℕ) → score_at facts (seat_of seats i) ≡ score i)
      → (firsts seconds : List ℕ) → Residents q n firsts → Residents q n seconds → length firsts ≡ length seconds
      → map (difference facts) (pairs_of seats firsts seconds) ≡ repeated 0 (length firsts)
  resident_differences seats facts as_scores [] seconds f g equal = refl
  resident_differences seats facts as_scores (a ∷ firsts) [] f g equal = absurd (omega arith)
  resident_differences seats facts as_scores (a ∷ firsts) (b ∷ seconds) f g equal =
      let one : difference facts (seat_of seats a, seat_of seats b) ≡ 0 = omega (arith, same a f.0.0 f.0.1, same b g.0.0 g.0.1, as_scores a, as_scores b) in
      let rest = resident_differences seats facts as_scores firsts seconds f.1 g.1 (omega arith) in
      ap (λ x. x ∷ map (difference facts) (pairs_of seats firsts seconds)) one ∙ ap (λ xs. 0 ∷ xs) rest

  pub resident_floats : (numbers : List ℕ) → Residents q n numbers → map limbo_by numbers ≡ repeated 2 (length numbers)
  resident_floats [] residents = refl
  resident_floats (a ∷ numbers) residents =
      let one : limbo_by a ≡ 2 = omega (arith, same a residents.0.0 residents.0.1) in
      ap (λ x. x ∷ map limbo_by numbers) one ∙ ap (λ xs. 2 ∷ xs) (resident_floats numbers residents.1)

-- the two halves of those who are left
above_low : (q n i : ℕ) (xs : List ℕ) → i ≤ q → Residents q n xs → AllByRecursion (λ y. i < y) xs
above_low q n i [] h residents = tt
above_low q n i (x ∷ xs) h residents = (omega (arith, residents.0.0), above_low q n i xs h residents.1)

none_of_three : (q n i : ℕ) (a : Arrangement) (m j : ℕ) → i ≤ q → Parts q n m j a → is_member i (paired a) ≡ is_member i a.s1
none_of_three q n i a m j h parts =
    member-append i a.s1 (a.s2 ++ (a.s1r ++ a.s2r))
    ∙ ap (λ b. is_member i a.s1 || b)
    (member-append i a.s2 (a.s1r ++ a.s2r)
    ∙ ap (λ b. b || is_member i (a.s1r ++ a.s2r)) (not_member i a.s2 (above_low q n i a.s2 h parts.s2))
    ∙ member-append i a.s1r a.s2r
    ∙ ap (λ b. b || is_member i a.s2r) (not_member i a.s1r (above_low q n i a.s1r h parts.s1r))
    ∙ not_member i a.s2r (above_low q n i a.s2r h parts.s2r))
    ∙ or-false (is_member i a.s1)

-- no number from q + 1 on is among moved-down players
climbs_miss : (q low i : ℕ) (xs : List ℕ) → q < i → Climbs low (1 + q) xs → is_member i xs ≡ false
climbs_miss q low i [] h climbs = refl
climbs_miss q low i (x ∷ xs) h climbs =
    ap (λ b. b || is_member i xs) (ne_eqb x i (λ e. let lt : x < 1 + q = climbs.1 in omega (arith, lt, e)))
    ∙ climbs_miss q (suc x) i xs h climbs.2

-- who is left: the moved-down players who are not in S1, and the residents who are in no pair
pub down_parts : (frame : Frame) (m j : ℕ) (a : Arrangement) → frame.mdps ≤ length frame.scores → Parts frame.mdps (length frame.scores) m j a
    → down frame a ≡ left_of (numbers_from 1 frame.mdps) a.s1
    ++ left_of (left_of (left_of (numbers_from (frame.mdps + 1) (length frame.scores - frame.mdps)) a.s2) a.s1r) a.s2r
down_parts frame m j a inside parts =
    let q = frame.mdps in
    let n = length frame.scores in
    let r = n - q in
    let low : List ℕ = numbers_from 1 q in
    let high : List ℕ = numbers_from (q + 1) r in
    let free : ℕ → Bool = λ x. not (is_member x (paired a)) in
    let whole : numbers_from 1 n ≡ low ++ high =
    ap (numbers_from 1) (let e : n ≡ q + r = omega arith in e) ∙ numbers-append 1 q r ∙ ap (λ first. low ++ numbers_from first r) (let e : 1 + q ≡ q + 1 = omega arith in e) in
    let first : filter free low ≡ left_of low a.s1 =
    filter-numbers free (λ x. not (is_member x a.s1)) 1 q (λ i from below. ap not (none_of_three q n i a m j (omega arith) parts)) in
    let later : left_of high a.s1 ≡ high =
    filter-numbers (λ x. not (is_member x a.s1)) (λ x. true) (q + 1) r (λ i from below. ap not (climbs_miss q 1 i a.s1 (omega arith) parts.s1)) ∙ filter-all high in
    let second : filter free high ≡ left_of (left_of (left_of high a.s2) a.s1r) a.s2r =
    sym (left-append high a.s1 (a.s2 ++ (a.s1r ++ a.s2r)))
    ∙ ap (λ xs. left_of xs (a.s2 ++ (a.s1r ++ a.s2r))) later
    ∙ sym (left-append high a.s2 (a.s1r ++ a.s2r))
    ∙ sym (left-append (left_of high a.s2) a.s1r a.s2r) in
    ap (filter free) whole ∙ filter-append free low high ∙ ap (λ xs. xs ++ filter free high) first ∙ ap (λ xs. left_of low a.s1 ++ xs) second

-- numbers of residents stay such where some are taken
residents_left : (q n : ℕ) (numbers taken : List ℕ) → Residents q n numbers → Residents q n (left_of numbers taken)
residents_left q n [] taken residents = tt
residents_left q n (x ∷ numbers) taken residents =
    elim (is_member x taken) as (λ b. Residents q n (cond (not b) (x ∷ left_of numbers taken) (left_of numbers taken)))
    [ true ↦ residents_left q n numbers taken residents.1 | false ↦ (residents.0, residents_left q n numbers taken residents.1) ]

-- a bracket whose residents have one score, below that of each moved-down player
pub record OneScore (facts : Facts) (reached : Reached) (s : ℕ) : Type 0 where
  pub within : reached.mdps < length reached.seats
  pub higher : (i : ℕ) → 0 < i → i ≤ reached.mdps → s < score_at facts (seat_of reached.seats i)
  pub same : (i : ℕ) → reached.mdps < i → i ≤ length reached.seats → score_at facts (seat_of reached.seats i) ≡ s
  pub least : lowest facts reached.seats ≡ s

-- how often a difference stands in the PSD: as the difference of a pair with a moved-down player, of one who is left over, of a pair
-- of residents, or of a resident who is left over
pub psd_copies : (facts : Facts) (reached : Reached) (s m j : ℕ) (a : Arrangement) (d : ℕ) → OneScore facts reached s
    → Parts reached.mdps (length (frame_of facts reached).scores) m j a → length (frame_of facts reached).scores ≡ length reached.seats
    → (left : ℕ) → left + (m + (j + j)) ≡ length reached.seats - reached.mdps
    → copies d (map (difference facts) (all_pairs reached.seats a) ++ map (difference_down facts (lowest facts reached.seats)) (map (seat_of reached.seats) (down (frame_of facts reached) a)))
    ≡ copies d (map (λ i. score_at facts (seat_of reached.seats i) - s) a.s1)
    + (copies d (map (λ i. (score_at facts (seat_of reached.seats i) - s) + 2) (left_of (numbers_from 1 reached.mdps) a.s1))
    + (copies d (repeated 0 j) + copies d (repeated 2 left)))
psd_copies facts reached s m j a d one parts counted left fits =
    let q = reached.mdps in
    let n = length (frame_of facts reached).scores in
    let seats = reached.seats in
    let score : ℕ → ℕ = λ i. score_at facts (seat_of seats i) in
    let same : (i : ℕ) → q < i → i ≤ n → score i ≡ s = λ i h g. one.same i h (omega (arith, g, counted)) in
    let rest : List ℕ = left_of (left_of (left_of (numbers_from (q + 1) (n - q)) a.s2) a.s1r) a.s2r in
    let low : List ℕ = left_of (numbers_from 1 q) a.s1 in
    let residents : Residents q n rest =
    residents_left q n (left_of (left_of (numbers_from (q + 1) (n - q)) a.s2) a.s1r) a.s2r
    (residents_left q n (left_of (numbers_from (q + 1) (n - q)) a.s2) a.s1r
    (residents_left q n (numbers_from (q + 1) (n - q)) a.s2
    (numbers_within q (q + 1) (n - q) n (omega arith) (omega (arith, one.within, counted))))) in
    let as_is : (i : ℕ) → score_at facts (seat_of seats i) ≡ score i = λ i. refl in
    let firsts = paired_differences score s q n one.higher same seats facts as_is 1 a.s1 a.s2 (omega arith) parts.s1 parts.s2 (parts.s1_count ∙ sym parts.s2_count) in
    let others = resident_differences score s q n one.higher same seats facts as_is a.s1r a.s2r parts.s1r parts.s2r (parts.s1r_count ∙ sym parts.s2r_count) in
    let floats = resident_floats score s q n one.higher same rest residents in
    let by : ℕ → ℕ = λ i. (score i - s) + 2 in
    let floated : map (difference_down facts (lowest facts seats)) (map (seat_of seats) (down (frame_of facts reached) a)) ≡ map by low ++ map by rest =
    map-map (difference_down facts (lowest facts seats)) (seat_of seats) (down (frame_of facts reached) a)
    ∙ ap (λ least. map (λ i. (score i - least) + 2) (down (frame_of facts reached) a)) one.least
    ∙ ap (map by) (down_parts (frame_of facts reached) m j a (omega (arith, one.within, counted)) parts)
    ∙ map-append by low rest in
    let paired_up : map (difference facts) (all_pairs seats a) ≡ map (λ i. score i - s) a.s1 ++ repeated 0 j =
    map-append (difference facts) (pairs_of seats a.s1 a.s2) (pairs_of seats a.s1r a.s2r)
    ∙ ap (λ xs. xs ++ map (difference facts) (pairs_of seats a.s1r a.s2r)) firsts
    ∙ ap (λ xs. map (λ i. score i - s) a.s1 ++ xs) (others ∙ ap (repeated 0) parts.s1r_count) in
    let count : length rest ≡ left = (let e = parts.left in omega (arith, e, fits, counted)) in
    let c1 = copies_append d (map (difference facts) (all_pairs seats a)) (map (difference_down facts (lowest facts seats)) (map (seat_of seats) (down (frame_of facts reached) a))) in
    let c2 = copies_append d (map (λ i. score i - s) a.s1) (repeated 0 j) in
    let c3 = copies_append d (map by low) (map by rest) in
    omega (arith, c1, c2, c3, ap (copies d) paired_up, ap (copies d) floated, ap (copies d) (floats ∙ ap (repeated 2) count))
