-- In a bracket whose residents have one score the first legal arrangement of a shape has the least PSD.
use Rattle.std.proofs.Common.{◌≡◌, ℕ, zero, suc, ◌+◌, ◌-◌, ◌<◌, ◌≤◌, Bool, true, false, cond, eqb, List, [], ◌∷◌, ◌++◌, map, length, slice_index, ◌⊎◌, inl, inr, refl, sym, ap, ◌∙◌, subst, arith}
use Rattle.std.specs.List.{AllByRecursion}
use Rattle.std.specs.Prelude.{filter, flat_map}
use Rattle.std.proofs.lemmas.Bool.{cases_lt, ne_eqb}
use Rattle.std.proofs.lemmas.Bool.Decides.{nat_tests}
use Rattle.std.proofs.lemmas.List.{length-map, length-take, get_or-map, get_or-take, get_or_past}
use Rattle.std.proofs.lemmas.List.Elements.{filter-append}
use Rattle.dutch_arrangements.specs.declared.bracket.Shape.{Shape}
use Rattle.dutch_arrangements.specs.Prelude.{numbers_from, subsets, tuples, is_member, IsIn, sorted, lower_first, exchanges, sum_of, limbo_exchanges, score_of, limbo_cmp, Frame, Arrangement, left_of, residents_of, moved_down_scores, remainder_pairs, with_s2r, with_s1r, with_s2, arrangements, is_legal, down}
use Rattle.dutch_sequence.proofs.HalfWalks.{Climbs}
use Rattle.dutch_sequence.proofs.Orders.{member_has, IsIn-append, IsIn-map, IsIn-flat_map, is_before-cases}
use Rattle.dutch_sequence.proofs.Members.{climbs-filter}
use Rattle.dutch_sequence.proofs.Sets.{subsets-climb, subsets-ascend, sorted-ascends}
use Rattle.dutch_sequence.proofs.LimboSets.{limbo_key-apart}
pub use Rattle.dutch_arrangements.proofs.Once.{kept-is_in as in_filter}
use Rattle.dutch_player.specs.Prelude.{Facts}
use Rattle.dutch_bracket.specs.Prelude.{seat_of, score_at, all_pairs, lowest, difference, difference_down, Reached, frame_of, numbers_meet, number_may_be_left, one_if, psd, is_lower, lowest_list_upto, lowest_list, legal_in, psd_in, repeated}
use Rattle.dutch_bracket.proofs.Copies.{copies, Falls, Lower, highest_first_falls, highest_first_copies, not_lower, lower_copies, more_first, same_first}
use Rattle.dutch_bracket.proofs.ArrangementParts.{Parts, parts_of}
use Rattle.dutch_bracket.proofs.PsdParts.{OneScore, psd_copies, copies_shared}
use Rattle.dutch_sequence.proofs.ByKeys.{is_before, turned, Ascends, limbo_key}
use Rattle.dutch_sequence.proofs.Comparing.{limbo_cmp-is}

-- two counts that agree from a number on agree wherever the sums that they make agree above d
same_above : (ha hb ca cb la lb t k : ℕ → ℕ) (bound d : ℕ)
    → ((e : ℕ) → ca e ≡ ha (e + 2)) → ((e : ℕ) → cb e ≡ hb (e + 2))
    → ((e : ℕ) → la e + ha e ≡ t e) → ((e : ℕ) → lb e + hb e ≡ t e)
    → ((e : ℕ) → bound ≤ e → ha e ≡ hb e)
    → ((e : ℕ) → d < e → ca e + (la e + k e) ≡ cb e + (lb e + k e))
    → (n e : ℕ) → bound ≤ e + n → d < e → ha e ≡ hb e
same_above ha hb ca cb la lb t k bound d sa sb ta tb tail above zero e far h = tail e (omega arith)
same_above ha hb ca cb la lb t k bound d sa sb ta tb tail above (suc n) e far h =
    omega (arith, same_above ha hb ca cb la lb t k bound d sa sb ta tb tail above n (e + 2) (omega arith) (omega arith), above e h, sa e, sb e, ta e, tb e)

combined : (ha hb ca cb la lb t k : ℕ → ℕ) (bound : ℕ)
    → ((e : ℕ) → ca e ≡ ha (e + 2)) → ((e : ℕ) → cb e ≡ hb (e + 2))
    → ((e : ℕ) → la e + ha e ≡ t e) → ((e : ℕ) → lb e + hb e ≡ t e)
    → ((e : ℕ) → bound ≤ e → ha e ≡ hb e)
    → Lower hb ha
    → Lower (λ d. ca d + (la d + k d)) (λ d. cb d + (lb d + k d))
combined ha hb ca cb la lb t k bound sa sb ta tb tail lower d above =
    let same : (e : ℕ) → d < e → ha e ≡ hb e = λ e h. same_above ha hb ca cb la lb t k bound d sa sb ta tb tail above bound e (omega arith) h in
    let at_d : hb d ≤ ha d = lower d (λ e h. sym (same e h)) in
    omega (arith, at_d, same (d + 2) (omega arith), sa d, sb d, ta d, tb d)

pub lower_by : (f g f' g' : ℕ → ℕ) → ((d : ℕ) → f d ≡ f' d) → ((d : ℕ) → g d ≡ g' d) → Lower f' g' → Lower f g
lower_by f g f' g' p q lower d above =
    let h : f' d ≤ g' d = lower d (λ e lt. sym (p e) ∙ above e lt ∙ q e) in
    omega (arith, h, p d, q d)

-- a number over the sum of a list stands nowhere in it
none_over : (d : ℕ) (xs : List ℕ) → sum_of xs < d → copies d xs ≡ 0
none_over d [] h = refl
none_over d (x ∷ xs) h =
    let off : one_if (eqb x d) ≡ 0 = ap one_if (ne_eqb x d (λ e. omega (arith, h, e))) in
    omega (arith, off, none_over d xs (omega arith))

pub two_more : (d : ℕ) (f : ℕ → ℕ) (xs : List ℕ) → copies d (map f xs) ≡ copies (d + 2) (map (λ i. f i + 2) xs)
two_more d f [] = refl
two_more d f (x ∷ xs) =
    let first : one_if (eqb (f x) d) ≡ one_if (eqb (f x + 2) (d + 2)) = ap one_if (let e : eqb (f x) d ≡ eqb (f x + 2) (d + 2) = grind (arith, nat_tests) in e) in
    omega (arith, first, two_more d f xs)

module _ (score : ℕ → ℕ) (s q : ℕ) (falling : (i j : ℕ) → 0 < i → i ≤ j → j ≤ q → score j ≤ score i) where
  all_lower : (x low : ℕ) (xs : List ℕ) → 0 < x → x ≤ low → Climbs low (1 + q) xs
      → AllByRecursion (λ y. y ≤ (score x - s) + 2) (map (λ i. (score i - s) + 2) xs)
  all_lower x low [] p h climbs = tt
  all_lower x low (y ∷ xs) p h climbs =
      let le : low ≤ y = climbs.0 in
      let lt : y < 1 + q = climbs.1 in
      (omega (arith, falling x y p (omega arith) (omega arith)), all_lower x (suc y) xs p (omega arith) climbs.2)

  pub falls_by : (low : ℕ) (xs : List ℕ) → 0 < low → Climbs low (1 + q) xs → Falls (map (λ i. (score i - s) + 2) xs)
  falls_by low [] p climbs = tt
  falls_by low (x ∷ xs) p climbs =
      let le : low ≤ x = climbs.0 in
      (all_lower x (suc x) xs (omega arith) (omega arith) climbs.2, falls_by (suc x) xs (omega arith) climbs.2)

  -- the set with the earlier key does not have the lower differences
  pub key_lower : (sc : ℕ → ℕ) (xs ys p p' : List ℕ)
      → AllByRecursion (λ i. (sc i ≡ score i) × (s < score i) × (score i ≤ 65535)) xs
      → AllByRecursion (λ i. (sc i ≡ score i) × (s < score i) × (score i ≤ 65535)) ys
      → length xs ≡ length ys
      → is_before (map (λ i. turned (sc i)) xs ++ p) (map (λ i. turned (sc i)) ys ++ p') ≡ true
      → is_lower (map (λ i. (score i - s) + 2) xs) (map (λ i. (score i - s) + 2) ys) ≡ false
  key_lower sc [] [] p p' f g equal before = refl
  key_lower sc [] (y ∷ ys) p p' f g equal before = absurd (omega arith)
  key_lower sc (x ∷ xs) [] p p' f g equal before = absurd (omega arith)
  key_lower sc (x ∷ xs) (y ∷ ys) p p' f g equal before =
      let by : ℕ → ℕ = λ i. (score i - s) + 2 in
      let one = f.0 in
      let two = g.0 in
      elim (is_before-cases (turned (sc x)) (turned (sc y)) (map (λ i. turned (sc i)) xs ++ p) (map (λ i. turned (sc i)) ys ++ p') before) [
        | inl less ↦ more_first (by x) (by y) (map by xs) (map by ys) (omega (arith, less, one.0, one.1, one.2, two.0, two.1, two.2))
        | inr same ↦
            same_first (by x) (by y) (map by xs) (map by ys) (omega (arith, same.0, one.0, one.1, one.2, two.0, two.1, two.2))
            ∙ key_lower sc xs ys p p' f.1 g.1 (omega arith) same.1
      ]

-- an arrangement has the S1 for which it is listed
s1_of : (frame : Frame) (shape : Shape) (s1 : List ℕ) (a : Arrangement) → IsIn a (with_s2 frame shape s1) → a.s1 ≡ s1
s1_of frame shape s1 a m =
    let two = IsIn-flat_map (with_s1r frame shape s1) a (sorted lower_first (tuples (residents_of frame) shape.mdps)) m in
    let three = IsIn-flat_map (with_s2r frame shape s1 two.0) a (exchanges (left_of (residents_of frame) two.0) (remainder_pairs shape)) two.2 in
    let four = IsIn-map (λ s2r. record { s1 = s1; s2 = two.0; s1r = three.0; s2r = s2r }) a
    (sorted lower_first (tuples (left_of (left_of (residents_of frame) two.0) three.0) (remainder_pairs shape))) three.2 in
    ap (λ (c : Arrangement). c.s1) four.1

module _ (p : Arrangement → Bool) (f : List ℕ → List Arrangement) (key : List ℕ → List ℕ) (own : (s : List ℕ) (a : Arrangement) → IsIn a (f s) → a.s1 ≡ s) where
  first_in : (s : List ℕ) (sets : List (List ℕ)) (here : List Arrangement) → filter p (f s) ≡ here → AllByRecursion (λ other. is_before (key s) (key other) ≡ true) sets
      → ((first : Arrangement) (rest : List Arrangement) → filter p (flat_map f sets) ≡ first ∷ rest → (b : Arrangement) → IsIn b rest → (b.s1 ≡ first.s1) ⊎ (is_before (key first.s1) (key b.s1) ≡ true))
      → (first : Arrangement) (rest : List Arrangement) → here ++ filter p (flat_map f sets) ≡ first ∷ rest
      → (b : Arrangement) → IsIn b rest → (b.s1 ≡ first.s1) ⊎ (is_before (key first.s1) (key b.s1) ≡ true)
  first_in s sets [] e ascends later first rest whole b m = later first rest whole b m
  first_in s sets (c ∷ cs) e ascends later first rest whole b m =
      let head : c ≡ first = cc in
      let tail : cs ++ filter p (flat_map f sets) ≡ rest = cc in
      let at_first : first.s1 ≡ s = own s first (in_filter p first (f s) (subst (IsIn first) (sym e) (inl (sym head)))) in
      elim (IsIn-append b cs (filter p (flat_map f sets)) (subst (IsIn b) (sym tail) m)) [
        | inl here ↦ inl (own s b (in_filter p b (f s) (subst (IsIn b) (sym e) (inr here))) ∙ sym at_first)
        | inr beyond ↦
            let from = IsIn-flat_map f b sets (in_filter p b (flat_map f sets) beyond) in
            let before : is_before (key s) (key from.0) ≡ true = member_has (λ other. is_before (key s) (key other) ≡ true) sets ascends from.0 from.1 in
            inr (ap (λ t. is_before (key t) (key b.s1)) at_first ∙ ap (λ t. is_before (key s) (key t)) (own from.0 b from.2) ∙ before)
      ]

  pub first_of_all : (sets : List (List ℕ)) → Ascends key sets → (first : Arrangement) (rest : List Arrangement) → filter p (flat_map f sets) ≡ first ∷ rest
      → (b : Arrangement) → IsIn b rest → (b.s1 ≡ first.s1) ⊎ (is_before (key first.s1) (key b.s1) ≡ true)
  first_of_all [] ascends first rest whole b m = absurd (cc)
  first_of_all (s ∷ sets) ascends first rest whole b m =
      first_in s sets (filter p (f s)) refl ascends.0 (first_of_all sets ascends.1) first rest (sym (filter-append p (f s) (flat_map f sets)) ∙ whole) b m

limbo_ascends : (scores : List ℕ) (k : ℕ) → ((i : ℕ) → slice_index scores i ≤ 65535) → Ascends (limbo_key scores) (limbo_exchanges scores k)
limbo_ascends scores k small =
    let sets : List (List ℕ) = subsets (numbers_from 1 (length scores)) k in
    let long : (a b : List ℕ) → IsIn a sets → IsIn b sets → length a ≡ length b =
    λ a b m n. (subsets-climb 1 (length scores) k a m).1 ∙ sym (subsets-climb 1 (length scores) k b n).1 in
    sorted-ascends (limbo_key scores) (limbo_cmp scores) sets (λ a b m n. limbo_cmp-is 65535 scores small a b (long a b m n)) (subsets-ascend 1 (length scores) k)
    (λ a b m n same. limbo_key-apart 65535 scores a b (long a b m n) same)

pub all_climb : (P : ℕ → Type 0) (q low : ℕ) (xs : List ℕ) → 0 < low → ((i : ℕ) → 0 < i → i ≤ q → P i) → Climbs low (1 + q) xs → AllByRecursion P xs
all_climb P q low [] p each climbs = tt
all_climb P q low (x ∷ xs) p each climbs =
    let le : low ≤ x = climbs.0 in
    let lt : x < 1 + q = climbs.1 in
    (each x (omega arith) (omega arith), all_climb P q (suc x) xs (omega arith) each climbs.2)

-- the scores of a bracket's moved-down players do not ascend, and are such as a score can be
pub record Descends (facts : Facts) (reached : Reached) : Type 0 where
  pub falling : (i j : ℕ) → 0 < i → i ≤ j → j ≤ reached.mdps → score_at facts (seat_of reached.seats j) ≤ score_at facts (seat_of reached.seats i)
  pub small : (i : ℕ) → 0 < i → i ≤ reached.mdps → score_at facts (seat_of reached.seats i) ≤ 65535

module _ (facts : Facts) (reached : Reached) (s : ℕ) (one : OneScore facts reached s) (down' : Descends facts reached) where
  counted : length (frame_of facts reached).scores ≡ length reached.seats
  counted = length-map reached.seats (score_at facts)

  as_scores : (i : ℕ) → 0 < i → i ≤ reached.mdps → score_of (moved_down_scores (frame_of facts reached)) i ≡ score_at facts (seat_of reached.seats i)
  as_scores i p h =
      get_or-take reached.mdps (map (score_at facts) reached.seats) (i - 1) 0 (omega arith)
      ∙ get_or-map (score_at facts) reached.seats (i - 1) 0 0 (omega (arith, one.within))

  scores_small : (i : ℕ) → slice_index (moved_down_scores (frame_of facts reached)) i ≤ 65535
  scores_small i =
      let scores : List ℕ = moved_down_scores (frame_of facts reached) in
      elim (cases_lt i reached.mdps) [
        | inl inside ↦
            let is : score_of scores (i + 1) ≡ score_at facts (seat_of reached.seats (i + 1)) = as_scores (i + 1) (omega arith) (omega (arith, inside)) in
            let here : slice_index scores i ≡ score_of scores (i + 1) = ap (slice_index scores) (omega arith) in
            omega (arith, here, is, down'.small (i + 1) (omega arith) (omega (arith, inside)))
        | inr past ↦
            omega (arith, get_or_past scores i 0 (omega (arith, past, length-take reached.mdps (frame_of facts reached).scores)))
      ]

  shared : (m j : ℕ) (a : Arrangement) (d : ℕ) → Parts reached.mdps (length (frame_of facts reached).scores) m j a
      → copies d (map (λ i. (score_at facts (seat_of reached.seats i) - s) + 2) (left_of (numbers_from 1 reached.mdps) a.s1))
      + copies d (map (λ i. (score_at facts (seat_of reached.seats i) - s) + 2) a.s1)
      ≡ copies d (map (λ i. (score_at facts (seat_of reached.seats i) - s) + 2) (numbers_from 1 reached.mdps))
  shared m j a d parts =
      let by : ℕ → ℕ = λ i. (score_at facts (seat_of reached.seats i) - s) + 2 in
      let both = copies_shared d by (λ x. is_member x a.s1) (numbers_from 1 reached.mdps) in
      omega (arith, both, ap (λ xs. copies d (map by xs)) (climbs-filter 1 reached.mdps a.s1 parts.s1))

  -- of two arrangements the one with the earlier S1 has the lower differences
  differences_lower : (m j : ℕ) (a b : Arrangement) → Parts reached.mdps (length (frame_of facts reached).scores) m j a → Parts reached.mdps (length (frame_of facts reached).scores) m j b
      → (b.s1 ≡ a.s1) ⊎ (is_before (limbo_key (moved_down_scores (frame_of facts reached)) a.s1) (limbo_key (moved_down_scores (frame_of facts reached)) b.s1) ≡ true)
      → Lower (λ d. copies d (map (λ i. (score_at facts (seat_of reached.seats i) - s) + 2) b.s1)) (λ d. copies d (map (λ i. (score_at facts (seat_of reached.seats i) - s) + 2) a.s1))
  differences_lower m j a b pa pb (inl same) = λ d above. omega (arith, ap (λ xs. copies d (map (λ i. (score_at facts (seat_of reached.seats i) - s) + 2) xs)) same)
  differences_lower m j a b pa pb (inr before) =
      let q = reached.mdps in
      let score : ℕ → ℕ = λ i. score_at facts (seat_of reached.seats i) in
      let sc : ℕ → ℕ = score_of (moved_down_scores (frame_of facts reached)) in
      let P : ℕ → Type 0 = λ i. (sc i ≡ score i) × (s < score i) × (score i ≤ 65535) in
      let each : (i : ℕ) → 0 < i → i ≤ q → P i = λ i p h. (as_scores i p h, one.higher i p h, down'.small i p h) in
      lower_copies (map (λ i. (score i - s) + 2) b.s1) (map (λ i. (score i - s) + 2) a.s1)
      (falls_by score s q down'.falling 1 b.s1 (omega arith) pb.s1) (falls_by score s q down'.falling 1 a.s1 (omega arith) pa.s1)
      (key_lower score s q down'.falling sc a.s1 b.s1 a.s1 b.s1 (all_climb P q 1 a.s1 (omega arith) each pa.s1) (all_climb P q 1 b.s1 (omega arith) each pb.s1)
      (pa.s1_count ∙ sym pb.s1_count) before)

  psd_lower : (m j : ℕ) (a b : Arrangement) → Parts reached.mdps (length (frame_of facts reached).scores) m j a → Parts reached.mdps (length (frame_of facts reached).scores) m j b
      → (b.s1 ≡ a.s1) ⊎ (is_before (limbo_key (moved_down_scores (frame_of facts reached)) a.s1) (limbo_key (moved_down_scores (frame_of facts reached)) b.s1) ≡ true)
      → is_lower (psd_in facts reached b) (psd_in facts reached a) ≡ false
  unfolding psd
  psd_lower m j a b pa pb order =
      let q = reached.mdps in
      let score : ℕ → ℕ = λ i. score_at facts (seat_of reached.seats i) in
      let by : ℕ → ℕ = λ i. (score i - s) + 2 in
      let plain : ℕ → ℕ = λ i. score i - s in
      let left : ℕ = (length reached.seats - q) - (m + (j + j)) in
      let fits : left + (m + (j + j)) ≡ length reached.seats - q = (let e = pa.left in omega (arith, e, counted)) in
      let all : Arrangement → List ℕ = λ c. map (difference facts) (all_pairs reached.seats c) ++ map (difference_down facts (lowest facts reached.seats)) (map (seat_of reached.seats) (down (frame_of facts reached) c)) in
      let h : Arrangement → ℕ → ℕ = λ c d. copies d (map by c.s1) in
      let c1 : Arrangement → ℕ → ℕ = λ c d. copies d (map plain c.s1) in
      let l : Arrangement → ℕ → ℕ = λ c d. copies d (map by (left_of (numbers_from 1 q) c.s1)) in
      let k : ℕ → ℕ = λ d. copies d (repeated 0 j) + copies d (repeated 2 left) in
      let sum : Arrangement → ℕ → ℕ = λ c d. c1 c d + (l c d + k d) in
      let bound : ℕ = (sum_of (map by a.s1) + sum_of (map by b.s1)) + 1 in
      let tail : (e : ℕ) → bound ≤ e → h a e ≡ h b e = λ e far. none_over e (map by a.s1) (omega arith) ∙ sym (none_over e (map by b.s1) (omega arith)) in
      let lower : Lower (sum a) (sum b) =
      combined (h a) (h b) (c1 a) (c1 b) (l a) (l b) (λ d. copies d (map by (numbers_from 1 q))) k bound
      (λ e. two_more e plain a.s1) (λ e. two_more e plain b.s1) (λ e. shared m j a e pa) (λ e. shared m j b e pb) tail (differences_lower m j a b pa pb order) in
      let as_sum : (c : Arrangement) → Parts q (length (frame_of facts reached).scores) m j c → (d : ℕ) → copies d (psd_in facts reached c) ≡ sum c d =
      λ c pc d. highest_first_copies d (all c) ∙ psd_copies facts reached s m j c d one pc counted left fits in
      not_lower (psd_in facts reached a) (psd_in facts reached b) (highest_first_falls (all a)) (highest_first_falls (all b))
      (lower_by (λ d. copies d (psd_in facts reached a)) (λ d. copies d (psd_in facts reached b)) (sum a) (sum b) (as_sum a pa) (as_sum b pb) lower)

  none_lower : (first : Arrangement) (rest : List Arrangement) → ((b : Arrangement) → IsIn b rest → is_lower (psd_in facts reached b) (psd_in facts reached first) ≡ false)
      → lowest_list_upto (psd_in facts reached first) (map (psd_in facts reached) rest) ≡ psd_in facts reached first
  none_lower first [] each = refl
  none_lower first (b ∷ rest) each =
      ap (λ t. lowest_list_upto (cond t (psd_in facts reached b) (psd_in facts reached first)) (map (psd_in facts reached) rest)) (each b (inl refl))
      ∙ none_lower first rest (λ c m. each c (inr m))

  -- so the first arrangement has the least PSD
  pub first_is_least : (shape : Shape) (first : Arrangement) (rest : List Arrangement) → legal_in facts reached shape ≡ first ∷ rest
      → lowest_list (map (psd_in facts reached) (legal_in facts reached shape)) ≡ psd_in facts reached first
  first_is_least shape first rest e =
      let frame = frame_of facts reached in
      let legal : Arrangement → Bool = is_legal (numbers_meet facts reached) (number_may_be_left facts reached) frame in
      let parts : (c : Arrangement) → IsIn c (first ∷ rest) → Parts reached.mdps (length frame.scores) shape.mdps (remainder_pairs shape) c =
      λ c m. parts_of frame shape c (omega (arith, one.within, counted)) (in_filter legal c (arrangements frame shape) (subst (IsIn c) (sym e) m)) in
      let order = first_of_all legal (with_s2 frame shape) (limbo_key (moved_down_scores frame)) (s1_of frame shape)
      (limbo_exchanges (moved_down_scores frame) shape.mdps) (limbo_ascends (moved_down_scores frame) shape.mdps scores_small) first rest e in
      ap (λ all. lowest_list (map (psd_in facts reached) all)) e
      ∙ none_lower first rest (λ b m. psd_lower shape.mdps (remainder_pairs shape) first b (parts first (inl refl)) (parts b (inr m)) (order b m))
