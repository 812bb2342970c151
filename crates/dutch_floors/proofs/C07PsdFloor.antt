-- In a bracket whose residents have one score no arrangement has a lower PSD than the floor for as many pairs (C.04.3 C.6, C.7).
--
-- In the floor all moved-down players are in pairs. Take an arrangement with as many pairs that leaves some of them over: each of those
-- makes a difference that is two more than in the floor, and so many more residents meet residents or are paired. Let h e be how many of
-- them stand at the difference e in the floor. For e from 3 on the arrangement has h (e - 2) copies of e where the floor has h e. So if
-- both agree above some d from 3 on, then h is zero from d - 1 on, since it is zero far out; and at d the arrangement has no fewer copies. If both agree
-- above 2, nobody is left over at all, and the two lists are the same.
use Rattle.std.proofs.Common.{◌≡◌, ℕ, zero, suc, ◌+◌, ◌-◌, ◌*◌, ◌<◌, ◌≤◌, false, not, eqb, List, [], ◌∷◌, ◌++◌, map, filter, length, ◌⊎◌, inl, inr, refl, ap, ◌∙◌, arith}
use Rattle.std.specs.List.{AllByRecursion}
use Rattle.std.proofs.lemmas.Bool.{ne_eqb, eq-eqb}
use Rattle.std.proofs.lemmas.List.{length-map}
use Rattle.dutch_arrangements.specs.declared.bracket.Shape.{Shape}
use Rattle.dutch_arrangements.specs.Prelude.{numbers_from, is_member, IsIn, Frame, Arrangement, left_of, remainder_pairs, arrangements, down}
use Rattle.dutch_sequence.proofs.Members.{climbs-filter, filter-length, length-numbers}
use Rattle.dutch_player.specs.Prelude.{Facts}
use Rattle.dutch_bracket.specs.Prelude.{seat_of, score_at, all_pairs, lowest, difference, difference_down, Reached, IsOf, frame_of, one_if, highest_first, psd, IsFlat, is_lower, psd_in, repeated, floor_psd}
use Rattle.dutch_bracket.proofs.ArrangementParts.{parts_of, numbers_within}
use Rattle.dutch_bracket.proofs.AllLemmas.{all_filter}
use Rattle.dutch_bracket.proofs.Copies.{copies, copies_append, Lower, not_lower, highest_first_falls, highest_first_copies}
use Rattle.dutch_bracket.proofs.FlatBrackets.{one_score_of}
use Rattle.dutch_bracket.proofs.PsdParts.{OneScore, psd_copies, copies_shared}
use Rattle.dutch_bracket.proofs.LeastPsd.{two_more, lower_by}

-- what is the same two further on is zero, if it is so far out
vanish : (h : ℕ → ℕ) (bound start : ℕ) → ((e : ℕ) → bound ≤ e → h e ≡ 0) → ((e : ℕ) → start ≤ e → h e ≡ h (e + 2))
    → (n e : ℕ) → bound ≤ e + n → start ≤ e → h e ≡ 0
vanish h bound start tail same zero e far from = tail e (omega (arith, far))
vanish h bound start tail same (suc n) e far from = same e from ∙ vanish h bound start tail same n (e + 2) (omega (arith, far)) (omega (arith, from))

-- a number over the sum of a list stands nowhere in it
sum : List ℕ → ℕ
sum [] = 0
sum (x ∷ xs) = x + sum xs

none_over : (d : ℕ) (xs : List ℕ) → sum xs < d → copies d xs ≡ 0
unfolding sum
none_over d [] h = refl
none_over d (x ∷ xs) h =
    let off : one_if (eqb x d) ≡ 0 = ap one_if (ne_eqb x d (λ e. omega (arith, h, e))) in
    omega (arith, off, none_over d xs (omega (arith, h)))

-- a list in which no number stands is empty
nobody_there : (xs : List ℕ) → ((d : ℕ) → copies d xs ≡ 0) → xs ≡ []
nobody_there [] none = refl
nobody_there (x ∷ xs) none = absurd (let e = none x in let one : one_if (eqb x x) ≡ 1 = ap one_if (eq-eqb x x refl) in omega (arith, e, one))

copies_other : (d x n : ℕ) → ((x ≡ d) → ⊥) → copies d (repeated x n) ≡ 0
copies_other d x zero ne = refl
copies_other d x (suc n) ne = let off : one_if (eqb x d) ≡ 0 = ap one_if (ne_eqb x d ne) in omega (arith, off, copies_other d x n ne)

zero_or_more : (e : ℕ) (h : ℕ → ℕ) → h 0 ≡ 0 → ((e : ℕ) → 1 ≤ e → h e ≡ 0) → h e ≡ 0
zero_or_more zero h first later = first
zero_or_more (suc e) h first later = later (suc e) (omega arith)

sides : (d : ℕ) → (d ≤ 2) ⊎ (3 ≤ d)
sides d = grind arith

-- the counts: paired in the arrangement (c), left over in it by their plain differences (h) and by two more (l), all (t); j pairs of
-- residents and r of them left over; u moved-down players left over
lower_than : (c h l t : ℕ → ℕ) (u j r evens twos bound : ℕ)
    → ((e : ℕ) → c e + h e ≡ t e) → ((e : ℕ) → h e ≡ l (e + 2)) → h 0 ≡ 0 → ((e : ℕ) → bound ≤ e → h e ≡ 0)
    → (((e : ℕ) → h e ≡ 0) → u ≡ 0) → evens ≡ j - u → twos ≡ r + u
    → Lower (λ d. t d + (copies d (repeated 0 evens) + copies d (repeated 2 twos))) (λ d. c d + (l d + (copies d (repeated 0 j) + copies d (repeated 2 r))))
lower_than c h l t u j r evens twos bound whole more none tail nobody zs ts d above =
    let later : (e : ℕ) → d < e + 2 → 3 ≤ e + 2 → h e ≡ h (e + 2) = λ e lt far.
    let z : copies (e + 2) (repeated 0 evens) ≡ 0 = copies_other (e + 2) 0 evens (λ same. omega (arith, same)) in
    let z' : copies (e + 2) (repeated 0 j) ≡ 0 = copies_other (e + 2) 0 j (λ same. omega (arith, same)) in
    let w : copies (e + 2) (repeated 2 twos) ≡ 0 = copies_other (e + 2) 2 twos (λ same. omega (arith, same, far)) in
    let w' : copies (e + 2) (repeated 2 r) ≡ 0 = copies_other (e + 2) 2 r (λ same. omega (arith, same, far)) in
    omega (arith, above (e + 2) lt, z, z', w, w', more e, whole (e + 2)) in
    elim (sides d) [
      | inl low ↦
          let far : (e : ℕ) → 1 ≤ e → h e ≡ 0 = λ e from. vanish h bound 1 tail (λ e' from'. later e' (omega (arith, from', low)) (omega (arith, from'))) bound e (omega arith) from in
          let nothing : (e : ℕ) → h e ≡ 0 = λ e. zero_or_more e h none far in
          let u0 : u ≡ 0 = nobody nothing in
          let es : copies d (repeated 0 evens) ≡ copies d (repeated 0 j) = ap (λ k. copies d (repeated 0 k)) (let e : evens ≡ j = omega (arith, zs, u0) in e) in
          let ws : copies d (repeated 2 twos) ≡ copies d (repeated 2 r) = ap (λ k. copies d (repeated 2 k)) (let e : twos ≡ r = omega (arith, ts, u0) in e) in
          omega (arith, es, ws, whole d, nothing d)
      | inr high ↦
          let gone : h d ≡ 0 = vanish h bound (d - 1) tail (λ e from. later e (omega (arith, from, high)) (omega (arith, from, high))) bound d (omega arith) (omega arith) in
          let z : copies d (repeated 0 evens) ≡ 0 = copies_other d 0 evens (λ same. omega (arith, same, high)) in
          let w : copies d (repeated 2 twos) ≡ 0 = copies_other d 2 twos (λ same. omega (arith, same, high)) in
          omega (arith, z, w, whole d, gone)
    ]

-- no moved-down player has the score of the residents
none_even : (score : ℕ → ℕ) (s q : ℕ) → ((i : ℕ) → 0 < i → i ≤ q → s < score i) → (xs : List ℕ) → AllByRecursion (λ i. (0 < i) × (i ≤ q)) xs → copies 0 (map (λ i. score i - s) xs) ≡ 0
none_even score s q higher [] all = refl
none_even score s q higher (x ∷ xs) all =
    let off : one_if (eqb (score x - s) 0) ≡ 0 = ap one_if (ne_eqb (score x - s) 0 (λ e. omega (arith, e, higher x all.0.0 all.0.1))) in
    omega (arith, off, none_even score s q higher xs all.1)

module _ (facts : Facts) (reached : Reached) (of' : IsOf facts reached) (flat : IsFlat facts reached) where
  -- no arrangement with so many pairs has a lower PSD than the floor
  pub no_psd_is_below_the_floor : (shape : Shape) (a : Arrangement) → shape.mdps ≤ shape.pairs → IsIn a (arrangements (frame_of facts reached) shape)
      → is_lower (psd_in facts reached a) (floor_psd facts reached (score_at facts (seat_of reached.seats (reached.mdps + 1))) shape.pairs) ≡ false
  unfolding psd
  no_psd_is_below_the_floor shape a within m =
      let s : ℕ = score_at facts (seat_of reached.seats (reached.mdps + 1)) in
      let q = reached.mdps in
      let n = length reached.seats in
      let frame : Frame = frame_of facts reached in
      let j = remainder_pairs shape in
      let one : OneScore facts reached s = one_score_of facts reached of' flat in
      let counted : length frame.scores ≡ n = length-map reached.seats (score_at facts) in
      let resident : q < n = flat.resident in
      let parts = parts_of frame shape a (omega (arith, resident, counted)) m in
      let score : ℕ → ℕ = λ i. score_at facts (seat_of reached.seats i) in
      let plain : ℕ → ℕ = λ i. score i - s in
      let low : List ℕ = numbers_from 1 q in
      let limbo : List ℕ = left_of low a.s1 in
      let u = length limbo in
      let r : ℕ = (n - q) - (shape.mdps + (j + j)) in
      let fits : r + (shape.mdps + (j + j)) ≡ n - q = (let e = parts.left in omega (arith, e, counted)) in
      let found : filter (λ x. is_member x a.s1) low ≡ a.s1 = climbs-filter 1 q a.s1 parts.s1 in
      let split : u + shape.mdps ≡ q =
      (let all = filter-length (λ x. is_member x a.s1) low in
      omega (arith, all, length-numbers 1 q, ap length found, parts.s1_count)) in
      let c : ℕ → ℕ = λ d. copies d (map plain a.s1) in
      let h : ℕ → ℕ = λ d. copies d (map plain limbo) in
      let l : ℕ → ℕ = λ d. copies d (map (λ i. (score i - s) + 2) limbo) in
      let t : ℕ → ℕ = λ d. copies d (map plain low) in
      let evens : ℕ = shape.pairs - q in
      let twos : ℕ = n - 2 * shape.pairs in
      let whole : (d : ℕ) → c d + h d ≡ t d = λ d.
      let both = copies_shared d plain (λ x. is_member x a.s1) low in
      omega (arith, both, ap (λ xs. copies d (map plain xs)) found) in
      let numbers : AllByRecursion (λ i. (0 < i) × (i ≤ q)) limbo =
      all_filter (λ i. (0 < i) × (i ≤ q)) (λ x. not (is_member x a.s1)) low (numbers_within 0 1 q q (omega arith) (omega arith)) in
      let nobody : ((d : ℕ) → h d ≡ 0) → u ≡ 0 = λ none.
      omega (arith, ap length (nobody_there (map plain limbo) none), length-map limbo plain) in
      let lower = lower_than c h l t u j r evens twos (sum (map plain limbo) + 1)
      whole (λ d. two_more d plain limbo) (none_even score s q one.higher limbo numbers)
      (λ d far. none_over d (map plain limbo) (omega (arith, far))) nobody (omega (arith, split, within)) (omega (arith, split, within, fits, resident)) in
      let all : List ℕ = map (difference facts) (all_pairs reached.seats a) ++ map (difference_down facts (lowest facts reached.seats)) (map (seat_of reached.seats) (down frame a)) in
      let made : List ℕ = map plain low ++ (repeated 0 evens ++ repeated 2 twos) in
      not_lower (highest_first made) (highest_first all) (highest_first_falls made) (highest_first_falls all)
      (lower_by (λ d. copies d (highest_first made)) (λ d. copies d (highest_first all))
      (λ d. t d + (copies d (repeated 0 evens) + copies d (repeated 2 twos))) (λ d. c d + (l d + (copies d (repeated 0 j) + copies d (repeated 2 r))))
      (λ d. highest_first_copies d made ∙ copies_append d (map plain low) (repeated 0 evens ++ repeated 2 twos)
      ∙ ap (λ k. t d + k) (copies_append d (repeated 0 evens) (repeated 2 twos)))
      (λ d. highest_first_copies d all ∙ psd_copies facts reached s shape.mdps j a d one parts counted r fits)
      lower)
