-- No candidate that begins so beats the floor of a beginning (C.04.3 C.6 to C.19), nor what is awaited behind it of the next bracket (C.7). The
-- floor is what S1 tells of the PSD, or else the PSD of the fixed pairs; the best that the next bracket can be; the items of the fixed pairs,
-- and how many more must miss their colours.
use Rattle.std.proofs.Common.{◌≡◌, ℕ, ◌+◌, ◌-◌, ◌≤◌, Bool, true, false, ◌||◌, List, [], ◌++◌, map, length, refl, sym, ap, subst, ◌∙◌, cond, append-nil, arith}
use Rattle.std.specs.declared.cmp.Ordering.{Ordering}
use Rattle.std.specs.declared.cmp.Ordering.TheVariants.{Less, Equal, Greater}
use Rattle.std.specs.Ordering.{nat_cmp, is_lt, ordering_reverse}
use Rattle.std.specs.Cmp.Lexicographic.{slice_cmp}
use Rattle.std.proofs.lemmas.Bool.{and_parts, false_from_ne_true, true≢false}
use Rattle.std.proofs.lemmas.Cmp.{nat_list_cmp_total}
use Rattle.std.proofs.lemmas.List.{length-map}
use Rattle.dutch_arrangements.specs.declared.bracket.Shape.{Shape}
use Rattle.dutch_arrangements.specs.declared.prefix.Filling.{Filling}
use Rattle.dutch_arrangements.specs.declared.prefix.Filling.TheVariants.{ChoosingS1, S2, S2r}
use Rattle.dutch_arrangements.specs.Prelude.{Arrangement, arrangements, left_of, remainder_pairs, numbers_from, IsIn, Begins, BeginsAt, Beginning}
use Rattle.dutch_player.specs.Prelude.{Facts}
use Rattle.dutch_bracket.specs.declared.colours_missed.Miss.TheVariants.{Preference}
use Rattle.dutch_bracket.specs.Prelude.{HasPairsOf, fixed, fixed_lists, has_s1, is_of_shape, lists_by, residents_down, is_uniform, psd_with, repeated, IsFlat, is_lower, quality, Quality, count_in_pairs, highest_first, is_better, misses, psd, quality_with, IsNoBetter, HasNoBetter, NextValue, IsOf, Reached, frame_of, candidates_of, downfloaters, quality_of, all_pairs, difference, score_at, seat_of, floor_over}
use Rattle.dutch_floors.specs.Behind.{Basis, NoneBeats, NoneHasBetterNext}
use Rattle.dutch_floors.specs.FloorOf.{floor_by, is_flat, is_known, more_by, more_in, psd_over, residents_score, s1_by, s1_of}
use Rattle.dutch_floors.specs.Outlooks.{IsOutlook, best_next_for}
use Rattle.dutch_candidates.proofs.C06Psd.{psd_by_first, psd_of_all, psd_of_beginning, uniform_of}
use Rattle.dutch_floors.proofs.C07Outlook.{awaited_holds, flat_residents}
use Rattle.dutch_bracket.proofs.C08ToC19Fixed.{more_copies}
use Rattle.dutch_floors.proofs.C10Lonely.{lonely_miss}
use Rattle.dutch_floors.proofs.C10Preferences.{more_miss}
use Rattle.dutch_floors.proofs.C11StrongPreferences.{more_miss_strongly}
use Rattle.dutch_bracket.proofs.FixedPairs.{beside, none_known}
use Rattle.dutch_bracket.proofs.FloorOrder.{floor_holds}
use Rattle.dutch_bracket.proofs.LegalPairs.{legal_of}
use Rattle.dutch_bracket.proofs.QualityOrder.{less, lists_tied}
use Rattle.dutch_candidates.proofs.FixedListsLemmas.{has_fixed_pairs}

same_not_lower : (xs : List ℕ) → is_lower (highest_first xs) (highest_first xs) ≡ false
same_not_lower xs = more_copies xs xs (λ d. omega arith)

known_not_lower : (facts : Facts) (reached : Reached) (shape : Shape) (s : ℕ) (s1 : List ℕ)
    → is_lower (psd_with facts reached shape s s1) (psd_with facts reached shape s s1) ≡ false
unfolding psd_with
known_not_lower facts reached shape s s1 =
    same_not_lower (map (λ i. score_at facts (seat_of reached.seats i) - s) s1
    ++ (map (λ i. (score_at facts (seat_of reached.seats i) - s) + 2) (left_of (numbers_from 1 reached.mdps) s1)
    ++ (repeated 0 (remainder_pairs shape) ++ repeated 2 (residents_down reached shape))))

module _ (basis : Basis) (lower : List ℕ) (a : Arrangement) (of' : IsOf basis.facts basis.reached) (m : IsIn a (candidates_of basis.facts basis.reached basis.shape)) where
  abbrev facts : Facts
  facts = basis.facts

  abbrev reached : Reached
  reached = basis.reached

  abbrev shape : Shape
  shape = basis.shape

  abbrev it : Quality
  it = quality_of facts reached lower a

  arranged : IsIn a (arrangements (frame_of facts reached) shape)
  arranged = (legal_of facts reached shape a m).arranged

  within : basis.reached.mdps ≤ length basis.reached.seats
  within = subst (λ n. reached.mdps ≤ n) (length-map reached.seats (score_at facts)) of'.sound.within

  psd_by : (s1 : List ℕ) → IsFlat facts reached → s1 ≡ a.s1 → it.psd ≡ psd_with facts reached shape (residents_score facts reached) s1
  psd_by s1 flat same = psd_by_first facts reached lower shape a of' flat arranged ∙ ap (psd_with facts reached shape (residents_score facts reached)) (sym same)

  -- C.6, where all residents have one score
  psd_at : (filling : Filling) (lists : Arrangement) → IsFlat facts reached → BeginsAt filling lists a → (has_s1 filling || is_uniform facts reached shape) ≡ true
      → it.psd ≡ psd_with facts reached shape (residents_score facts reached) (s1_by filling shape (lists_by filling lists).s1)
  psd_at ChoosingS1 lists flat h known = psd_of_all facts reached lower shape a of' flat (uniform_of facts reached shape of' known) arranged
  psd_at S2 lists flat h known = psd_by lists.s1 flat h.0
  psd_at S2r lists flat h known = psd_by lists.s1 flat h.0

  -- C.6: the PSD is not lower
  psd_holds : (filling : Filling) (lists : Arrangement) → BeginsAt filling lists a → (has_s1 filling || is_uniform basis.facts basis.reached basis.shape) ≡ true
      → (t : Bool) → is_flat basis.facts basis.reached ≡ t
      → is_lower (quality_of basis.facts basis.reached lower a).psd (cond t
      (psd_with basis.facts basis.reached basis.shape (residents_score basis.facts basis.reached) (s1_by filling basis.shape (lists_by filling lists).s1))
      (psd basis.facts (fixed basis.facts basis.reached (lists_by filling lists)))) ≡ false
  unfolding psd
  psd_holds filling lists h known true flat =
      let s1 = s1_by filling shape (lists_by filling lists).s1 in
      ap (λ xs. is_lower xs (psd_with facts reached shape (residents_score facts reached) s1)) (psd_at filling lists (flat_residents facts reached of' flat) h known)
      ∙ known_not_lower facts reached shape (residents_score facts reached) s1
  psd_holds filling lists h known false uneven =
      ap (λ xs. is_lower it.psd (highest_first xs)) (append-nil (map (difference facts) (all_pairs reached.seats (lists_by filling lists))))
      ∙ psd_of_beginning facts reached lower (lists_by filling lists) a (has_fixed_pairs filling lists a h)

  -- C.10: so many more miss, by counts alone
  missed_more : (b : Arrangement) → HasPairsOf b a
      → count_in_pairs facts (misses Preference) (all_pairs reached.seats b) + more_in false facts reached shape (fixed facts reached b) ≤ it.missed_preferences
  unfolding quality_of quality quality_with
  missed_more b begins =
      more_miss facts reached shape (all_pairs reached.seats b) [] a within arranged (beside reached.seats b a begins) (none_known (downfloaters facts reached a))

  -- C.10: so many more miss
  more_holds : (filling : Filling) (lists : Arrangement) → BeginsAt filling lists a
      → count_in_pairs facts (misses Preference) (all_pairs reached.seats (lists_by filling lists)) + more_by filling basis (lists_by filling lists) ≤ it.missed_preferences
  more_holds ChoosingS1 lists h = missed_more (lists_by ChoosingS1 lists) (has_fixed_pairs ChoosingS1 lists a h)
  more_holds S2 lists h = missed_more (lists_by S2 lists) (has_fixed_pairs S2 lists a h)
  more_holds S2r lists h =
      omega (
        arith,
        lonely_miss facts reached lower shape (lists_by S2r lists) a within m (record { s1 = h.0; s2 = h.1; s1r = h.2; s2r = h.3 }),
        missed_more (lists_by S2r lists) (has_fixed_pairs S2r lists a h),
      )

  -- C.6 to C.19: no candidate with a beginning is better than its floor, where so many more miss
  floor_stands : (b : Beginning) (more : ℕ) → Begins b a → (has_s1 b.filling || is_uniform facts reached shape) ≡ true → IsOutlook facts reached lower shape basis.outlook
      → count_in_pairs facts (misses Preference) (all_pairs reached.seats (fixed_lists b)) + more ≤ it.missed_preferences
      → is_better it (floor_by basis (s1_of basis b) more (fixed_lists b)) ≡ false
  unfolding quality_of quality quality_with floor_over psd_over
  floor_stands b more h known outlook missed =
      let later = awaited_holds facts reached lower shape basis.outlook of' outlook b.filling b.lists a arranged h known in
      let pairs = has_fixed_pairs b.filling b.lists a h in
      floor_holds facts reached lower (psd_over basis (s1_of basis b) (fixed facts reached (fixed_lists b)))
      (best_next_for facts reached shape basis.outlook (s1_of basis b)) more
      (more_in true facts reached shape (fixed facts reached (fixed_lists b))) (fixed_lists b) a pairs
      (psd_holds b.filling b.lists h known (is_flat facts reached) refl) later.0 later.1 missed
      (more_miss_strongly facts reached shape (all_pairs reached.seats (fixed_lists b)) [] a within m
      (beside reached.seats (fixed_lists b) a pairs) (none_known (downfloaters facts reached a)))

known_s1 : (basis : Basis) (b : Beginning) → is_known basis b ≡ true → (has_s1 b.filling || is_uniform basis.facts basis.reached basis.shape) ≡ true
known_s1 basis b h = (and_parts (is_of_shape basis.shape (fixed_lists b)) _ h).1

-- so it is a floor
pub none_beats : (basis : Basis) (b : Beginning) (floor : Quality) (more : ℕ) → IsOf basis.facts basis.reached
    → IsOutlook basis.facts basis.reached basis.lower basis.shape basis.outlook → is_known basis b ≡ true → more ≤ more_by b.filling basis (fixed_lists b)
    → floor ≡ floor_by basis (s1_of basis b) more (fixed_lists b) → NoneBeats basis b floor
none_beats basis b floor more of' outlook known few e a m h =
    ap (is_better (quality_of basis.facts basis.reached basis.lower a)) e
    ∙ floor_stands basis basis.lower a of' m b more h (known_s1 basis b known) outlook
    (omega (arith, few, more_holds basis basis.lower a of' m b.filling b.lists h))

-- ---- values of the next bracket

not_lower_by : (xs ys zs : List ℕ) (o : Ordering) → slice_cmp nat_cmp ys zs ≡ o → is_lower xs ys ≡ false → is_lower ys zs ≡ false → is_lower xs zs ≡ true → ⊥
not_lower_by xs ys zs Less e first second low = true≢false (sym (ap is_lt e) ∙ second)
not_lower_by xs ys zs Equal e first second low = true≢false (sym low ∙ ap (is_lower xs) (sym (lists_tied ys zs e)) ∙ first)
not_lower_by xs ys zs Greater e first second low =
    true≢false
    (sym (ap is_lt (nat_list_cmp_total.trans xs zs ys (less (slice_cmp nat_cmp xs zs) low) (nat_list_cmp_total.antisymm zs ys ∙ ap ordering_reverse e))) ∙ first)

-- who has no better value than one, has no better value than another that the one is no better than
none_better_on : (q : Quality) (next other : NextValue) → HasNoBetter q next → IsNoBetter next other → HasNoBetter q other
none_better_on q next other first second = (
  omega (arith, first.0, second.0),
  λ same.
      let here : q.next_pairs ≡ next.pairs = omega (arith, first.0, second.0, same) in
      let there : next.pairs ≡ other.pairs = omega (arith, first.0, second.0, same) in
      false_from_ne_true (is_lower q.next_psd other.psd)
      (not_lower_by q.next_psd next.psd other.psd (slice_cmp nat_cmp next.psd other.psd) refl (first.1 here) (second.1 there)),
)

-- C.7: where what is awaited behind a beginning is not better than another value, no candidate's is
pub none_has_better_next : (basis : Basis) (b : Beginning) (other : NextValue) → IsOf basis.facts basis.reached
    → IsOutlook basis.facts basis.reached basis.lower basis.shape basis.outlook → (has_s1 b.filling || is_uniform basis.facts basis.reached basis.shape) ≡ true
    → IsNoBetter (best_next_for basis.facts basis.reached basis.shape basis.outlook (s1_of basis b)) other → NoneHasBetterNext basis b other
none_has_better_next basis b other of' outlook known none a m begins =
    none_better_on (quality_of basis.facts basis.reached basis.lower a) (best_next_for basis.facts basis.reached basis.shape basis.outlook (s1_of basis b)) other
    (awaited_holds basis.facts basis.reached basis.lower basis.shape basis.outlook of' outlook b.filling b.lists a
    (legal_of basis.facts basis.reached basis.shape a m).arranged begins known) none
