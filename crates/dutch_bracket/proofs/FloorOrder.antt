-- A floor is not beaten: a quality that is nowhere in front of another is not better than it (C.04.3 C.6 to C.19). Two qualities are
-- compared item by item, and the first item that differs decides. There the quality stands behind its floor, since it is in front of
-- it nowhere; at C.11 it may be in front if C.8 or C.9 differs, and then C.8 or C.9 has decided before.
use Rattle.std.proofs.Common.{◌≡◌, ℕ, ◌+◌, ◌<◌, ◌≤◌, false, List, [], refl, sym, ◌∙◌, ap, arith}
use Rattle.std.specs.declared.cmp.Ordering.{Ordering}
use Rattle.std.specs.declared.cmp.Ordering.TheVariants.{Less, Equal, Greater}
use Rattle.std.specs.Ordering.{nat_cmp, is_lt, ordering_then}
use Rattle.std.specs.Cmp.Lexicographic.{slice_cmp}
use Rattle.std.proofs.lemmas.Cmp.{ranked, by_ranked}
use Rattle.dutch_arrangements.specs.Prelude.{Arrangement}
use Rattle.dutch_player.specs.Prelude.{Facts}
use Rattle.dutch_bracket.specs.declared.colours_missed.Miss.TheVariants.{Wide, Third, Preference, StrongPreference}
use Rattle.dutch_bracket.specs.Prelude.{HasPairsOf, seated_so, IsFloor, floor_over, floor_with, is_lower, Quality, NextValue, misses, count_in_pairs, count_with_topscorers, is_better, quality_with, Reached, downfloaters, quality_of, all_pairs}
use Rattle.dutch_bracket.proofs.C08ToC19Fixed.{least_of_known}
use Rattle.dutch_bracket.proofs.FixedPairs.{Beside, beside, none_known}
use Rattle.dutch_bracket.proofs.InTurn.{better_in_turn, compared_by_colours, compared_by_floats, compared_by_differences}

then_not : (o others : Ordering) → is_lt o ≡ false → is_lt others ≡ false → is_lt (ordering_then o others) ≡ false
then_not Less others first later = first
then_not Equal others first later = later
then_not Greater others first later = refl

-- by a list that is not lower, and then by others
list_not : (xs ys : List ℕ) (others : Ordering) → is_lower xs ys ≡ false → is_lt others ≡ false → is_lt (ordering_then (slice_cmp nat_cmp xs ys) others) ≡ false
list_not xs ys others first later = then_not (slice_cmp nat_cmp xs ys) others first later

-- by a number that is not smaller, and where it is the same by others
pub number_not : (x y : ℕ) (others : Ordering) → y ≤ x → (x ≡ y → is_lt others ≡ false) → is_lt (ordering_then (nat_cmp x y) others) ≡ false
number_not x y others first later =
    by_ranked (x < y) (x ≡ y) (y < x) (nat_cmp x y) (ranked x y (nat_cmp x y) refl)
    (λ e less. absurd (omega (arith, first, less)))
    (λ e same. then_not (nat_cmp x y) others (ap is_lt e) (later same))
    (λ e more. ap (λ o. is_lt (ordering_then o others)) e)

module _ (f q : Quality) (floor : IsFloor f q) where
  differences_not : is_lt (compared_by_differences q f) ≡ false
  differences_not =
      list_not q.down_again_by f.down_again_by _ floor.down_again_by
      (list_not q.up_again_by f.up_again_by _ floor.up_again_by
      (list_not q.down_again_before_by f.down_again_before_by _ floor.down_again_before_by floor.up_again_before_by))

  floats_not : is_lt (compared_by_floats q f) ≡ false
  floats_not =
      number_not q.down_again f.down_again _ floor.down_again (λ _.
      number_not q.up_again f.up_again _ floor.up_again (λ _.
      number_not q.down_again_before f.down_again_before _ floor.down_again_before (λ _.
      number_not q.up_again_before f.up_again_before _ floor.up_again_before (λ _. differences_not))))

  colours_not : is_lt (compared_by_colours q f) ≡ false
  colours_not =
      number_not q.wide_differences f.wide_differences _ floor.wide (λ wide.
      number_not q.third_colours f.third_colours _ floor.third (λ third.
      number_not q.missed_preferences f.missed_preferences _ floor.missed (λ _.
      number_not q.missed_strong f.missed_strong _ (floor.strong wide third) (λ _. floats_not))))

  pub not_better : is_better q f ≡ false
  not_better =
      better_in_turn q f
      ∙ list_not q.psd f.psd _ floor.psd
      (number_not f.next_pairs q.next_pairs _ floor.next_pairs (λ pairs.
      list_not q.next_psd f.next_psd _ (floor.next_psd (sym pairs)) colours_not))

-- so no arrangement is better than the floor made from what is known of it, if the floor's PSD and value of the next bracket and its
-- counts at C.10 and C.11 are such
floor_stays : (facts : Facts) (reached : Reached) (lower psd : List ℕ) (next : NextValue) (more_missed more_missed_strong : ℕ) (known : List (ℕ × ℕ)) (gone : List ℕ)
    (a : Arrangement) → Beside known (all_pairs reached.seats a) → Beside gone (downfloaters facts reached a)
    → is_lower (quality_of facts reached lower a).psd psd ≡ false
    → (quality_of facts reached lower a).next_pairs ≤ next.pairs
    → ((quality_of facts reached lower a).next_pairs ≡ next.pairs → is_lower (quality_of facts reached lower a).next_psd next.psd ≡ false)
    → count_in_pairs facts (misses Preference) known + more_missed ≤ (quality_of facts reached lower a).missed_preferences
    → ((quality_of facts reached lower a).wide_differences ≡ count_with_topscorers facts (misses Wide) known
    → (quality_of facts reached lower a).third_colours ≡ count_with_topscorers facts (misses Third) known
    → count_in_pairs facts (misses StrongPreference) known + more_missed_strong ≤ (quality_of facts reached lower a).missed_strong)
    → is_better (quality_of facts reached lower a) (floor_over facts psd next more_missed more_missed_strong (seated_so facts reached known gone)) ≡ false
unfolding floor_over quality_with
floor_stays facts reached lower psd next more_missed more_missed_strong known gone a others left by_psd by_pairs by_next_psd by_missed by_strong =
    let least = least_of_known facts reached lower known gone a others left in
    not_better (floor_over facts psd next more_missed more_missed_strong (seated_so facts reached known gone)) (quality_of facts reached lower a) (record {
      psd = by_psd;
      next_pairs = by_pairs;
      next_psd = by_next_psd;
      wide = least.wide;
      third = least.third;
      missed = by_missed;
      strong = by_strong;
      down_again = least.down_again;
      up_again = least.up_again;
      down_again_before = least.down_again_before;
      up_again_before = least.up_again_before;
      down_again_by = least.down_again_by;
      up_again_by = least.up_again_by;
      down_again_before_by = least.down_again_before_by;
      up_again_before_by = least.up_again_before_by;
    })

-- the same where a beginning is known
pub floor_holds : (facts : Facts) (reached : Reached) (lower psd : List ℕ) (next : NextValue) (more_missed more_missed_strong : ℕ) (b a : Arrangement) → HasPairsOf b a
    → is_lower (quality_of facts reached lower a).psd psd ≡ false
    → (quality_of facts reached lower a).next_pairs ≤ next.pairs
    → ((quality_of facts reached lower a).next_pairs ≡ next.pairs → is_lower (quality_of facts reached lower a).next_psd next.psd ≡ false)
    → count_in_pairs facts (misses Preference) (all_pairs reached.seats b) + more_missed ≤ (quality_of facts reached lower a).missed_preferences
    → ((quality_of facts reached lower a).wide_differences ≡ count_with_topscorers facts (misses Wide) (all_pairs reached.seats b)
    → (quality_of facts reached lower a).third_colours ≡ count_with_topscorers facts (misses Third) (all_pairs reached.seats b)
    → count_in_pairs facts (misses StrongPreference) (all_pairs reached.seats b) + more_missed_strong ≤ (quality_of facts reached lower a).missed_strong)
    → is_better (quality_of facts reached lower a) (floor_with facts reached psd next more_missed more_missed_strong b) ≡ false
floor_holds facts reached lower psd next more_missed more_missed_strong b a begins =
    floor_stays facts reached lower psd next more_missed more_missed_strong (all_pairs reached.seats b) [] a (beside reached.seats b a begins)
    (none_known (downfloaters facts reached a))
