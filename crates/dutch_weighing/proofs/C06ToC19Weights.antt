-- The weight of a candidate is the sum of what its pairs and its downfloaters weigh alone (C.04.3 C.6, C.8 to C.19), since each digit is: how
-- often a difference stands in a list, and how many players something is said of. A pair adds at most 2 to a digit, a downfloater 1.
use Rattle.std.proofs.Common.{◌≡◌, ℕ, ◌+◌, ◌-◌, ◌*◌, ◌<◌, ◌≤◌, Bool, true, false, eqb, nat_lt, cond, if◌then◌else◌, List, [], ◌∷◌, ◌++◌, map, filter, length, sum_by, Option, None, Some, refl, sym, ap, ◌∙◌, arith}
use Rattle.std.specs.Prelude.{◌==◌, count_by}
use Rattle.std.specs.List.{AllByRecursion, zip}
use Rattle.std.specs.Option.{ForSome}
use Rattle.std.proofs.lemmas.List.{length-map, map-append}
use Rattle.std.proofs.lemmas.List.Sums.{sum_by-cons, sum_by-append}
use Rattle.std.proofs.Math.Nat.{mul-add}
use Rattle.trf16_report.specs.declared.cell.Colour.{Colour}
use Rattle.trf16_report.specs.declared.cell.Colour.TheVariants.{White, Black}
use Rattle.dutch_arrangements.specs.Prelude.{Arrangement, down}
use Rattle.dual.specs.Prelude.{cost}
use Rattle.dual.proofs.Sums.{sum_map}
use Rattle.dutch_player.specs.declared.float.Float.{Float}
use Rattle.dutch_player.specs.declared.float.Float.TheVariants.{Up, Down}
use Rattle.dutch_player.specs.Prelude.{colours, SeatFacts, Facts, seat_at}
use Rattle.dutch_bracket.specs.declared.seated.Floater.{Floater}
use Rattle.dutch_bracket.specs.declared.colours_missed.Miss.TheVariants.{Wide, Third, Preference, StrongPreference}
use Rattle.dutch_bracket.specs.Prelude.{seated_so, no_value, quality, Quality, NextValue, again, count_in, count_in_pairs, count_with_topscorers, differences, float_of, has_topscorer, highest_first, is_float, misses, one_if, psd, quality_with, Reached, frame_of, downfloaters, quality_of, Seated, all_pairs, difference, difference_down, floats_down, goes_down, goes_up, going_down, going_up, is_uneven, lowest, pairs_of, score_at, seat_of, number_pairs}
use Rattle.dutch_weighing.specs.Prelude.{HasDigits, HasFloatBases, NextScale, Scale, alone_by, count_had, counts, digits_below, digits_with, float_digits, in_base, player_digits, weight_below, weight_of, weight_with, weighing, written}
use Rattle.dutch_bracket.proofs.AllLemmas.{all_join}
use Rattle.dutch_bracket.proofs.Copies.{Falls, copies, copies_append, highest_first_copies, highest_first_falls}
use Rattle.dutch_bracket.proofs.C08ToC19Fixed.{with_topscorers_add_up, filtered_add_up, mapped_add_up, counts_add_up, copies_add_up}
use Rattle.dutch_bracket.proofs.Everybody.{pairs_total}
use Rattle.dutch_bracket.proofs.FixedPairs.{AddsUp}
use Rattle.dutch_weighing.proofs.ScaleLemmas.{written_on}
use Rattle.dutch_bracket.proofs.Totals.{total, total_length}
use Rattle.dutch_weighing.proofs.WrittenNumbers.{IsOrdered, counted, one_cond}

-- ---- numbers whose digits are sums

-- a number with digits behind it is the sum of two such numbers
record Adds (ds es fs : List (ℕ × ℕ)) : Type 0 where
  is : (m n : ℕ) → written (m + n) ds ≡ written m es + written n fs

adds_more : (base d e f : ℕ) (ds es fs : List (ℕ × ℕ)) → d ≡ e + f → Adds ds es fs → Adds ((base, d) ∷ ds) ((base, e) ∷ es) ((base, f) ∷ fs)
adds_more base d e f ds es fs sum more = record {
  is = λ m n.
      let fronts : base * (m + n) + d ≡ (base * m + e) + (base * n + f) = omega (arith, mul-add base m n, sum) in
      ap (λ front. written front ds) fronts ∙ more.is (base * m + e) (base * n + f);
}

adds_on : (ds es fs ds' es' fs' : List (ℕ × ℕ)) → Adds ds es fs → Adds ds' es' fs' → Adds (ds ++ ds') (es ++ es') (fs ++ fs')
adds_on ds es fs ds' es' fs' first second = record {
  is = λ m n.
      let whole : written (m + n) (ds ++ ds') ≡ written (written m es) es' + written (written n fs) fs' =
      written_on (m + n) ds ds' ∙ (ap (λ front. written front ds') (first.is m n) ∙ second.is (written m es) (written n fs)) in
      omega (arith, whole, written_on m es es', written_on n fs fs');
}

-- each number stands as often in a list as in two others
abbrev AddUpTo : List ℕ → List ℕ → List ℕ → Type 0
AddUpTo xs ys zs = (d : ℕ) → count_by (λ by. by == d) xs ≡ count_by (λ by. by == d) ys + count_by (λ by. by == d) zs

adds_counts : (base : ℕ) (ds xs ys zs : List ℕ) → AddUpTo xs ys zs
    → Adds (in_base base (counts ds xs)) (in_base base (counts ds ys)) (in_base base (counts ds zs))
adds_counts base [] xs ys zs sum = record { is = λ m n. refl }
adds_counts base (d ∷ ds) xs ys zs sum =
    adds_more base (count_by (λ by. by == d) xs) (count_by (λ by. by == d) ys) (count_by (λ by. by == d) zs) (in_base base (counts ds xs))
    (in_base base (counts ds ys)) (in_base base (counts ds zs)) (sum d) (adds_counts base ds xs ys zs sum)

adds_below : (next : Option NextScale) (m n : ℕ) (xs ys zs : List ℕ) → AddUpTo xs ys zs
    → Adds (digits_below next (m + n) xs) (digits_below next m ys) (digits_below next n zs)
adds_below None m n xs ys zs sum = record { is = λ front front'. refl }
adds_below (Some next) m n xs ys zs sum =
    adds_more next.base (m + n) m n (in_base next.base (counts next.psd xs)) (in_base next.base (counts next.psd ys))
    (in_base next.base (counts next.psd zs)) refl (adds_counts next.base next.psd xs ys zs sum)

one_or_none : (b : Bool) → one_if b ≤ 1
one_or_none true = omega arith
one_or_none false = omega arith

pub all_so : {X : Type 0} (P Q : X → Type 0) → ((x : X) → P x → Q x) → (xs : List X) → AllByRecursion P xs → AllByRecursion Q xs
all_so P Q so [] all = tt
all_so P Q so (x ∷ xs) all = (so x all.0, all_so P Q so xs all.1)

none_adds : {X : Type 0} (f : List X → ℕ) → AddsUp f → f [] ≡ 0
none_adds f adds = let twice : f [] ≡ f [] + f [] = adds [] [] in omega (arith, twice)

-- of one member it is 1 or 0, and over a list it adds up
record IsCount {X : Type 0} (f : List X → ℕ) : Type 0 where
  adds : AddsUp f
  one : (x : X) → f (x ∷ []) ≤ 1

one_of_filter : {X : Type 0} (f : List X → ℕ) → IsCount f → (x : X) (b : Bool) → f (cond b (x ∷ []) []) ≤ 1
one_of_filter f count x true = count.one x
one_of_filter f count x false = omega (arith, none_adds f count.adds)

length_one : (floater : Floater) (b : Bool) → length (cond b (floater ∷ []) []) ≡ one_if b
length_one floater true = refl
length_one floater false = refl

copies_of_one : (d : ℕ) (floater : Floater) (b : Bool) → copies d (map (λ (x : Floater). x.by) (cond b (floater ∷ []) [])) ≤ 1
copies_of_one d floater true = omega (arith, one_or_none (eqb floater.by d))
copies_of_one d floater false = omega arith

module _ (facts : Facts) (float : Float) (back : ℕ) where
  had : Floater → Bool
  had floater = is_float float (float_of facts back floater.seat)

  again_counts : IsCount (λ floaters. length (again facts float back floaters))
  unfolding had
  again_counts = record { adds = counts_add_up facts float back; one = λ floater. omega (arith, length_one floater (had floater), one_or_none (had floater)) }

  again_by_counts : (d : ℕ) → IsCount (λ floaters. copies d (map (λ (floater : Floater). floater.by) (again facts float back floaters)))
  unfolding had
  again_by_counts d = record { adds = copies_add_up facts float back d; one = λ floater. copies_of_one d floater (had floater) }

module _ (facts : Facts) (reached : Reached) where
  -- the quality of some pairs and downfloaters of a bracket
  abbrev pub of : List (ℕ × ℕ) → List ℕ → NextValue → Quality
  of pairs down next = quality_with facts (seated_so facts reached pairs down) next

  -- a digit adds up over pairs and over downfloaters
  pub record IsSum (digit : Quality → ℕ) : Type 0 where
    pub of_pairs : List (ℕ × ℕ) → ℕ
    pub of_down : List ℕ → ℕ
    pub pairs_add : AddsUp of_pairs
    pub down_add : AddsUp of_down
    pub few_in_pair : (pair : ℕ × ℕ) → of_pairs (pair ∷ []) ≤ 2
    pub few_down : (seat : ℕ) → of_down (seat ∷ []) ≤ 1
    pub is : (pairs : List (ℕ × ℕ)) (down : List ℕ) (next : NextValue) → digit (of pairs down next) ≡ of_pairs pairs + of_down down

  -- ---- the digits one by one

  psd_sum : (d : ℕ) → IsSum (λ q. count_by (λ by. by == d) q.psd)
  unfolding quality_with psd
  psd_sum d = record {
    of_pairs = λ pairs. copies d (map (difference facts) pairs);
    of_down = λ down. copies d (map (difference_down facts (lowest facts reached.seats)) down);
    pairs_add = mapped_add_up (copies d) (difference facts) (copies_append d);
    down_add = mapped_add_up (copies d) (difference_down facts (lowest facts reached.seats)) (copies_append d);
    few_in_pair = λ pair. omega (arith, one_or_none (eqb (difference facts pair) d));
    few_down = λ seat. omega (arith, one_or_none (eqb (difference_down facts (lowest facts reached.seats) seat) d));
    is = λ pairs down next.
        counted d (highest_first (map (difference facts) pairs ++ map (difference_down facts (lowest facts reached.seats)) down))
        ∙ highest_first_copies d (map (difference facts) pairs ++ map (difference_down facts (lowest facts reached.seats)) down)
        ∙ copies_append d (map (difference facts) pairs) (map (difference_down facts (lowest facts reached.seats)) down);
  }

  none_down : List ℕ → ℕ
  none_down down = 0

  two_in_pair : (holds : SeatFacts → Colour → Bool) (pair : ℕ × ℕ) → count_in facts holds pair ≤ 2
  unfolding count_in
  two_in_pair holds pair =
      let both : ℕ × ℕ = colours facts pair.0 pair.1 in
      omega (arith, one_or_none (holds (seat_at facts both.0) White), one_or_none (holds (seat_at facts both.1) Black))

  two_with_topscorer : (holds : SeatFacts → Colour → Bool) (pair : ℕ × ℕ) (b : Bool) → sum_by (count_in facts holds) (cond b (pair ∷ []) []) ≤ 2
  two_with_topscorer holds pair true = omega (arith, sum_by-cons (count_in facts holds) pair [], two_in_pair holds pair)
  two_with_topscorer holds pair false = omega arith

  -- of players in pairs alone
  pairs_sum : (digit : Quality → ℕ) (of_pairs : List (ℕ × ℕ) → ℕ) → AddsUp of_pairs → ((pair : ℕ × ℕ) → of_pairs (pair ∷ []) ≤ 2)
      → ((pairs : List (ℕ × ℕ)) (down : List ℕ) (next : NextValue) → digit (of pairs down next) ≡ of_pairs pairs) → IsSum digit
  unfolding none_down
  pairs_sum digit of_pairs adds few is = record {
    of_pairs = of_pairs;
    of_down = none_down;
    pairs_add = adds;
    down_add = λ xs ys. refl;
    few_in_pair = few;
    few_down = λ seat. omega arith;
    is = λ pairs down next. omega (arith, is pairs down next);
  }

  wide_sum : IsSum (λ q. q.wide_differences)
  unfolding quality_with
  wide_sum =
      pairs_sum (λ q. q.wide_differences) (count_with_topscorers facts (misses Wide)) (with_topscorers_add_up facts (misses Wide))
      (λ pair. two_with_topscorer (misses Wide) pair (has_topscorer facts pair)) (λ pairs down next. refl)

  third_sum : IsSum (λ q. q.third_colours)
  unfolding quality_with
  third_sum =
      pairs_sum (λ q. q.third_colours) (count_with_topscorers facts (misses Third)) (with_topscorers_add_up facts (misses Third))
      (λ pair. two_with_topscorer (misses Third) pair (has_topscorer facts pair)) (λ pairs down next. refl)

  missed_sum : IsSum (λ q. q.missed_preferences)
  unfolding quality_with
  missed_sum =
      pairs_sum (λ q. q.missed_preferences) (count_in_pairs facts (misses Preference)) (sum_by-append (count_in facts (misses Preference)))
      (λ pair. two_with_topscorer (misses Preference) pair true) (λ pairs down next. refl)

  strong_sum : IsSum (λ q. q.missed_strong)
  unfolding quality_with
  strong_sum =
      pairs_sum (λ q. q.missed_strong) (count_in_pairs facts (misses StrongPreference)) (sum_by-append (count_in facts (misses StrongPreference)))
      (λ pair. two_with_topscorer (misses StrongPreference) pair true) (λ pairs down next. refl)

  -- of those who go down, and of those who go up
  down_sum : (digit : Quality → ℕ) (f : List Floater → ℕ) → IsCount f
      → ((pairs : List (ℕ × ℕ)) (down : List ℕ) (next : NextValue) → digit (of pairs down next) ≡ f (going_down facts (seated_so facts reached pairs down))) → IsSum digit
  unfolding going_down
  down_sum digit f count is = record {
    of_pairs = λ pairs. f (map (goes_down facts) (filter (is_uneven facts) pairs));
    of_down = λ down. f (map (floats_down facts (lowest facts reached.seats)) down);
    pairs_add = filtered_add_up (λ pairs. f (map (goes_down facts) pairs)) (is_uneven facts) (mapped_add_up f (goes_down facts) count.adds);
    down_add = mapped_add_up f (floats_down facts (lowest facts reached.seats)) count.adds;
    few_in_pair = λ pair. omega (
      arith,
      one_of_filter (λ pairs. f (map (goes_down facts) pairs))
          (record { adds = mapped_add_up f (goes_down facts) count.adds; one = λ p. count.one (goes_down facts p) }) pair (is_uneven facts pair),
    );
    few_down = λ seat. count.one (floats_down facts (lowest facts reached.seats) seat);
    is = λ pairs down next.
        is pairs down next ∙ count.adds (map (goes_down facts) (filter (is_uneven facts) pairs)) (map (floats_down facts (lowest facts reached.seats)) down);
  }

  up_sum : (digit : Quality → ℕ) (f : List Floater → ℕ) → IsCount f
      → ((pairs : List (ℕ × ℕ)) (down : List ℕ) (next : NextValue) → digit (of pairs down next) ≡ f (going_up facts (seated_so facts reached pairs down))) → IsSum digit
  unfolding going_up
  up_sum digit f count is =
      pairs_sum digit (λ pairs. f (map (goes_up facts) (filter (is_uneven facts) pairs)))
      (filtered_add_up (λ pairs. f (map (goes_up facts) pairs)) (is_uneven facts) (mapped_add_up f (goes_up facts) count.adds))
      (λ pair. omega (
        arith,
        one_of_filter (λ pairs. f (map (goes_up facts) pairs))
            (record { adds = mapped_add_up f (goes_up facts) count.adds; one = λ p. count.one (goes_up facts p) }) pair (is_uneven facts pair),
      )) is

  -- how often a difference stands in a list of those who move
  in_differences : (d : ℕ) (floaters : List Floater) → count_by (λ by. by == d) (differences floaters) ≡ copies d (map (λ (floater : Floater). floater.by) floaters)
  in_differences d floaters =
      counted d (differences floaters) ∙ highest_first_copies d (map (λ (floater : Floater). floater.by) floaters)

  -- of which each is one
  differences_down : (list : Quality → List ℕ) (float : Float) (back : ℕ)
      → ((pairs : List (ℕ × ℕ)) (down : List ℕ) (next : NextValue)
      → list (of pairs down next) ≡ differences (again facts float back (going_down facts (seated_so facts reached pairs down))))
      → (d : ℕ) → IsSum (λ q. count_by (λ by. by == d) (list q))
  differences_down list float back is d =
      down_sum (λ q. count_by (λ by. by == d) (list q)) _ (again_by_counts facts float back d)
      (λ pairs down next. ap (λ (ds : List ℕ). count_by (λ by. by == d) ds) (is pairs down next)
      ∙ in_differences d (again facts float back (going_down facts (seated_so facts reached pairs down))))

  differences_up : (list : Quality → List ℕ) (float : Float) (back : ℕ)
      → ((pairs : List (ℕ × ℕ)) (down : List ℕ) (next : NextValue)
      → list (of pairs down next) ≡ differences (again facts float back (going_up facts (seated_so facts reached pairs down))))
      → (d : ℕ) → IsSum (λ q. count_by (λ by. by == d) (list q))
  differences_up list float back is d =
      up_sum (λ q. count_by (λ by. by == d) (list q)) _ (again_by_counts facts float back d)
      (λ pairs down next. ap (λ (ds : List ℕ). count_by (λ by. by == d) ds) (is pairs down next)
      ∙ in_differences d (again facts float back (going_up facts (seated_so facts reached pairs down))))

  down_again_sum : IsSum (λ q. q.down_again)
  unfolding quality_with
  down_again_sum = down_sum (λ q. q.down_again) (λ fs. length (again facts Down 1 fs)) (again_counts facts Down 1) (λ pairs down next. refl)

  up_again_sum : IsSum (λ q. q.up_again)
  unfolding quality_with
  up_again_sum = up_sum (λ q. q.up_again) (λ fs. length (again facts Up 1 fs)) (again_counts facts Up 1) (λ pairs down next. refl)

  down_before_sum : IsSum (λ q. q.down_again_before)
  unfolding quality_with
  down_before_sum = down_sum (λ q. q.down_again_before) (λ fs. length (again facts Down 2 fs)) (again_counts facts Down 2) (λ pairs down next. refl)

  up_before_sum : IsSum (λ q. q.up_again_before)
  unfolding quality_with
  up_before_sum = up_sum (λ q. q.up_again_before) (λ fs. length (again facts Up 2 fs)) (again_counts facts Up 2) (λ pairs down next. refl)

  -- ---- one pair more, and one downfloater more

  pair_more : (digit : Quality → ℕ) → IsSum digit → (pair : ℕ × ℕ) (pairs : List (ℕ × ℕ)) (down : List ℕ) (next : NextValue)
      → digit (of (pair ∷ pairs) down next) ≡ digit (of (pair ∷ []) [] no_value) + digit (of pairs down next)
  pair_more digit sum pair pairs down next =
      omega (
        arith,
        sum.is (pair ∷ pairs) down next,
        sum.is (pair ∷ []) [] no_value,
        sum.is pairs down next,
        sum.pairs_add (pair ∷ []) pairs,
        none_adds sum.of_down sum.down_add,
      )

  down_more : (digit : Quality → ℕ) → IsSum digit → (seat : ℕ) (down : List ℕ) (next : NextValue)
      → digit (of [] (seat ∷ down) next) ≡ digit (of [] (seat ∷ []) no_value) + digit (of [] down next)
  down_more digit sum seat down next =
      omega (
        arith,
        sum.is [] (seat ∷ down) next,
        sum.is [] (seat ∷ []) no_value,
        sum.is [] down next,
        sum.down_add (seat ∷ []) down,
        none_adds sum.of_pairs sum.pairs_add,
      )

  none_of_none : (digit : Quality → ℕ) → IsSum digit → (next : NextValue) → digit (of [] [] next) ≡ 0
  none_of_none digit sum next =
      omega (arith, sum.is [] [] next, none_adds sum.of_pairs sum.pairs_add, none_adds sum.of_down sum.down_add)

  -- one pair adds at most 2 to a digit, one downfloater 1
  few_one_pair : (digit : Quality → ℕ) → IsSum digit → (pair : ℕ × ℕ) → digit (of (pair ∷ []) [] no_value) ≤ 2
  few_one_pair digit sum pair = omega (arith, sum.is (pair ∷ []) [] no_value, sum.few_in_pair pair, none_adds sum.of_down sum.down_add)

  few_one_down : (digit : Quality → ℕ) → IsSum digit → (seat : ℕ) → digit (of [] (seat ∷ []) no_value) ≤ 1
  few_one_down digit sum seat = omega (arith, sum.is [] (seat ∷ []) no_value, sum.few_down seat, none_adds sum.of_pairs sum.pairs_add)

  -- a digit is no greater than a weight of players, if that of each pair and of each downfloater is not
  pub few_by : (w : ℕ → ℕ) (digit : Quality → ℕ) → IsSum digit → ((pair : ℕ × ℕ) → digit (of (pair ∷ []) [] no_value) ≤ w pair.0 + w pair.1)
      → ((seat : ℕ) → digit (of [] (seat ∷ []) no_value) ≤ w seat) → (pairs : List (ℕ × ℕ)) (down : List ℕ) (next : NextValue)
      → digit (of pairs down next) ≤ pairs_total w pairs + total w down
  few_by w digit sum pair_few seat_few [] [] next = omega (arith, none_of_none digit sum next)
  few_by w digit sum pair_few seat_few [] (seat ∷ down) next =
      omega (arith, down_more digit sum seat down next, few_by w digit sum pair_few seat_few [] down next, seat_few seat)
  few_by w digit sum pair_few seat_few (pair ∷ pairs) down next =
      omega (
        arith,
        pair_more digit sum pair pairs down next,
        few_by w digit sum pair_few seat_few pairs down next,
        pair_few pair,
      )

  -- ---- weights add up as the digits do

  -- each digit of a quality, those of C.7 apart, is the sum of those of two others
  abbrev AreSums : Quality → Quality → Quality → Type 0
  AreSums q r s = (digit : Quality → ℕ) → IsSum digit → digit q ≡ digit r + digit s

  module _ (q r s : Quality) (sums : AreSums q r s) where
    digit_adds : (base : ℕ) (digit : Quality → ℕ) → IsSum digit → (ds es fs : List (ℕ × ℕ)) → Adds ds es fs
        → Adds ((base, digit q) ∷ ds) ((base, digit r) ∷ es) ((base, digit s) ∷ fs)
    digit_adds base digit sum ds es fs more = adds_more base (digit q) (digit r) (digit s) ds es fs (sums digit sum) more

    numbers_add : (base : ℕ) → Adds (in_base base (player_digits q)) (in_base base (player_digits r)) (in_base base (player_digits s))
    numbers_add base =
        digit_adds base (λ q. q.wide_differences) wide_sum _ _ _
        (digit_adds base (λ q. q.third_colours) third_sum _ _ _
        (digit_adds base (λ q. q.missed_preferences) missed_sum _ _ _
        (digit_adds base (λ q. q.missed_strong) strong_sum _ _ _
        (digit_adds base (λ q. q.down_again) down_again_sum _ _ _
        (digit_adds base (λ q. q.up_again) up_again_sum _ _ _
        (digit_adds base (λ q. q.down_again_before) down_before_sum _ _ _
        (digit_adds base (λ q. q.up_again_before) up_before_sum [] [] [] (record { is = λ m n. refl }))))))))

    list_adds : (base : ℕ) (ds : List ℕ) (list : Quality → List ℕ) → ((d : ℕ) → IsSum (λ q. count_by (λ by. by == d) (list q)))
        → Adds (in_base base (counts ds (list q))) (in_base base (counts ds (list r))) (in_base base (counts ds (list s)))
    list_adds base ds list sum = adds_counts base ds (list q) (list r) (list s) (λ d. sums (λ q. count_by (λ by. by == d) (list q)) (sum d))

    floats_add : (scale : Scale) → Adds (float_digits scale q) (float_digits scale r) (float_digits scale s)
    unfolding quality_with
    floats_add scale =
        adds_on _ _ _ _ _ _ (list_adds scale.float_bases.down_again scale.floats (λ q. q.down_again_by)
        (differences_down (λ q. q.down_again_by) Down 1 (λ pairs down next. refl)))
        (adds_on _ _ _ _ _ _ (list_adds scale.float_bases.up_again scale.floats (λ q. q.up_again_by)
        (differences_up (λ q. q.up_again_by) Up 1 (λ pairs down next. refl)))
        (adds_on _ _ _ _ _ _ (list_adds scale.float_bases.down_again_before scale.floats (λ q. q.down_again_before_by)
        (differences_down (λ q. q.down_again_before_by) Down 2 (λ pairs down next. refl)))
        (list_adds scale.float_bases.up_again_before scale.floats (λ q. q.up_again_before_by)
        (differences_up (λ q. q.up_again_before_by) Up 2 (λ pairs down next. refl)))))

    -- so its weight is the sum of theirs, if what is said of the next bracket is a sum too
    weight_adds : (scale : Scale) (k m n : ℕ) (xs ys zs : List ℕ) → k ≡ m + n → AddUpTo xs ys zs
        → weight_with scale k xs q ≡ weight_with scale m ys r + weight_with scale n zs s
    unfolding weight_with
    weight_adds scale k m n xs ys zs same below =
        let adds : Adds (digits_with scale (m + n) xs q) (digits_with scale m ys r) (digits_with scale n zs s) =
        adds_on _ _ _ _ _ _ (list_adds scale.base scale.psd (λ q. q.psd) psd_sum)
        (adds_on _ _ _ _ _ _ (adds_below scale.next m n xs ys zs below) (adds_on _ _ _ _ _ _ (numbers_add scale.base) (floats_add scale))) in
        let number : written 0 (digits_with scale k xs q) ≡ written 0 (digits_with scale m ys r) + written 0 (digits_with scale n zs s) =
        ap (λ i. written 0 (digits_with scale i xs q)) same ∙ adds.is 0 0 in
        let units : scale.unit * written 0 (digits_with scale k xs q)
        ≡ scale.unit * (written 0 (digits_with scale m ys r) + written 0 (digits_with scale n zs s)) =
        ap (λ i. scale.unit * i) number in
        omega (arith, units, mul-add scale.unit (written 0 (digits_with scale m ys r)) (written 0 (digits_with scale n zs s)))

  -- ---- what the next bracket weighs (C.7)

  module _ (scale : Scale) where
    -- nobody weighs nothing, the next bracket apart
    weight_of_none : (next : NextValue) (alone : ℕ) (below : List ℕ) → weight_with scale alone below (of [] [] next) ≡ weight_below scale alone below
    unfolding weight_with quality_with psd going_down going_up
    weight_of_none next alone below = refl

    below_adds : (k m n : ℕ) (xs ys zs : List ℕ) → k ≡ m + n → AddUpTo xs ys zs → weight_below scale k xs ≡ weight_below scale m ys + weight_below scale n zs
    below_adds k m n xs ys zs same below =
        let none : Quality = of [] [] no_value in
        omega (
          arith,
          weight_adds none none none (λ digit sum. omega (arith, none_of_none digit sum no_value)) scale k m n xs ys zs same below,
          weight_of_none no_value k xs,
          weight_of_none no_value m ys,
          weight_of_none no_value n zs,
        )

    pub below_more : (m n : ℕ) (xs ys : List ℕ) → weight_below scale (m + n) (xs ++ ys) ≡ weight_below scale m xs + weight_below scale n ys
    below_more m n xs ys =
        below_adds (m + n) m n (xs ++ ys) xs ys refl (λ d. omega (arith, counted d (xs ++ ys), counted d xs, counted d ys, copies_append d xs ys))

    pub below_none : weight_below scale 0 [] ≡ 0
    below_none = omega (arith, below_more 0 0 [] [])

    pub below_ordered : (n : ℕ) (xs : List ℕ) → weight_below scale n (highest_first xs) ≡ weight_below scale n xs
    below_ordered n xs =
        omega (
          arith,
          below_adds n 0 n (highest_first xs) [] xs (omega arith) (λ d. omega (arith, counted d (highest_first xs), counted d xs, highest_first_copies d xs)),
          below_none,
        )

-- ---- pairs of numbers and pairs of seats

zip_seated : (seats firsts seconds : List ℕ) → pairs_of seats firsts seconds ≡ map (λ (pair : ℕ × ℕ). (seat_of seats pair.0, seat_of seats pair.1)) (zip firsts seconds)
zip_seated seats [] seconds = refl
zip_seated seats (a ∷ firsts) [] = refl
zip_seated seats (a ∷ firsts) (b ∷ seconds) = ap (λ (pairs : List (ℕ × ℕ)). (seat_of seats a, seat_of seats b) ∷ pairs) (zip_seated seats firsts seconds)

pub pairs_seated : (seats : List ℕ) (a : Arrangement) → all_pairs seats a ≡ map (λ (pair : ℕ × ℕ). (seat_of seats pair.0, seat_of seats pair.1)) (number_pairs a)
pairs_seated seats a =
    let both : ℕ × ℕ → ℕ × ℕ = λ pair. (seat_of seats pair.0, seat_of seats pair.1) in
    ap (λ (pairs : List (ℕ × ℕ)). pairs ++ pairs_of seats a.s1r a.s2r) (zip_seated seats a.s1 a.s2)
    ∙ ap (λ (pairs : List (ℕ × ℕ)). map both (zip a.s1 a.s2) ++ pairs) (zip_seated seats a.s1r a.s2r)
    ∙ sym (map-append both (zip a.s1 a.s2) (zip a.s1r a.s2r))

module _ (facts : Facts) (reached : Reached) (scale : Scale) where
  -- what a pair of seats weighs alone, and what a seat does that goes down
  abbrev pub pair_alone : ℕ × ℕ → ℕ
  pair_alone pair = weight_with scale 0 [] (of facts reached (pair ∷ []) [] no_value)

  abbrev pub down_alone : ℕ → ℕ
  down_alone seat = weight_with scale 0 [] (of facts reached [] (seat ∷ []) no_value)

  pub weight_sum : (pairs : List (ℕ × ℕ)) (gone : List ℕ) (next : NextValue) (alone : ℕ) (below : List ℕ)
      → weight_with scale alone below (of facts reached pairs gone next)
      ≡ (sum_by pair_alone pairs + sum_by down_alone gone) + weight_below scale alone below
  weight_sum [] [] next alone below = omega (arith, weight_of_none facts reached scale next alone below)
  weight_sum [] (seat ∷ gone) next alone below =
      let more = weight_adds facts reached (of facts reached [] (seat ∷ gone) next) (of facts reached [] (seat ∷ []) no_value) (of facts reached [] gone next)
      (λ digit sum. down_more facts reached digit sum seat gone next) scale alone 0 alone below [] below (omega arith) (λ d. omega arith) in
      omega (arith, more, weight_sum [] gone next alone below, sum_by-cons down_alone seat gone)
  weight_sum (pair ∷ pairs) gone next alone below =
      let more = weight_adds facts reached (of facts reached (pair ∷ pairs) gone next) (of facts reached (pair ∷ []) [] no_value) (of facts reached pairs gone next)
      (λ digit sum. pair_more facts reached digit sum pair pairs gone next) scale alone 0 alone below [] below (omega arith) (λ d. omega arith) in
      omega (arith, more, weight_sum pairs gone next alone below, sum_by-cons pair_alone pair pairs)

  -- so is that of a candidate
  pub candidate_weighs : (lower : List ℕ) (a : Arrangement)
      → weight_of scale (quality_of facts reached lower a) ≡ cost (weighing facts reached scale) (number_pairs a) (down (frame_of facts reached) a)
      + weight_below scale (alone_by scale.next (quality_of facts reached lower a).next_pairs) (quality_of facts reached lower a).next_psd
  unfolding quality_of quality
  candidate_weighs lower a =
      let both : ℕ × ℕ → ℕ × ℕ = λ pair. (seat_of reached.seats pair.0, seat_of reached.seats pair.1) in
      let left : List ℕ = down (frame_of facts reached) a in
      let q : Quality = quality_of facts reached lower a in
      let below : ℕ = weight_below scale (alone_by scale.next q.next_pairs) q.next_psd in
      weight_sum (all_pairs reached.seats a) (downfloaters facts reached a) _ (alone_by scale.next q.next_pairs) q.next_psd
      ∙ ap (λ pairs. (sum_by pair_alone pairs + sum_by down_alone (map (seat_of reached.seats) left)) + below) (pairs_seated reached.seats a)
      ∙ ap (λ n. (n + sum_by down_alone (map (seat_of reached.seats) left)) + below) (sum_map pair_alone both (number_pairs a))
      ∙ ap (λ n. (sum_by (λ (pair : ℕ × ℕ). pair_alone (both pair)) (number_pairs a) + n) + below) (sum_map down_alone (seat_of reached.seats) left)

-- ---- the digits are small

copies_few : (d : ℕ) (xs : List ℕ) → copies d xs ≤ length xs
copies_few d [] = omega arith
copies_few d (x ∷ xs) = omega (arith, one_or_none (eqb x d), copies_few d xs)

counted_few : (d : ℕ) (xs : List ℕ) → count_by (λ by. by == d) xs ≤ length xs
counted_few d xs = omega (arith, counted d xs, copies_few d xs)

both : {A B : Type 0} → A → B → A × B
both a b = (a, b)

-- a digit is less than its base
abbrev IsSmall : ℕ × ℕ → Type 0
IsSmall digit = digit.1 < digit.0

all_small : (base : ℕ) (numbers : List ℕ) → AllByRecursion (λ n. n < base) numbers → AllByRecursion IsSmall (in_base base numbers)
all_small base [] all = tt
all_small base (n ∷ numbers) all = (all.0, all_small base numbers all.1)

small_counts : (base : ℕ) (differences list : List ℕ) → ((d : ℕ) → count_by (λ by. by == d) list < base)
    → AllByRecursion IsSmall (in_base base (counts differences list))
small_counts base [] list small = tt
small_counts base (d ∷ differences) list small = (small d, small_counts base differences list small)

-- C.7: there are no more pairs than players for them, and no more differences than players, the highest first
pub record IsSmallBelow (q : Quality) (next : NextScale) : Type 0 where
  pub pairs : 2 * q.next_pairs ≤ next.players
  pub few : length q.next_psd ≤ next.players
  pub falls : Falls q.next_psd

small_below : (next : Option NextScale) (q : Quality) → ForSome next (IsSmallBelow q) → ForSome next (λ n. n.players < n.base)
    → AllByRecursion IsSmall (digits_below next (alone_by next q.next_pairs) q.next_psd)
small_below None q below high = tt
small_below (Some next) q below high =
    let few = below next refl in
    let less = high next refl in (
      let all : next.players - 2 * q.next_pairs < next.base = omega (arith, less) in all,
      small_counts next.base next.psd q.next_psd (λ d. omega (arith, counted_few d q.next_psd, few.few, less)),
    )

module _ (facts : Facts) (float : Float) (back : ℕ) where
  -- 1 for who had such a float in the round so far back
  abbrev pub had_one : ℕ → ℕ
  had_one seat = one_if (is_float float (float_of facts back seat))

  had_count : (seats : List ℕ) → count_had facts float back seats ≡ total had_one seats
  had_count [] = refl
  had_count (seat ∷ seats) =
      omega (
        arith,
        sum_by-cons (λ s. cond (is_float float (float_of facts back s)) 1 0) seat seats,
        one_cond (is_float float (float_of facts back seat)),
        had_count seats,
      )

  one_of_two : (a b : ℕ) (t : Bool) → had_one (if t then b else a) ≤ had_one a + had_one b
  one_of_two a b true = omega arith
  one_of_two a b false = omega arith

  one_again : (floater : Floater) → length (again facts float back (floater ∷ [])) ≡ had_one floater.seat
  one_again floater = length_one floater (is_float float (float_of facts back floater.seat))

  down_one : (pair : ℕ × ℕ) (b : Bool) → length (again facts float back (map (goes_down facts) (cond b (pair ∷ []) []) ++ []))
      ≤ had_one pair.0 + had_one pair.1
  down_one pair true =
      omega (arith, one_again (goes_down facts pair), one_of_two pair.0 pair.1 (nat_lt (score_at facts pair.0) (score_at facts pair.1)))
  down_one pair false = omega arith

  up_one : (pair : ℕ × ℕ) (b : Bool) → length (again facts float back (map (goes_up facts) (cond b (pair ∷ []) []))) ≤ had_one pair.0 + had_one pair.1
  up_one pair true = omega (arith, one_again (goes_up facts pair), one_of_two pair.1 pair.0 (nat_lt (score_at facts pair.0) (score_at facts pair.1)))
  up_one pair false = omega arith

module _ (facts : Facts) (reached : Reached) (pairs : List (ℕ × ℕ)) (gone : List ℕ) (next : NextValue) where
  abbrev q : Quality
  q = of facts reached pairs gone next

  -- C.12 to C.15: no more than had such a float
  few_down_again : q.down_again ≤ pairs_total (had_one facts Down 1) pairs + total (had_one facts Down 1) gone
  unfolding quality_with going_down
  few_down_again =
      few_by facts reached (had_one facts Down 1) (λ r. r.down_again) (down_again_sum facts reached)
      (λ pair. down_one facts Down 1 pair (is_uneven facts pair))
      (λ seat. omega (arith, one_again facts Down 1 (floats_down facts (lowest facts reached.seats) seat))) pairs gone next

  few_down_before : q.down_again_before ≤ pairs_total (had_one facts Down 2) pairs + total (had_one facts Down 2) gone
  unfolding quality_with going_down
  few_down_before =
      few_by facts reached (had_one facts Down 2) (λ r. r.down_again_before) (down_before_sum facts reached)
      (λ pair. down_one facts Down 2 pair (is_uneven facts pair))
      (λ seat. omega (arith, one_again facts Down 2 (floats_down facts (lowest facts reached.seats) seat))) pairs gone next

  few_up_again : q.up_again ≤ pairs_total (had_one facts Up 1) pairs + total (had_one facts Up 1) gone
  unfolding quality_with going_up
  few_up_again =
      few_by facts reached (had_one facts Up 1) (λ r. r.up_again) (up_again_sum facts reached) (λ pair. up_one facts Up 1 pair (is_uneven facts pair))
      (λ seat. omega arith) pairs gone next

  few_up_before : q.up_again_before ≤ pairs_total (had_one facts Up 2) pairs + total (had_one facts Up 2) gone
  unfolding quality_with going_up
  few_up_before =
      few_by facts reached (had_one facts Up 2) (λ r. r.up_again_before) (up_before_sum facts reached)
      (λ pair. up_one facts Up 2 pair (is_uneven facts pair))
      (λ seat. omega arith) pairs gone next

  -- how often a difference stands in a list of those who move
  few_of_differences : (d : ℕ) (floaters : List Floater) → count_by (λ by. by == d) (differences floaters) ≤ length floaters
  few_of_differences d floaters =
      let by : List ℕ = map (λ (floater : Floater). floater.by) floaters in
      omega (arith, in_differences facts reached d floaters, copies_few d by, length-map floaters (λ (floater : Floater). floater.by))

  few_down_by : (d : ℕ) → count_by (λ by. by == d) q.down_again_by ≤ q.down_again
  unfolding quality_with
  few_down_by d = few_of_differences d (again facts Down 1 (going_down facts (seated_so facts reached pairs gone)))

  few_up_by : (d : ℕ) → count_by (λ by. by == d) q.up_again_by ≤ q.up_again
  unfolding quality_with
  few_up_by d = few_of_differences d (again facts Up 1 (going_up facts (seated_so facts reached pairs gone)))

  few_down_before_by : (d : ℕ) → count_by (λ by. by == d) q.down_again_before_by ≤ q.down_again_before
  unfolding quality_with
  few_down_before_by d = few_of_differences d (again facts Down 2 (going_down facts (seated_so facts reached pairs gone)))

  few_up_before_by : (d : ℕ) → count_by (λ by. by == d) q.up_again_before_by ≤ q.up_again_before
  unfolding quality_with
  few_up_before_by d = few_of_differences d (again facts Up 2 (going_up facts (seated_so facts reached pairs gone)))

  -- where pairs and downfloaters are all players of the bracket, no digit is greater than the number of players who can be counted in it
  module _ (scale : Scale) (whole : (w : ℕ → ℕ) → pairs_total w pairs + total w gone ≡ total w reached.seats)
      (high : length reached.seats < scale.base)
      (bases : HasFloatBases facts reached.seats scale.float_bases) where
    small_number : (digit : Quality → ℕ) → IsSum facts reached digit → digit q < scale.base
    small_number digit sum =
        omega (
          arith,
          few_by facts reached (λ v. 1) digit sum (λ pair. few_one_pair facts reached digit sum pair)
              (λ seat. few_one_down facts reached digit sum seat) pairs gone next,
          whole (λ v. 1),
          total_length reached.seats,
          high,
        )

    numbers_small : AllByRecursion (λ n. n < scale.base) (player_digits q)
    numbers_small =
        both (small_number (λ r. r.wide_differences) (wide_sum facts reached))
        (both (small_number (λ r. r.third_colours) (third_sum facts reached))
        (both (small_number (λ r. r.missed_preferences) (missed_sum facts reached))
        (both (small_number (λ r. r.missed_strong) (strong_sum facts reached))
        (both (small_number (λ r. r.down_again) (down_again_sum facts reached))
        (both (small_number (λ r. r.up_again) (up_again_sum facts reached))
        (both (small_number (λ r. r.down_again_before) (down_before_sum facts reached))
        (both (small_number (λ r. r.up_again_before) (up_before_sum facts reached)) tt)))))))

    floats_small : AllByRecursion IsSmall (float_digits scale q)
    floats_small =
        all_join IsSmall (in_base scale.float_bases.down_again (counts scale.floats q.down_again_by)) _
        (small_counts scale.float_bases.down_again scale.floats q.down_again_by (λ d.
        omega (arith, few_down_by d, few_down_again, whole (had_one facts Down 1), had_count facts Down 1 reached.seats, bases.down_again)))
        (all_join IsSmall (in_base scale.float_bases.up_again (counts scale.floats q.up_again_by)) _
        (small_counts scale.float_bases.up_again scale.floats q.up_again_by (λ d.
        omega (arith, few_up_by d, few_up_again, whole (had_one facts Up 1), had_count facts Up 1 reached.seats, bases.up_again)))
        (all_join IsSmall (in_base scale.float_bases.down_again_before (counts scale.floats q.down_again_before_by)) _
        (small_counts scale.float_bases.down_again_before scale.floats q.down_again_before_by (λ d.
        omega (
          arith,
          few_down_before_by d,
          few_down_before,
          whole (had_one facts Down 2),
          had_count facts Down 2 reached.seats,
          bases.down_again_before,
        )))
        (small_counts scale.float_bases.up_again_before scale.floats q.up_again_before_by (λ d.
        omega (arith, few_up_before_by d, few_up_before, whole (had_one facts Up 2), had_count facts Up 2 reached.seats, bases.up_again_before)))))

    pub digits_small : ForSome scale.next (IsSmallBelow q) → ForSome scale.next (λ n. n.players < n.base) → HasDigits scale q
    digits_small below base_high =
        let psd_small = small_counts scale.base scale.psd q.psd (λ d. small_number (λ r. count_by (λ by. by == d) r.psd) (psd_sum facts reached d)) in
        record {
          small = all_join IsSmall (in_base scale.base (counts scale.psd q.psd)) _ psd_small
              (all_join IsSmall (digits_below scale.next (alone_by scale.next q.next_pairs) q.next_psd) _ (small_below scale.next q below base_high)
              (all_join IsSmall (in_base scale.base (player_digits q)) (float_digits scale q)
              (all_small scale.base (player_digits q) numbers_small) floats_small));
          within = λ n e. (below n e).pairs;
        }

  lists_ordered : (scale : Scale) → ForSome scale.next (IsSmallBelow q) → IsOrdered scale q
  unfolding quality_with psd
  lists_ordered scale below =
      let seated : Seated = seated_so facts reached pairs gone in
      let by : List Floater → List ℕ = λ floaters. map (λ (floater : Floater). floater.by) floaters in
      record {
        psd = highest_first_falls (map (difference facts) pairs ++ map (difference_down facts (lowest facts reached.seats)) gone);
        next_psd = λ n e. (below n e).falls;
        down_again_by = highest_first_falls (by (again facts Down 1 (going_down facts seated)));
        up_again_by = highest_first_falls (by (again facts Up 1 (going_up facts seated)));
        down_again_before_by = highest_first_falls (by (again facts Down 2 (going_down facts seated)));
        up_again_before_by = highest_first_falls (by (again facts Up 2 (going_up facts seated)));
      }

module _ (facts : Facts) (reached : Reached) (scale : Scale) (lower : List ℕ) (a : Arrangement) where
  -- the digits of a candidate are small, if its pairs and its downfloaters are all players of the bracket
  pub candidate_digits : ((w : ℕ → ℕ) → pairs_total w (all_pairs reached.seats a) + total w (downfloaters facts reached a) ≡ total w reached.seats)
      → length reached.seats < scale.base → HasFloatBases facts reached.seats scale.float_bases
      → ForSome scale.next (IsSmallBelow (quality_of facts reached lower a))
      → ForSome scale.next (λ n. n.players < n.base) → HasDigits scale (quality_of facts reached lower a)
  unfolding quality_of quality
  candidate_digits whole high bases below base_high =
      digits_small facts reached (all_pairs reached.seats a) (downfloaters facts reached a) _ scale whole high bases below base_high

  -- its lists stand the highest first
  pub candidate_ordered : ForSome scale.next (IsSmallBelow (quality_of facts reached lower a)) → IsOrdered scale (quality_of facts reached lower a)
  unfolding quality_of quality
  candidate_ordered below = lists_ordered facts reached (all_pairs reached.seats a) (downfloaters facts reached a) _ scale below
