-- Numbers by their digits, each with a base of its own that is greater than the digit of the second number: where the first number is not
-- greater, its first digit that differs is less. So a quality whose weight is not greater than that of another is not worse in C.6 and C.8
-- to C.19 (C.04.3), nor in C.7 where the scale measures it.
use Rattle.std.proofs.Common.{◌≡◌, ℕ, ◌+◌, ◌-◌, ◌*◌, ◌<◌, ◌≤◌, ◌⊎◌, Bool, true, false, eqb, nat_lt, cond, List, [], ◌∷◌, ◌++◌, Option, Some, None}
use Rattle.std.proofs.Common.{inl, inr, refl, sym, ap, subst, ◌∙◌, append-nil, arith}
use Rattle.std.specs.Prelude.{◌==◌, count_by}
use Rattle.std.specs.List.{AllByRecursion}
use Rattle.std.specs.Option.{ForSome}
use Rattle.std.specs.declared.cmp.Ordering.{Ordering}
use Rattle.std.specs.declared.cmp.Ordering.TheVariants.{Less, Equal, Greater}
use Rattle.std.specs.Ordering.{nat_cmp, is_lt, ordering_then}
use Rattle.std.specs.Cmp.Lexicographic.{slice_cmp}
use Rattle.std.proofs.lemmas.Bool.{cases_Bool, eqb-true}
use Rattle.std.proofs.lemmas.Bool.Decides.{nat_tests}
use Rattle.std.proofs.lemmas.Cmp.{tied_itself, nat_list_cmp_total}
use Rattle.std.proofs.lemmas.List.Sums.{sum_by-cons}
use Rattle.std.proofs.Math.Nat.{le_of_mul-le-mul_left, mul-add, mul-le-mul_left}
use Rattle.dutch_arrangements.specs.Prelude.{IsIn}
use Rattle.dutch_sequence.proofs.Comparing.{lists_tied}
use Rattle.dutch_bracket.specs.Prelude.{is_lower, Quality, NextValue, highest_first, is_better, one_if, next_in}
use Rattle.dutch_weighing.specs.Prelude.{HasDigits, IsAmong, IsOn, IsOnNext, IsScale, IsWithin, NextScale, Scale, alone_by, counts, digits, digits_below, float_digits, in_base, player_digits, weight_above, weight_of, weight_with, written, HasNoBetterOn, HasSameNextOn, nobody}
use Rattle.dutch_bracket.proofs.Copies.{Falls, copies, highest_first_falls, not_lower}
use Rattle.dutch_bracket.proofs.FloorOrder.{number_not}
use Rattle.dutch_bracket.proofs.InTurn.{better_in_turn, compared_by_colours, compared_by_differences}
use Rattle.dutch_bracket.proofs.QualityOrder.{total}
use Rattle.dutch_weighing.proofs.ScaleLemmas.{written_on}

pub one_cond : (b : Bool) → cond b 1 0 ≡ one_if b
one_cond true = refl
one_cond false = refl

pub counted : (d : ℕ) (xs : List ℕ) → count_by (λ by. by == d) xs ≡ copies d xs
counted d [] = refl
counted d (x ∷ xs) = omega (arith, sum_by-cons (λ by. cond (by == d) 1 0) x xs, counted d xs, one_cond (x == d))

pub at_most : (x y : ℕ) → (x ≤ y) ⊎ (y < x)
at_most x y = grind arith

in_order : (xs : List ℕ) → highest_first xs ≡ xs → Falls xs
in_order xs same = subst Falls same (highest_first_falls xs)

member_below : (x d : ℕ) (xs : List ℕ) → AllByRecursion (λ y. y ≤ x) xs → IsIn d xs → d ≤ x
member_below x d [] all m = absurd m
member_below x d (y ∷ ys) all (inl e) = omega (arith, e, all.0)
member_below x d (y ∷ ys) all (inr m) = member_below x d ys all.1 m

-- a number that stands in a list is among those that it has
held : (d : ℕ) (differences xs : List ℕ) → AllByRecursion (λ by. IsIn by differences) xs → IsIn d differences ⊎ (copies d xs ≡ 0)
held d differences [] all = inr refl
held d differences (x ∷ xs) all = elim (cases_Bool (eqb x d)) [
  | inl here ↦ inl (subst (λ n. IsIn n differences) (eqb-true x d here) all.0)
  | inr other ↦ elim (held d differences xs all.1) [ inl m ↦ inl m | inr none ↦ inr (omega (arith, none, ap one_if other)) ]
]

-- ---- digits with their bases

-- each digit is less than its base
abbrev Small : List (ℕ × ℕ) → Type 0
Small = AllByRecursion (λ digit. digit.1 < digit.0)

small_behind : (xs ys : List (ℕ × ℕ)) → Small (xs ++ ys) → Small ys
small_behind [] ys small = small
small_behind (x ∷ xs) ys small = small_behind xs ys small.1

-- the digits of two numbers have the same bases
abbrev Alike : List (ℕ × ℕ) → List (ℕ × ℕ) → Type 0
Alike [] [] = Unit {0}
Alike [] (y ∷ ys) = ⊥
Alike (x ∷ xs) [] = ⊥
Alike (x ∷ xs) (y ∷ ys) = (x.0 ≡ y.0) × Alike xs ys

counts_alike : (base : ℕ) (differences list other : List ℕ) (xs ys : List (ℕ × ℕ)) → Alike xs ys
    → Alike (in_base base (counts differences list) ++ xs) (in_base base (counts differences other) ++ ys)
counts_alike base [] list other xs ys alike = alike
counts_alike base (d ∷ ds) list other xs ys alike = (refl, counts_alike base ds list other xs ys alike)

last_alike : (base : ℕ) (differences list other : List ℕ) → Alike (in_base base (counts differences list)) (in_base base (counts differences other))
last_alike base [] list other = tt
last_alike base (d ∷ ds) list other = (refl, last_alike base ds list other)

floats_alike : (scale : Scale) (q r : Quality) → Alike (float_digits scale q) (float_digits scale r)
floats_alike scale q r =
    counts_alike scale.float_bases.down_again scale.floats q.down_again_by r.down_again_by _ _
    (counts_alike scale.float_bases.up_again scale.floats q.up_again_by r.up_again_by _ _
    (counts_alike scale.float_bases.down_again_before scale.floats q.down_again_before_by r.down_again_before_by _ _
    (last_alike scale.float_bases.up_again_before scale.floats q.up_again_before_by r.up_again_before_by)))

below_alike : (next : Option NextScale) (alone alone' : ℕ) (psd psd' : List ℕ) (xs ys : List (ℕ × ℕ)) → Alike xs ys
    → Alike (digits_below next alone psd ++ xs) (digits_below next alone' psd' ++ ys)
below_alike None alone alone' psd psd' xs ys alike = alike
below_alike (Some next) alone alone' psd psd' xs ys alike = (refl, counts_alike next.base next.psd psd psd' xs ys alike)

-- the digits behind those of C.6, those of C.7 as they are given
abbrev behind : Scale → ℕ → List ℕ → Quality → List (ℕ × ℕ)
behind scale alone psd q = digits_below scale.next alone psd ++ (in_base scale.base (player_digits q) ++ float_digits scale q)

behind_alike : (scale : Scale) (alone alone' : ℕ) (psd psd' : List ℕ) (q r : Quality) → Alike (behind scale alone psd q) (behind scale alone' psd' r)
behind_alike scale alone alone' psd psd' q r =
    below_alike scale.next alone alone' psd psd' _ _ (refl, (refl, (refl, (refl, (refl, (refl, (refl, (refl, floats_alike scale q r))))))))

digits_alike : (scale : Scale) (q r : Quality) → Alike (digits scale q) (digits scale r)
digits_alike scale q r =
    counts_alike scale.base scale.psd q.psd r.psd _ _
    (behind_alike scale (alone_by scale.next q.next_pairs) (alone_by scale.next r.next_pairs) q.next_psd r.next_psd q r)

-- ---- which of two numbers is less

-- a greater front makes a greater number
greater : (front front' : ℕ) (xs ys : List (ℕ × ℕ)) → front' < front → Alike xs ys → Small ys → written front' ys < written front xs
greater front front' [] [] less alike small = less
greater front front' [] (y ∷ ys) less alike small = absurd alike
greater front front' (x ∷ xs) [] less alike small = absurd alike
greater front front' (x ∷ xs) (y ∷ ys) less alike small =
    let more : y.0 * (front' + 1) ≤ y.0 * front = mul-le-mul_left y.0 (let le : front' + 1 ≤ front = omega (arith, less) in le) in
    let same : x.0 * front ≡ y.0 * front = ap (λ (base : ℕ). base * front) alike.0 in
    greater (x.0 * front + x.1) (y.0 * front' + y.1) xs ys (omega (arith, more, same, mul-add y.0 front' 1, small.0)) alike.1 small.1

-- behind a common front the number with the first digits is no greater than that with the second
record NotAbove (xs ys : List (ℕ × ℕ)) : Type 0 where
  front : ℕ
  is : written front xs ≤ written front ys
  alike : Alike xs ys
  small : Small ys

next_digit : (base x y : ℕ) (xs ys : List (ℕ × ℕ)) → NotAbove ((base, x) ∷ xs) ((base, y) ∷ ys) → (x ≤ y) × (y ≡ x → NotAbove xs ys)
next_digit base x y xs ys not = (
  elim (at_most x y) [
    | inl le ↦ le
    | inr more ↦
        let bad = greater (base * not.front + x) (base * not.front + y) xs ys (omega (arith, more)) not.alike.1 not.small.1 in
        absurd (omega (arith, bad, not.is))
  ],
  λ same. record {
    front = base * not.front + y;
    is = subst (λ n. written (base * not.front + n) xs ≤ written (base * not.front + y) ys) (sym same) not.is;
    alike = not.alike.1;
    small = not.small.1;
  },
)

-- so it is not in front by the first digit, and where that is the same not by others
number_then : (base x y : ℕ) (xs ys : List (ℕ × ℕ)) (others : Ordering) → NotAbove ((base, x) ∷ xs) ((base, y) ∷ ys)
    → (NotAbove xs ys → is_lt others ≡ false) → is_lt (ordering_then (nat_cmp y x) others) ≡ false
number_then base x y xs ys others not later =
    let one = next_digit base x y xs ys not in number_not y x others one.0 (λ same. later (one.1 same))

module _ (base : ℕ) (list other : List ℕ) where
  -- down to a difference in whose number two lists differ
  counts_next : (differences : List ℕ) (xs ys : List (ℕ × ℕ)) → Falls differences
      → NotAbove (in_base base (counts differences list) ++ xs) (in_base base (counts differences other) ++ ys)
      → ((d : ℕ) → IsIn d differences → ((e : ℕ) → d < e → copies e list ≡ copies e other) → copies d list ≤ copies d other)
      × (((e : ℕ) → copies e list ≡ copies e other) → NotAbove xs ys)
  counts_next [] xs ys falls not = (λ d m. absurd m, λ same. not)
  counts_next (x ∷ ds) xs ys falls not =
      let one = next_digit base (count_by (λ by. by == x) list) (count_by (λ by. by == x) other) _ _ not in
      let passed : copies x list ≡ copies x other → NotAbove (in_base base (counts ds list) ++ xs) (in_base base (counts ds other) ++ ys) = λ same.
      one.1 (counted x other ∙ sym same ∙ sym (counted x list)) in
      let here : copies x list ≤ copies x other = omega (arith, one.0, counted x list, counted x other) in (
        λ d m above. elim m [
          | inl e ↦ subst (λ n. copies n list ≤ copies n other) (sym e) here
          | inr later ↦ elim (at_most x d) [
            | inl le ↦
                let same : x ≡ d = omega (arith, le, member_below x d ds falls.0 later) in
                subst (λ n. copies n list ≤ copies n other) same here
            | inr less ↦ (counts_next ds xs ys falls.1 (passed (above x less))).0 d later above
          ]
        ],
        λ same. (counts_next ds xs ys falls.1 (passed (same x))).1 same,
      )

  list_next : (differences : List ℕ) (xs ys : List (ℕ × ℕ)) → highest_first differences ≡ differences → IsAmong differences list → Falls other
      → NotAbove (in_base base (counts differences list) ++ xs) (in_base base (counts differences other) ++ ys)
      → (is_lower other list ≡ false) × (other ≡ list → NotAbove xs ys)
  list_next differences xs ys falls among ordered not =
      let both = counts_next differences xs ys (in_order differences falls) not in (
        not_lower list other (in_order list among.0) ordered
            (λ d above. elim (held d differences list among.1) [ inl m ↦ both.0 d m above | inr none ↦ omega (arith, none) ]),
        λ same. both.1 (λ e. ap (copies e) (sym same)),
      )

  -- the same where no digits stand behind
  list_last : (differences : List ℕ) → highest_first differences ≡ differences → IsAmong differences list → Falls other
      → NotAbove (in_base base (counts differences list)) (in_base base (counts differences other)) → is_lower other list ≡ false
  list_last differences falls among ordered not =
      let xs : List (ℕ × ℕ) = in_base base (counts differences list) in
      let ys : List (ℕ × ℕ) = in_base base (counts differences other) in
      (list_next differences [] [] falls among ordered
      (subst (λ zs. NotAbove zs (ys ++ [])) (sym (append-nil xs)) (subst (NotAbove xs) (sym (append-nil ys)) not))).0

then_not : (o others : Ordering) → is_lt o ≡ false → (o ≡ Equal → is_lt others ≡ false) → is_lt (ordering_then o others) ≡ false
then_not Less others first later = first
then_not Equal others first later = later refl
then_not Greater others first later = refl

not_lower_itself : (xs : List ℕ) → is_lower xs xs ≡ false
not_lower_itself xs = ap is_lt (tied_itself nat_list_cmp_total xs)

-- by a list that is not lower, and where it is the same by others
list_not : (xs ys : List ℕ) (others : Ordering) → is_lower xs ys ≡ false → (xs ≡ ys → is_lt others ≡ false)
    → is_lt (ordering_then (slice_cmp nat_cmp xs ys) others) ≡ false
list_not xs ys others first later = then_not (slice_cmp nat_cmp xs ys) others first (λ e. later (lists_tied xs ys e))

-- the lists of a quality stand the highest first, that of C.7 too where the scale measures it
pub record IsOrdered (scale : Scale) (q : Quality) : Type 0 where
  pub psd : Falls q.psd
  pub next_psd : ForSome scale.next (λ _. Falls q.next_psd)
  pub down_again_by : Falls q.down_again_by
  pub up_again_by : Falls q.up_again_by
  pub down_again_before_by : Falls q.down_again_before_by
  pub up_again_before_by : Falls q.up_again_before_by

-- C.7: fewer players alone are more pairs
more_pairs : (players pairs other : ℕ) → 2 * pairs ≤ players → 2 * other ≤ players → players - 2 * pairs ≤ players - 2 * other → other ≤ pairs
more_pairs players pairs other fit fit' alone = omega (arith, fit, fit', alone)

-- C.7: not in front by the next bracket, and where that is the same not by others: by a value that is not better, or by the digits
below_not : (next : Option NextScale) (f a : Quality) (xs ys : List (ℕ × ℕ)) (others : Ordering)
    → ForSome next (λ n. highest_first n.psd ≡ n.psd) → ForSome next (λ n. IsOnNext n f) → ForSome next (λ _. Falls a.next_psd)
    → IsWithin next a → HasNoBetterOn next a (next_in f)
    → NotAbove (digits_below next (alone_by next f.next_pairs) f.next_psd ++ xs)
    (digits_below next (alone_by next a.next_pairs) a.next_psd ++ ys)
    → (NotAbove xs ys → is_lt others ≡ false)
    → is_lt (ordering_then (nat_cmp f.next_pairs a.next_pairs) (ordering_then (slice_cmp nat_cmp a.next_psd f.next_psd) others)) ≡ false
below_not None f a xs ys others falls on ordered within next_not not later =
    number_not f.next_pairs a.next_pairs _ next_not.0 (λ pairs.
    list_not a.next_psd f.next_psd others (next_not.1 (sym pairs)) (λ _. later not))
below_not (Some n) f a xs ys others falls on ordered within next_not not later =
    let one = next_digit n.base (n.players - 2 * f.next_pairs) (n.players - 2 * a.next_pairs) _ _ not in
    number_not f.next_pairs a.next_pairs _ (more_pairs n.players f.next_pairs a.next_pairs (on n refl).within (within n refl) one.0) (λ pairs.
    let rest = one.1 (ap (λ (k : ℕ). n.players - 2 * k) (sym pairs)) in
    let two = list_next n.base f.next_psd a.next_psd n.psd xs ys (falls n refl) (on n refl).psd (ordered n refl) rest in
    list_not a.next_psd f.next_psd others two.0 (λ same. later (two.1 same)))

module _ (scale : Scale) (falls : IsScale scale) (f a : Quality) (on : IsOn scale f) (ordered : IsOrdered scale a) where
  differences_not : NotAbove (float_digits scale f) (float_digits scale a) → is_lt (compared_by_differences a f) ≡ false
  differences_not not =
      let bases = scale.float_bases in
      let one = list_next bases.down_again f.down_again_by a.down_again_by scale.floats _ _ falls.floats on.down_again_by ordered.down_again_by not in
      list_not a.down_again_by f.down_again_by _ one.0 (λ same1.
      let two = list_next bases.up_again f.up_again_by a.up_again_by scale.floats _ _ falls.floats on.up_again_by ordered.up_again_by (one.1 same1) in
      list_not a.up_again_by f.up_again_by _ two.0 (λ same2.
      let three = list_next bases.down_again_before f.down_again_before_by a.down_again_before_by scale.floats _ _
      falls.floats on.down_again_before_by ordered.down_again_before_by (two.1 same2) in
      list_not a.down_again_before_by f.down_again_before_by _ three.0 (λ same3.
      list_last bases.up_again_before f.up_again_before_by a.up_again_before_by scale.floats
      falls.floats on.up_again_before_by ordered.up_again_before_by (three.1 same3))))

  colours_not : NotAbove (in_base scale.base (player_digits f) ++ float_digits scale f) (in_base scale.base (player_digits a) ++ float_digits scale a)
      → is_lt (compared_by_colours a f) ≡ false
  colours_not not =
      number_then scale.base f.wide_differences a.wide_differences _ _ _ not (λ n1.
      number_then scale.base f.third_colours a.third_colours _ _ _ n1 (λ n2.
      number_then scale.base f.missed_preferences a.missed_preferences _ _ _ n2 (λ n3.
      number_then scale.base f.missed_strong a.missed_strong _ _ _ n3 (λ n4.
      number_then scale.base f.down_again a.down_again _ _ _ n4 (λ n5.
      number_then scale.base f.up_again a.up_again _ _ _ n5 (λ n6.
      number_then scale.base f.down_again_before a.down_again_before _ _ _ n6 (λ n7.
      number_then scale.base f.up_again_before a.up_again_before _ _ _ n7 differences_not)))))))

  -- what weighs no more has no greater number
  none_above : HasDigits scale a → weight_of scale f ≤ weight_of scale a → NotAbove (digits scale f) (digits scale a)
  unfolding weight_with
  none_above small heavy = record { front = 0; is = le_of_mul-le-mul_left heavy falls.some; alike = digits_alike scale f a; small = small.small }

  -- C.6 to C.19: a quality that weighs no less, and has no better value of the next bracket unless the scale measures that, is not better
  pub not_lighter : HasDigits scale a → weight_of scale f ≤ weight_of scale a → HasNoBetterOn scale.next a (next_in f) → is_better a f ≡ false
  not_lighter small heavy next_not =
      let top = list_next scale.base f.psd a.psd scale.psd _ _ falls.psd on.psd ordered.psd (none_above small heavy) in
      better_in_turn a f
      ∙ list_not a.psd f.psd _ top.0 (λ same.
      below_not scale.next f a _ _ _ falls.next on.next ordered.next_psd small.within next_not (top.1 same) colours_not)

  abbrev rest_of : Quality → List (ℕ × ℕ)
  rest_of q = behind scale (alone_by scale.next q.next_pairs) q.next_psd q

  abbrev psd_of : Quality → List (ℕ × ℕ)
  psd_of q = in_base scale.base (counts scale.psd q.psd)

  -- C.6: what weighs no less than all with a higher PSD than another has a greater number for its PSD
  psd_above : HasDigits scale a → weight_above scale f ≤ weight_of scale a → written 0 (psd_of f) < written 0 (psd_of a)
  unfolding weight_with weight_above
  psd_above small heavy =
      let le : written (written 0 (psd_of f) + 1) (behind scale 0 [] nobody) ≤ written 0 (digits scale a) =
      le_of_mul-le-mul_left heavy falls.some in
      elim (at_most (written 0 (psd_of f) + 1) (written 0 (psd_of a))) [
        | inl more ↦ omega (arith, more)
        | inr less ↦
            let bad = greater (written 0 (psd_of f) + 1) (written 0 (psd_of a)) (behind scale 0 [] nobody) (rest_of a) less
            (behind_alike scale 0 (alone_by scale.next a.next_pairs) [] a.next_psd nobody a) (small_behind (psd_of a) (rest_of a) small.small) in
            absurd (omega (arith, le, bad, written_on 0 (psd_of a) (rest_of a)))
      ]

  -- C.6: and one that weighs no less than all with a higher PSD than another is not better than that, whatever its value of the next bracket
  pub behind_psd : HasDigits scale a → weight_above scale f ≤ weight_of scale a → is_better a f ≡ false
  behind_psd small heavy =
      let above = psd_above small heavy in
      let rest = rest_of a in
      let alone : ℕ = alone_by scale.next a.next_pairs in
      let own : Alike rest rest = behind_alike scale alone alone a.next_psd a.next_psd a a in
      let less = greater (written 0 (psd_of a)) (written 0 (psd_of f)) rest rest above own (small_behind (psd_of a) rest small.small) in
      let not : NotAbove (psd_of f ++ rest) (psd_of a ++ rest) = record {
        front = 0;
        is = omega (arith, less, written_on 0 (psd_of f) rest, written_on 0 (psd_of a) rest);
        alike = counts_alike scale.base scale.psd f.psd a.psd rest rest own;
        small = small.small;
      } in
      let top = list_next scale.base f.psd a.psd scale.psd rest rest falls.psd on.psd ordered.psd not in
      better_in_turn a f
      ∙ list_not a.psd f.psd _ top.0 (λ same.
      let e : written 0 (psd_of a) ≡ written 0 (psd_of f) = ap (λ (list : List ℕ). written 0 (in_base scale.base (counts scale.psd list))) same in
      absurd (omega (arith, above, e)))

-- of two qualities with one value of the next bracket, or on a scale that measures it, the better one is the one that weighs less
module _ (scale : Scale) (falls : IsScale scale) where
  ordered : (q : Quality) → IsOn scale q → IsOrdered scale q
  ordered q on = record {
    psd = in_order q.psd on.psd.0;
    next_psd = λ n is. in_order q.next_psd (on.next n is).psd.0;
    down_again_by = in_order q.down_again_by on.down_again_by.0;
    up_again_by = in_order q.up_again_by on.up_again_by.0;
    down_again_before_by = in_order q.down_again_before_by on.down_again_before_by.0;
    up_again_before_by = in_order q.up_again_before_by on.up_again_before_by.0;
  }

  same_next : (next : Option NextScale) (q r : Quality) → HasSameNextOn next q r → HasNoBetterOn next r (next_in q)
  same_next None q r same = (
    let pairs : q.next_pairs ≡ r.next_pairs = ap (λ (n : NextValue). n.pairs) same in omega (arith, pairs),
    λ _. ap (λ (n : NextValue). is_lower r.next_psd n.psd) same ∙ not_lower_itself r.next_psd,
  )
  same_next (Some n) q r same = tt

  turned : (next : Option NextScale) (q r : Quality) → HasSameNextOn next q r → HasSameNextOn next r q
  turned None q r same = sym same
  turned (Some n) q r same = tt

  pub lighter_is_better : (q r : Quality) → IsOn scale q → IsOn scale r → HasDigits scale q → HasDigits scale r → HasSameNextOn scale.next q r
      → is_better q r ≡ nat_lt (weight_of scale q) (weight_of scale r)
  lighter_is_better q r on_q on_r small_q small_r same = elim (cases_Bool (nat_lt (weight_of scale q) (weight_of scale r))) [
    | inl less ↦ elim (total q r) [
      | inl e ↦ absurd (let w : weight_of scale q ≡ weight_of scale r = ap (weight_of scale) e in grind (arith, nat_tests, w, less))
      | inr (inl better) ↦ better ∙ sym less
      | inr (inr worse) ↦
          let not : is_better r q ≡ false =
          not_lighter scale falls q r on_q (ordered r on_r) small_r (grind (arith, nat_tests, less)) (same_next scale.next q r same) in
          absurd (let bad : true ≡ false = sym worse ∙ not in cc)
    ]
    | inr not_less ↦
        not_lighter scale falls r q on_r (ordered q on_q) small_q (grind (arith, nat_tests, not_less))
        (same_next scale.next r q (turned scale.next q r same)) ∙ sym not_less
  ]
