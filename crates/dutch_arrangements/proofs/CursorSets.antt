-- The lists of a cursor's arrangement are the sets and tuples of the bracket's players.
use Rattle.std.proofs.Common.{◌≡◌, ℕ, zero, suc, ◌+◌, ◌-◌, ◌<◌, ◌≤◌, Bool, true, false, not, ◌&&◌, ◌==◌, eqb, ltb, cond, List, [], ◌∷◌, map, length, refl, sym, ap, ◌∙◌, arith, subst, inl, inr, Option, Some, None}
use Rattle.std.specs.Prelude.{Ok, Err, nat_le}
use Rattle.std.specs.Option.{is_some, IfSome}
use Rattle.std.specs.List.{AllByRecursion}
use Rattle.std.proofs.lemmas.Bool.{ltb-true, lt-ltb, le-leb, eq-eqb, eqb-true, ne_eqb, and_parts, and_from, not-true, not_from_false, false_from_ne_true, true≢false}
use Rattle.dutch_arrangements.specs.Prelude.{subsets, tuples, is_member, without, numbers_from, IsIn, Frame, Arrangement, residents_of, left_of, remainder_pairs, ascends_above, are_different, are_of, is_set_of, is_tuple_of, is_of, of_bracket, moved_down_of, is_short}
use Rattle.dutch_arrangements.specs.declared.bracket.Shape.{Shape}
use Rattle.dutch_arrangements.specs.declared.cursor.CursorFault.TheVariants.{NotOfBracket}
use Rattle.dutch_sequence.proofs.HalfWalks.{Climbs}
use Rattle.dutch_sequence.proofs.StageSets.{Climbs-length}
use Rattle.dutch_sequence.proofs.Orders.{Rises, in-member, member-in, all_members, member_has, IsIn-append, IsIn-front, IsIn-back, IsIn-map, map-IsIn, IsIn-flat_map, flat_map-IsIn, IsIn-filter, filter-IsIn}
use Rattle.dutch_sequence.specs.declared.numbers.TheConstants.{LIMIT}

-- all are of a pool
abbrev pub Within : List ℕ → List ℕ → Type 0
Within pool xs = (x : ℕ) → IsIn x xs → IsIn x pool

pub are_of-within : (pool xs : List ℕ) → are_of pool xs ≡ true → Within pool xs
are_of-within pool [] h x m = absurd m
are_of-within pool (y ∷ ys) h x (inl same) =
    subst (λ z. IsIn z pool) (sym same) (member-in y pool (and_parts (is_member y pool) (are_of pool ys) h).0)
are_of-within pool (y ∷ ys) h x (inr m) = are_of-within pool ys (and_parts (is_member y pool) (are_of pool ys) h).1 x m

pub within-are_of : (pool xs : List ℕ) → Within pool xs → are_of pool xs ≡ true
within-are_of pool [] within = refl
within-are_of pool (y ∷ ys) within =
    and_from (is_member y pool) (are_of pool ys) (in-member y pool (within y (inl refl))) (within-are_of pool ys (λ x m. within x (inr m)))

-- ascending lists
pub ascends-low : (bound : ℕ) (xs : List ℕ) → ascends_above bound xs ≡ true → AllByRecursion (λ y. bound < y) xs
ascends-low bound [] h = tt
ascends-low bound (x ∷ xs) h =
    let both = and_parts (ltb bound x) (ascends_above x xs) h in
    let first : bound < x = ltb-true bound x both.0 in (
      first,
      all_members (λ y. bound < y) xs (λ y m. let above : x < y = member_has (λ y. x < y) xs (ascends-low x xs both.1) y m in omega (arith, first, above)),
    )

pub ascends-rises : (bound : ℕ) (xs : List ℕ) → ascends_above bound xs ≡ true → Rises xs
ascends-rises bound [] h = tt
ascends-rises bound (x ∷ xs) h =
    let both = and_parts (ltb bound x) (ascends_above x xs) h in (ascends-low x xs both.1, ascends-rises x xs both.1)

pub rises-ascends : (bound : ℕ) (xs : List ℕ) → AllByRecursion (λ y. bound < y) xs → Rises xs → ascends_above bound xs ≡ true
rises-ascends bound [] low rises = refl
rises-ascends bound (x ∷ xs) low rises =
    and_from (ltb bound x) (ascends_above x xs) (lt-ltb bound x low.0) (rises-ascends x xs rises.0 rises.1)

-- sets of a rising pool
pub subset-from : (pool : List ℕ) (k : ℕ) (set : List ℕ) → Rises pool → Rises set → Within pool set → length set ≡ k → IsIn set (subsets pool k)
subset-from pool zero [] p r within same = inl refl
subset-from pool zero (x ∷ set) p r within same = absurd (omega arith)
subset-from [] (suc k) [] p r within same = absurd (omega arith)
subset-from [] (suc k) (x ∷ set) p r within same = absurd (within x (inl refl))
subset-from (z ∷ pool) (suc k) [] p r within same = absurd (omega arith)
subset-from (z ∷ pool) (suc k) (x ∷ set) p r within same =
    elim (within x (inl refl)) [
      | inl first ↦
          IsIn-front (x ∷ set) (map (λ set. z ∷ set) (subsets pool k)) (subsets pool (suc k))
          (subst (λ y. IsIn (y ∷ set) (map (λ set. z ∷ set) (subsets pool k))) (sym first)
          (map-IsIn (λ set. z ∷ set) set (subsets pool k)
          (subset-from pool k set p.1 r.1
          (λ y m. let above : x < y = member_has (λ y. x < y) set r.0 y m in
          elim (within y (inr m)) [ inl low ↦ absurd (omega (arith, above, first, low)) | inr n ↦ n ])
          (omega arith))))
      | inr later ↦
          let above : z < x = member_has (λ y. z < y) pool p.0 x later in
          IsIn-back (x ∷ set) (map (λ set. z ∷ set) (subsets pool k)) (subsets pool (suc k))
          (subset-from pool (suc k) (x ∷ set) p.1 r
          (λ y m. elim m [
            | inl here ↦ subst (λ w. IsIn w pool) (sym here) later
            | inr n ↦
                let over : x < y = member_has (λ y. x < y) set r.0 y n in
                elim (within y (inr n)) [ inl low ↦ absurd (omega (arith, above, over, low)) | inr in_pool ↦ in_pool ]
          ])
          same)
    ]

pub record AreSet (pool : List ℕ) (k : ℕ) (set : List ℕ) : Type 0 where
  pub rises : Rises set
  pub within : Within pool set
  pub count : length set ≡ k

with_first : (z : ℕ) (pool : List ℕ) (k : ℕ) (set : List ℕ) → AllByRecursion (λ y. z < y) pool → AreSet pool k set → AreSet (z ∷ pool) (suc k) (z ∷ set)
with_first z pool k set low are = record {
  rises = (all_members (λ y. z < y) set (λ y m. member_has (λ y. z < y) pool low y (are.within y m)), are.rises);
  within = λ y m. elim m [ inl here ↦ inl here | inr n ↦ inr (are.within y n) ];
  count = ap suc are.count;
}

pub subset-to : (pool : List ℕ) (k : ℕ) (set : List ℕ) → Rises pool → IsIn set (subsets pool k) → AreSet pool k set
subset-to pool zero set p (inl same) = subst (AreSet pool 0) (sym same) (record { rises = tt; within = λ x m. absurd m; count = refl })
subset-to pool zero set p (inr none) = absurd none
subset-to [] (suc k) set p m = absurd m
subset-to (z ∷ pool) (suc k) set p m =
    elim (IsIn-append set (map (λ set. z ∷ set) (subsets pool k)) (subsets pool (suc k)) m) [
      | inl with' ↦
          let from = IsIn-map (λ set. z ∷ set) set (subsets pool k) with' in
          subst (AreSet (z ∷ pool) (suc k)) (sym from.1) (with_first z pool k from.0 p.0 (subset-to pool k from.0 p.1 from.2))
      | inr later ↦
          let rest = subset-to pool (suc k) set p.1 later in
          record { rises = rest.rises; within = λ y n. inr (rest.within y n); count = rest.count }
    ]

-- tuples of a pool
pub tuple-from : (k : ℕ) (pool tuple : List ℕ) → are_different tuple ≡ true → Within pool tuple → length tuple ≡ k → IsIn tuple (tuples pool k)
tuple-from zero pool [] d within same = inl refl
tuple-from zero pool (x ∷ tuple) d within same = absurd (omega arith)
tuple-from (suc k) pool [] d within same = absurd (omega arith)
tuple-from (suc k) pool (x ∷ tuple) d within same =
    let both = and_parts (not (is_member x tuple)) (are_different tuple) d in
    flat_map-IsIn (λ x. map (λ tuple. x ∷ tuple) (tuples (without x pool) k)) (x ∷ tuple) x pool (within x (inl refl))
    (map-IsIn (λ tuple. x ∷ tuple) tuple (tuples (without x pool) k)
    (tuple-from k (without x pool) tuple both.1
    (λ y m. filter-IsIn (λ y. not (eqb y x)) y pool (within y (inr m))
    (not_from_false (eqb y x) (ne_eqb y x (λ e. true≢false (sym (in-member x tuple (subst (λ z. IsIn z tuple) e m)) ∙ not-true (is_member x tuple) both.0)))))
    (omega arith)))

pub record AreTuple (pool : List ℕ) (k : ℕ) (tuple : List ℕ) : Type 0 where
  pub different : are_different tuple ≡ true
  pub within : Within pool tuple
  pub count : length tuple ≡ k

with_head : (x : ℕ) (pool : List ℕ) (k : ℕ) (tuple : List ℕ) → IsIn x pool → AreTuple (without x pool) k tuple → AreTuple pool (suc k) (x ∷ tuple)
with_head x pool k tuple in_pool are = record {
  different = and_from (not (is_member x tuple)) (are_different tuple)
      (not_from_false (is_member x tuple)
      (false_from_ne_true (is_member x tuple)
      (λ h. true≢false (sym (eq-eqb x x refl) ∙ not-true (eqb x x) (IsIn-filter (λ y. not (eqb y x)) x pool (are.within x (member-in x tuple h))).1))))
      are.different;
  within = λ y m. elim m [ inl here ↦ subst (λ z. IsIn z pool) (sym here) in_pool | inr n ↦ (IsIn-filter (λ y. not (eqb y x)) y pool (are.within y n)).0 ];
  count = ap suc are.count;
}

pub tuple-to : (k : ℕ) (pool tuple : List ℕ) → IsIn tuple (tuples pool k) → AreTuple pool k tuple
tuple-to zero pool tuple (inl same) = subst (AreTuple pool 0) (sym same) (record { different = refl; within = λ x m. absurd m; count = refl })
tuple-to zero pool tuple (inr none) = absurd none
tuple-to (suc k) pool tuple m =
    let first = IsIn-flat_map (λ x. map (λ tuple. x ∷ tuple) (tuples (without x pool) k)) tuple pool m in
    let from = IsIn-map (λ tuple. first.0 ∷ tuple) tuple (tuples (without first.0 pool) k) first.2 in
    subst (AreTuple pool (suc k)) (sym from.1) (with_head first.0 pool k from.0 first.1 (tuple-to k (without first.0 pool) from.0 from.2))

-- the tests of a cursor's lists
pub set-are : (pool : List ℕ) (k : ℕ) (set : List ℕ) → is_set_of pool k set ≡ true → AreSet pool k set
set-are pool k set h =
    let both = and_parts (length set == k) (are_of pool set && ascends_above 0 set) h in
    let rest = and_parts (are_of pool set) (ascends_above 0 set) both.1 in
    record { rises = ascends-rises 0 set rest.1; within = are_of-within pool set rest.0; count = eqb-true (length set) k both.0 }

pub are-set : (pool : List ℕ) (k : ℕ) (set : List ℕ) → AllByRecursion (λ y. 0 < y) pool → AreSet pool k set → is_set_of pool k set ≡ true
are-set pool k set low are =
    and_from (length set == k) (are_of pool set && ascends_above 0 set) (eq-eqb (length set) k are.count)
    (and_from (are_of pool set) (ascends_above 0 set) (within-are_of pool set are.within)
    (rises-ascends 0 set (all_members (λ y. 0 < y) set (λ y m. member_has (λ y. 0 < y) pool low y (are.within y m))) are.rises))

pub tuple-are : (pool : List ℕ) (k : ℕ) (tuple : List ℕ) → is_tuple_of pool k tuple ≡ true → AreTuple pool k tuple
tuple-are pool k tuple h =
    let both = and_parts (length tuple == k) (are_of pool tuple && are_different tuple) h in
    let rest = and_parts (are_of pool tuple) (are_different tuple) both.1 in
    record { different = rest.1; within = are_of-within pool tuple rest.0; count = eqb-true (length tuple) k both.0 }

pub are-tuple : (pool : List ℕ) (k : ℕ) (tuple : List ℕ) → AreTuple pool k tuple → is_tuple_of pool k tuple ≡ true
are-tuple pool k tuple are =
    and_from (length tuple == k) (are_of pool tuple && are_different tuple) (eq-eqb (length tuple) k are.count)
    (and_from (are_of pool tuple) (are_different tuple) (within-are_of pool tuple are.within) are.different)

-- no list of numbers of a bracket is longer than its players are many
pub numbers-within : (first count x : ℕ) → IsIn x (numbers_from first count) → (first ≤ x) × (x < first + count)
numbers-within first zero x m = absurd m
numbers-within first (suc count) x (inl same) = (omega (arith, same), omega (arith, same))
numbers-within first (suc count) x (inr m) =
    let rest = numbers-within (suc first) count x m in (omega (arith, rest.0), omega (arith, rest.1))

rises-climb : (low bound : ℕ) (set : List ℕ) → Rises set → ((x : ℕ) → IsIn x set → (low ≤ x) × (x < bound)) → Climbs low bound set
rises-climb low bound [] rises within = tt
rises-climb low bound (x ∷ set) rises within = (
  (within x (inl refl)).0,
  (within x (inl refl)).1,
  rises-climb (suc x) bound set rises.1
      (λ y m. let above : x < y = member_has (λ y. x < y) set rises.0 y m in (omega (arith, above), (within y (inr m)).1)),
)

set-short : (first count : ℕ) (set : List ℕ) → Rises set → Within (numbers_from first count) set → length set ≤ count
set-short first count set rises within =
    let long = Climbs-length first (first + count) set (omega arith) (rises-climb first (first + count) set rises (λ x m. numbers-within first count x (within x m))) in
    omega (arith, long)

-- the four lists of an arrangement of a bracket
pub record AreLists (frame : Frame) (shape : Shape) (a : Arrangement) : Type 0 where
  pub s1 : AreSet (moved_down_of frame) shape.mdps a.s1
  pub s2 : AreTuple (residents_of frame) shape.mdps a.s2
  pub s1r : AreSet (left_of (residents_of frame) a.s2) (remainder_pairs shape) a.s1r
  pub s2r : AreTuple (left_of (left_of (residents_of frame) a.s2) a.s1r) (remainder_pairs shape) a.s2r

pub lists-are : (frame : Frame) (shape : Shape) (a : Arrangement) → is_of frame shape a ≡ true → AreLists frame shape a
lists-are frame shape a h =
    let residents = residents_of frame in
    let k = remainder_pairs shape in
    let one = and_parts (is_set_of (moved_down_of frame) shape.mdps a.s1) (is_tuple_of residents shape.mdps a.s2 && (is_set_of (left_of residents a.s2) k a.s1r && is_tuple_of (left_of (left_of residents a.s2) a.s1r) k a.s2r)) h in
    let two = and_parts (is_tuple_of residents shape.mdps a.s2) (is_set_of (left_of residents a.s2) k a.s1r && is_tuple_of (left_of (left_of residents a.s2) a.s1r) k a.s2r) one.1 in
    let three = and_parts (is_set_of (left_of residents a.s2) k a.s1r) (is_tuple_of (left_of (left_of residents a.s2) a.s1r) k a.s2r) two.1 in
    record {
      s1 = set-are (moved_down_of frame) shape.mdps a.s1 one.0;
      s2 = tuple-are residents shape.mdps a.s2 two.0;
      s1r = set-are (left_of residents a.s2) k a.s1r three.0;
      s2r = tuple-are (left_of (left_of residents a.s2) a.s1r) k a.s2r three.1;
    }

pub left-within : (pool taken : List ℕ) → Within pool (left_of pool taken)
left-within pool taken x m = (IsIn-filter (λ y. not (is_member y taken)) x pool m).0

pub of-short : (frame : Frame) (shape : Shape) (a : Arrangement) → frame.mdps ≤ LIMIT → length frame.scores - frame.mdps ≤ LIMIT → is_of frame shape a ≡ true → is_short a ≡ true
of-short frame shape a few_down few h =
    let are = lists-are frame shape a h in
    let short1 : length a.s1 ≤ frame.mdps = set-short 1 frame.mdps a.s1 are.s1.rises are.s1.within in
    let short1r : length a.s1r ≤ length frame.scores - frame.mdps =
    set-short (frame.mdps + 1) (length frame.scores - frame.mdps) a.s1r are.s1r.rises (λ x m. left-within (residents_of frame) a.s2 x (are.s1r.within x m)) in
    and_from (nat_le (length a.s1) LIMIT) (nat_le (length a.s2) LIMIT && (nat_le (length a.s1r) LIMIT && nat_le (length a.s2r) LIMIT)) (le-leb (length a.s1) LIMIT (omega (arith, short1)))
    (and_from (nat_le (length a.s2) LIMIT) (nat_le (length a.s1r) LIMIT && nat_le (length a.s2r) LIMIT) (le-leb (length a.s2) LIMIT (omega (arith, short1, are.s1.count, are.s2.count)))
    (and_from (nat_le (length a.s1r) LIMIT) (nat_le (length a.s2r) LIMIT) (le-leb (length a.s1r) LIMIT (omega (arith, short1r)))
    (le-leb (length a.s2r) LIMIT (omega (arith, short1r, are.s1r.count, are.s2r.count)))))

-- an arrangement with a longer list is not of the bracket
pub not_of : (frame : Frame) (shape : Shape) (read : Option Arrangement) → frame.mdps ≤ LIMIT → length frame.scores - frame.mdps ≤ LIMIT → is_some read ≡ true → IfSome read (λ a. is_short a ≡ false)
    → of_bracket frame shape read ≡ Err NotOfBracket
not_of frame shape None few_down few some long = absurd (true≢false (sym some))
not_of frame shape (Some a) few_down few some long =
    let wrong : is_of frame shape a ≡ false = false_from_ne_true (is_of frame shape a) (λ h. true≢false (sym (of-short frame shape a few_down few h) ∙ long)) in
    ap (λ (b : Bool). cond b (Ok a) (Err NotOfBracket)) wrong
