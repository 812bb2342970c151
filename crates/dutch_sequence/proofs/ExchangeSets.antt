-- The sets that exchanges make, their keys, and the exchange of each set.
use Rattle.std.proofs.Common.{◌≡◌, ℕ, zero, suc, ◌+◌, ◌-◌, ◌<◌, ◌≤◌, Bool, true, false, not, ◌||◌, eqb, cond, List, [], ◌∷◌, ◌++◌, map, reverse, length, take, refl, sym, ◌∙◌, ap, arith, length-append, subst, inl, inr, slice_index}
use Rattle.std.specs.List.{filter}
use Rattle.std.specs.List.Sorted.{IsStrictlyIncreasing}
use Rattle.std.proofs.lemmas.List.{map-append, reverse-append, reverse-reverse, length-reverse, length-map, length-take-le, get_or-take}
use Rattle.std.proofs.lemmas.List.Elements.{filter-append}
use Rattle.std.proofs.lemmas.List.Folds.{list_any-append}
use Rattle.std.proofs.lemmas.List.Kept.{AllPairs-from_increasing}
use Rattle.std.proofs.lemmas.Simd.{map-map}
use Rattle.std.proofs.lemmas.Bool.{cases_order, eq-eqb, ne_eqb, or_from, or_left, or_right}
use Rattle.dutch_sequence.specs.declared.exchange.Side.TheVariants.{Out, In}
use Rattle.dutch_sequence.specs.Prelude.{is_member, subsets, numbers_from, IsIn, moved_out, moved_in, sum_of, total, value_of, kept_of, out_places, in_places}
use Rattle.dutch_sequence.proofs.Lists.{map-numbers_from}
use Rattle.dutch_sequence.proofs.HalfWalks.{Climbs}
use Rattle.dutch_sequence.proofs.Orders.{IsIn-map, map-IsIn}
use Rattle.dutch_sequence.proofs.Sets.{Climbs-lower, subsets-climb, climbs-subset, subsets-map}
use Rattle.dutch_sequence.proofs.Members.{member-none, member-filter, filter-climbs, filter-numbers, climbs-filter, filter-length, length-numbers, numbers-append, numbers-shift, filter-map, mirror-filter}
use Rattle.dutch_sequence.proofs.ByKeys.{turned_in, exchange_key}

pub Climbs-append : (low middle bound : ℕ) (xs ys : List ℕ) → low ≤ middle → middle ≤ bound → Climbs low middle xs → Climbs middle bound ys → Climbs low bound (xs ++ ys)
Climbs-append low middle bound [] ys h h' p q = Climbs-lower low middle bound ys h q
Climbs-append low middle bound (x ∷ xs) ys h h' p q =
    (p.0, omega (arith, p.1), Climbs-append (suc x) middle bound xs ys (omega (arith, p.1)) h' p.2 q)

pub Climbs-shift : (by low bound : ℕ) (xs : List ℕ) → Climbs low bound xs → Climbs (by + low) (by + bound) (map (λ x. by + x) xs)
Climbs-shift by low bound [] p = tt
Climbs-shift by low bound (x ∷ xs) p = (
  omega (arith, p.0),
  omega (arith, p.1),
  subst (λ l. Climbs l (by + bound) (map (λ x. by + x) xs)) (let e : by + suc x ≡ suc (by + x) = omega arith in e) (Climbs-shift by (suc x) bound xs p.2),
)

filter-true : (t : ℕ → Bool) (low bound : ℕ) (xs : List ℕ) → Climbs low bound xs → ((x : ℕ) → low ≤ x → x < bound → t x ≡ true) → filter t xs ≡ xs
filter-true t low bound [] climbs each = refl
filter-true t low bound (x ∷ xs) climbs each =
    ap (λ b. cond b (x ∷ filter t xs) (filter t xs)) (each x climbs.0 climbs.1)
    ∙ ap (λ rest. x ∷ rest) (filter-true t (suc x) bound xs climbs.2 (λ y from below. each y (omega (arith, climbs.0)) below))

filter-false : (t : ℕ → Bool) (low bound : ℕ) (xs : List ℕ) → Climbs low bound xs → ((x : ℕ) → low ≤ x → x < bound → t x ≡ false) → filter t xs ≡ []
filter-false t low bound [] climbs each = refl
filter-false t low bound (x ∷ xs) climbs each =
    ap (λ b. cond b (x ∷ filter t xs) (filter t xs)) (each x climbs.0 climbs.1)
    ∙ filter-false t (suc x) bound xs climbs.2 (λ y from below. each y (omega (arith, climbs.0)) below)

pub sum_of-append : (xs ys : List ℕ) → sum_of (xs ++ ys) ≡ sum_of xs + sum_of ys
sum_of-append [] ys = omega arith
sum_of-append (x ∷ xs) ys = omega (arith, sum_of-append xs ys)

pub sum_of-reverse : (xs : List ℕ) → sum_of (reverse xs) ≡ sum_of xs
sum_of-reverse [] = refl
sum_of-reverse (x ∷ xs) = ap sum_of (reverse-append (x ∷ []) xs) ∙ sum_of-append (reverse xs) (x ∷ []) ∙ (let e = sum_of-reverse xs in omega (arith, e))

pub sum_of-map : (f : ℕ → ℕ) (xs : List ℕ) → sum_of (map f xs) ≡ total f xs
sum_of-map f [] = refl
sum_of-map f (x ∷ xs) = ap (λ n. f x + n) (sum_of-map f xs)

not_not : (b : Bool) → not (not b) ≡ b
not_not true = refl
not_not false = refl

or_none : (b : Bool) → (b || false) ≡ b
or_none true = refl
or_none false = refl

pub numbers-climb : (first count bound : ℕ) → first + count ≤ bound → Climbs first bound (numbers_from first count)
numbers-climb first zero bound h = tt
numbers-climb first (suc count) bound h = (omega arith, omega arith, numbers-climb (suc first) count bound (omega arith))

numbers-no_member : (p first count : ℕ) → first + count ≤ p → is_member p (numbers_from first count) ≡ false
numbers-no_member p first zero h = refl
numbers-no_member p first (suc count) h = or_from (eqb first p) (is_member p (numbers_from (suc first) count)) (ne_eqb first p (λ e. omega arith)) (numbers-no_member p (suc first) count (omega arith))

numbers-member : (p first count : ℕ) → first ≤ p → p < first + count → is_member p (numbers_from first count) ≡ true
numbers-member p first zero from below = absurd (omega arith)
numbers-member p first (suc count) from below =
    elim (cases_order p first) [
      | inl same ↦ or_left (eqb first p) (is_member p (numbers_from (suc first) count)) (eq-eqb first p (sym same))
      | inr (inl lower) ↦ absurd (omega (arith, lower))
      | inr (inr higher) ↦ or_right (eqb first p) (is_member p (numbers_from (suc first) count)) (numbers-member p (suc first) count (omega (arith, higher)) (omega arith))
    ]

module _ (pool : List ℕ) (k : ℕ) (rises : IsStrictlyIncreasing pool) (enough : k ≤ length pool) where
  abbrev pub v : ℕ → ℕ
  v place = slice_index pool place

  pub v-raises : (x y : ℕ) → x < y → y < length pool → v x < v y
  v-raises x y below within = AllPairs-from_increasing pool rises x y 0 below within

  reads_apart : (i j : ℕ) → i < length pool → j < length pool → eqb (v i) (v j) ≡ eqb i j
  reads_apart i j low high =
      elim (cases_order i j) [
        | inl same ↦ eq-eqb (v i) (v j) (ap v same) ∙ sym (eq-eqb i j same)
        | inr (inl below) ↦ ne_eqb (v i) (v j) (λ e. omega (arith, v-raises i j below high)) ∙ sym (ne_eqb i j (λ e. omega (arith, below)))
        | inr (inr above) ↦ ne_eqb (v i) (v j) (λ e. omega (arith, v-raises j i above low)) ∙ sym (ne_eqb i j (λ e. omega (arith, above)))
      ]

  member-value : (p low : ℕ) (xs : List ℕ) → p < length pool → Climbs low (length pool) xs → is_member (v p) (map v xs) ≡ is_member p xs
  member-value p low [] within climbs = refl
  member-value p low (x ∷ xs) within climbs =
      ap (λ b. b || is_member (v p) (map v xs)) (reads_apart x p climbs.1 within)
      ∙ ap (λ b. eqb x p || b) (member-value p (suc x) xs within climbs.2)

  pub pool-is : pool ≡ map v (numbers_from 0 (length pool))
  pool-is = sym (map-numbers_from v pool 0 (λ j lt. ap v (let e : 0 + j ≡ j = omega arith in e)))

  pub front-is : take k pool ≡ map v (numbers_from 0 k)
  front-is =
      sym (map-numbers_from v (take k pool) 0 (λ j lt. ap v (let e : 0 + j ≡ j = omega arith in e) ∙ sym (get_or-take k pool j 0 (omega (arith, length-take-le k pool enough)))))
      ∙ ap (λ n. map v (numbers_from 0 n)) (length-take-le k pool enough)

  -- the places that an exchange keeps, and all places of its set
  abbrev pub low_test : List ℕ → ℕ → Bool
  low_test outs place = not (is_member (k - 1 - place) outs)

  abbrev pub low_places : List ℕ → List ℕ
  low_places outs = filter (low_test outs) (numbers_from 0 k)

  abbrev pub places : List ℕ → List ℕ → List ℕ
  places outs ins = low_places outs ++ map (λ place. k + place) ins

  pub kept-is : (outs : List ℕ) → kept_of pool k outs ≡ map v (low_places outs)
  kept-is outs =
      ap (λ xs. reverse (map (value_of pool k Out) xs))
      (filter-numbers (λ place. not (is_member place outs)) (λ place. low_test outs (k - 1 - place)) 0 k (λ i from below. ap (λ n. not (is_member n outs)) (let e : i ≡ k - 1 - (k - 1 - i) = omega arith in e)))
      ∙ mirror-filter k v (low_test outs)

  pub set-is : (outs ins : List ℕ) → kept_of pool k outs ++ map (value_of pool k In) ins ≡ map v (places outs ins)
  set-is outs ins =
      ap (λ front. front ++ map (value_of pool k In) ins) (kept-is outs)
      ∙ ap (λ back. map v (low_places outs) ++ back) (sym (map-map v (λ place. k + place) ins))
      ∙ sym (map-append v (low_places outs) (map (λ place. k + place) ins))

  low-climbs : (outs : List ℕ) → Climbs 0 k (low_places outs)
  low-climbs outs = subst (λ b. Climbs 0 b (low_places outs)) (let e : 0 + k ≡ k = omega arith in e) (filter-climbs (low_test outs) 0 k)

  high-climbs : (ins : List ℕ) → Climbs 0 (length pool - k) ins → Climbs k (length pool) (map (λ place. k + place) ins)
  high-climbs ins climbs =
      subst (λ l. Climbs l (length pool) (map (λ place. k + place) ins)) (let e : k + 0 ≡ k = omega arith in e)
      (subst (λ b. Climbs (k + 0) b (map (λ place. k + place) ins)) (let e : k + (length pool - k) ≡ length pool = omega arith in e) (Climbs-shift k 0 (length pool - k) ins climbs))

  pub places-climb : (outs ins : List ℕ) → Climbs 0 (length pool - k) ins → Climbs 0 (length pool) (places outs ins)
  places-climb outs ins climbs = Climbs-append 0 k (length pool) (low_places outs) (map (λ place. k + place) ins) (omega arith) enough (low-climbs outs) (high-climbs ins climbs)

  pub outs-again : (outs : List ℕ) → Climbs 0 k outs → filter (λ i. is_member i outs) (numbers_from 0 k) ≡ outs
  outs-again outs climbs = climbs-filter 0 k outs (subst (λ b. Climbs 0 b outs) (let e : k ≡ 0 + k = omega arith in e) climbs)

  low-length : (outs : List ℕ) → Climbs 0 k outs → length (low_places outs) + length outs ≡ k
  low-length outs climbs =
      let kept_length : length (low_places outs) ≡ length (filter (λ place. not (is_member place outs)) (numbers_from 0 k)) =
      sym (length-map (low_places outs) v) ∙ ap length (sym (kept-is outs))
      ∙ length-reverse (map (value_of pool k Out) (filter (λ place. not (is_member place outs)) (numbers_from 0 k)))
      ∙ length-map (filter (λ place. not (is_member place outs)) (numbers_from 0 k)) (value_of pool k Out) in
      let moved : length (filter (λ place. is_member place outs) (numbers_from 0 k)) ≡ length outs = ap length (outs-again outs climbs) in
      omega (arith, kept_length, moved, filter-length (λ place. is_member place outs) (numbers_from 0 k), length-numbers 0 k)

  pub places-length : (outs ins : List ℕ) → Climbs 0 k outs → length outs ≡ length ins → length (places outs ins) ≡ k
  places-length outs ins climbs same =
      omega (arith, low-length outs climbs, length-append (low_places outs) (map (λ place. k + place) ins), length-map ins (λ place. k + place), same)

  -- the set of an exchange is a set of the pool
  pub set-in_pool : (outs ins : List ℕ) → Climbs 0 k outs → Climbs 0 (length pool - k) ins → length outs ≡ length ins → IsIn (kept_of pool k outs ++ map (value_of pool k In) ins) (subsets pool k)
  set-in_pool outs ins out_climbs in_climbs same =
      subst (λ set. IsIn set (subsets pool k)) (sym (set-is outs ins))
      (subst (IsIn (map v (places outs ins))) (sym (subsets-map v (numbers_from 0 (length pool)) k) ∙ ap (λ numbers. subsets numbers k) (sym pool-is))
      (map-IsIn (map v) (places outs ins) (subsets (numbers_from 0 (length pool)) k)
      (climbs-subset 0 (length pool) k (places outs ins) (subst (λ b. Climbs 0 b (places outs ins)) (let e : length pool ≡ 0 + length pool = omega arith in e) (places-climb outs ins in_climbs)) (places-length outs ins out_climbs same))))

  module _ (outs ins : List ℕ) (out_climbs : Climbs 0 k outs) (in_climbs : Climbs 0 (length pool - k) ins) where
    abbrev set : List ℕ
    set = map v (places outs ins)

    member-low : (p : ℕ) → p < k → is_member p (places outs ins) ≡ low_test outs p
    member-low p below =
        list_any-append (λ y. eqb y p) (low_places outs) (map (λ place. k + place) ins)
        ∙ ap (λ b. b || is_member p (map (λ place. k + place) ins)) (member-filter (low_test outs) 0 k p (omega arith) (omega arith))
        ∙ ap (λ b. low_test outs p || b) (member-none p k (length pool) (map (λ place. k + place) ins) (high-climbs ins in_climbs) below)
        ∙ or_none (low_test outs p)

    pub moved_out-is : moved_out pool k set ≡ reverse (map (value_of pool k Out) outs)
    moved_out-is =
        ap (filter (λ x. not (is_member x set))) front-is
        ∙ filter-map (λ x. not (is_member x set)) v (numbers_from 0 k)
        ∙ ap (map v)
        (filter-numbers (λ p. not (is_member (v p) set)) (λ p. is_member (k - 1 - p) outs) 0 k
        (λ p from below. ap not (member-value p 0 (places outs ins) (omega arith) (places-climb outs ins in_climbs) ∙ member-low p (omega arith)) ∙ not_not (is_member (k - 1 - p) outs)))
        ∙ sym (mirror-filter k v (λ p. is_member (k - 1 - p) outs))
        ∙ ap (λ xs. reverse (map (value_of pool k Out) xs))
        (filter-numbers (λ i. is_member (k - 1 - (k - 1 - i)) outs) (λ i. is_member i outs) 0 k (λ i from below. ap (λ n. is_member n outs) (let e : k - 1 - (k - 1 - i) ≡ i = omega arith in e))
        ∙ outs-again outs out_climbs)

    front-member : (p : ℕ) → p < length pool → is_member (v p) (take k pool) ≡ is_member p (numbers_from 0 k)
    front-member p within =
        ap (is_member (v p)) front-is
        ∙ member-value p 0 (numbers_from 0 k) within (numbers-climb 0 k (length pool) (omega arith))

    pub moved_in-is : moved_in pool k set ≡ map (value_of pool k In) ins
    moved_in-is =
        filter-map (λ x. not (is_member x (take k pool))) v (places outs ins)
        ∙ ap (map v)
        (filter-append (λ p. not (is_member (v p) (take k pool))) (low_places outs) (map (λ place. k + place) ins)
        ∙ ap (λ front. front ++ filter (λ p. not (is_member (v p) (take k pool))) (map (λ place. k + place) ins))
        (filter-false (λ p. not (is_member (v p) (take k pool))) 0 k (low_places outs) (low-climbs outs)
        (λ p from below. ap not (front-member p (omega arith) ∙ numbers-member p 0 k (omega arith) (omega arith))))
        ∙ filter-true (λ p. not (is_member (v p) (take k pool))) k (length pool) (map (λ place. k + place) ins) (high-climbs ins in_climbs)
        (λ p from below. ap not (front-member p below ∙ numbers-no_member p 0 k (omega arith))))
        ∙ map-map v (λ place. k + place) ins

    -- the key of an exchange's set
    pub exchange_key-is : exchange_key pool k set ≡ length outs ∷ (total (value_of pool k In) ins - total (value_of pool k Out) outs) ∷ (map (turned_in (sum_of pool)) (map (value_of pool k Out) outs) ++ map (value_of pool k In) ins)
    exchange_key-is =
        let out : List ℕ = map (value_of pool k Out) outs in
        ap (λ a. length a ∷ (sum_of (moved_in pool k set) - sum_of a) ∷ (map (turned_in (sum_of pool)) (reverse a) ++ moved_in pool k set)) moved_out-is
        ∙ ap (λ b. length (reverse out) ∷ (sum_of b - sum_of (reverse out)) ∷ (map (turned_in (sum_of pool)) (reverse (reverse out)) ++ b)) moved_in-is
        ∙ ap (λ n. n ∷ (sum_of (map (value_of pool k In) ins) - sum_of (reverse out)) ∷ (map (turned_in (sum_of pool)) (reverse (reverse out)) ++ map (value_of pool k In) ins)) (length-reverse out ∙ length-map outs (value_of pool k Out))
        ∙ ap (λ n. length outs ∷ (n - sum_of (reverse out)) ∷ (map (turned_in (sum_of pool)) (reverse (reverse out)) ++ map (value_of pool k In) ins)) (sum_of-map (value_of pool k In) ins)
        ∙ ap (λ n. length outs ∷ (total (value_of pool k In) ins - n) ∷ (map (turned_in (sum_of pool)) (reverse (reverse out)) ++ map (value_of pool k In) ins)) (sum_of-reverse out ∙ sum_of-map (value_of pool k Out) outs)
        ∙ ap (λ xs. length outs ∷ (total (value_of pool k In) ins - total (value_of pool k Out) outs) ∷ (map (turned_in (sum_of pool)) xs ++ map (value_of pool k In) ins)) (reverse-reverse out)

  -- the exchange of a set
  pub exchange-of : (set : List ℕ) → IsIn set (subsets pool k) → (outs : List ℕ) × (ins : List ℕ) × Climbs 0 k outs × Climbs 0 (length pool - k) ins × (length outs ≡ length ins) × (set ≡ kept_of pool k outs ++ map (value_of pool k In) ins)
  exchange-of set m =
      let from = IsIn-map (map v) set (subsets (numbers_from 0 (length pool)) k) (subst (IsIn set) (ap (λ numbers. subsets numbers k) pool-is ∙ subsets-map v (numbers_from 0 (length pool)) k) m) in
      let P : List ℕ = from.0 in
      let climbs = subsets-climb 0 (length pool) k P from.2 in
      let high : ℕ = length pool - k in
      let outs : List ℕ = filter (λ i. not (is_member (k - 1 - i) P)) (numbers_from 0 k) in
      let ins : List ℕ = filter (λ j. is_member (k + j) P) (numbers_from 0 high) in
      let out_climbs : Climbs 0 k outs = subst (λ b. Climbs 0 b outs) (let e : 0 + k ≡ k = omega arith in e) (filter-climbs (λ i. not (is_member (k - 1 - i) P)) 0 k) in
      let in_climbs : Climbs 0 high ins = subst (λ b. Climbs 0 b ins) (let e : 0 + high ≡ high = omega arith in e) (filter-climbs (λ j. is_member (k + j) P) 0 high) in
      let low : low_places outs ≡ filter (λ p. is_member p P) (numbers_from 0 k) =
      filter-numbers (low_test outs) (λ p. is_member p P) 0 k
      (λ p from below. ap not (member-filter (λ i. not (is_member (k - 1 - i) P)) 0 k (k - 1 - p) (omega arith) (omega arith)) ∙ not_not (is_member (k - 1 - (k - 1 - p)) P) ∙ ap (λ n. is_member n P) (let e : k - 1 - (k - 1 - p) ≡ p = omega arith in e)) in
      let up : map (λ place. k + place) ins ≡ filter (λ p. is_member p P) (numbers_from (0 + k) high) =
      sym (filter-map (λ p. is_member p P) (λ place. k + place) (numbers_from 0 high))
      ∙ ap (filter (λ p. is_member p P)) (numbers-shift k 0 high ∙ ap (λ a. numbers_from a high) (let e : k + 0 ≡ 0 + k = omega arith in e)) in
      let all : places outs ins ≡ P =
      ap (λ front. front ++ map (λ place. k + place) ins) low
      ∙ ap (λ back. filter (λ p. is_member p P) (numbers_from 0 k) ++ back) up
      ∙ sym (filter-append (λ p. is_member p P) (numbers_from 0 k) (numbers_from (0 + k) high))
      ∙ ap (filter (λ p. is_member p P)) (sym (numbers-append 0 k high))
      ∙ ap (λ n. filter (λ p. is_member p P) (numbers_from 0 n)) (let e : k + high ≡ length pool = omega arith in e)
      ∙ climbs-filter 0 (length pool) P climbs.0 in
      let same : length outs ≡ length ins =
      omega (arith, ap length all, climbs.1, low-length outs out_climbs, length-append (low_places outs) (map (λ place. k + place) ins), length-map ins (λ place. k + place)) in
      (outs, ins, out_climbs, in_climbs, same, from.1 ∙ ap (map v) (sym all) ∙ sym (set-is outs ins))

  -- the exchange of a set is found by its places
  member-above : (i low bound : ℕ) (xs : List ℕ) → Climbs low bound xs → bound ≤ i → is_member i xs ≡ false
  member-above i low bound [] climbs h = refl
  member-above i low bound (x ∷ xs) climbs h =
      or_from (eqb x i) (is_member i xs) (ne_eqb x i (λ e. omega (arith, climbs.1))) (member-above i (suc x) bound xs climbs.2 h)

  member-shift : (j : ℕ) (xs : List ℕ) → is_member (k + j) (map (λ place. k + place) xs) ≡ is_member j xs
  member-shift j [] = refl
  member-shift j (x ∷ xs) =
      ap (λ b. b || is_member (k + j) (map (λ place. k + place) xs))
      (elim (cases_order x j) [
        | inl same ↦ eq-eqb (k + x) (k + j) (ap (λ n. k + n) same) ∙ sym (eq-eqb x j same)
        | inr (inl below) ↦ ne_eqb (k + x) (k + j) (λ e. omega (arith, below)) ∙ sym (ne_eqb x j (λ e. omega (arith, below)))
        | inr (inr above) ↦ ne_eqb (k + x) (k + j) (λ e. omega (arith, above)) ∙ sym (ne_eqb x j (λ e. omega (arith, above)))
      ])
      ∙ ap (λ b. eqb x j || b) (member-shift j xs)

  pub places-of_exchange : (set outs ins : List ℕ) → Climbs 0 k outs → Climbs 0 (length pool - k) ins → set ≡ kept_of pool k outs ++ map (value_of pool k In) ins → (out_places pool k set ≡ outs) × (in_places pool k set ≡ ins)
  places-of_exchange set outs ins out_climbs in_climbs made =
      let high : ℕ = length pool - k in
      let is : set ≡ map v (places outs ins) = made ∙ set-is outs ins in
      let climbs = places-climb outs ins in_climbs in
      let out_same : (i : ℕ) → 0 ≤ i → i < 0 + k → not (is_member (v (k - 1 - i)) set) ≡ is_member i outs =
      λ i from below.
      ap (λ s. not (is_member (v (k - 1 - i)) s)) is
      ∙ ap not (member-value (k - 1 - i) 0 (places outs ins) (omega arith) climbs ∙ member-low outs ins out_climbs in_climbs (k - 1 - i) (omega arith))
      ∙ not_not (is_member (k - 1 - (k - 1 - i)) outs)
      ∙ ap (λ n. is_member n outs) (let e : k - 1 - (k - 1 - i) ≡ i = omega arith in e) in
      let in_same : (j : ℕ) → 0 ≤ j → j < 0 + high → is_member (v (k + j)) set ≡ is_member j ins =
      λ j from below.
      ap (is_member (v (k + j))) is
      ∙ member-value (k + j) 0 (places outs ins) (omega arith) climbs
      ∙ list_any-append (λ y. eqb y (k + j)) (low_places outs) (map (λ place. k + place) ins)
      ∙ ap (λ b. b || is_member (k + j) (map (λ place. k + place) ins)) (member-above (k + j) 0 k (low_places outs) (low-climbs outs) (omega arith))
      ∙ member-shift j ins in (
        filter-numbers (λ i. not (is_member (v (k - 1 - i)) set)) (λ i. is_member i outs) 0 k out_same ∙ outs-again outs out_climbs,
        filter-numbers (λ j. is_member (v (k + j)) set) (λ j. is_member j ins) 0 high in_same
            ∙ climbs-filter 0 high ins (subst (λ b. Climbs 0 b ins) (let e : high ≡ 0 + high = omega arith in e) in_climbs),
      )
