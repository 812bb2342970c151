-- Lists of rising places and the tests of which places are in them.
use Rattle.std.proofs.Common.{◌≡◌, ℕ, zero, suc, ◌+◌, ◌-◌, ◌<◌, ◌≤◌, Bool, true, false, not, ◌&&◌, ◌||◌, eqb, cond, List, [], ◌∷◌, ◌++◌, map, reverse, length, refl, sym, ◌∙◌, ap, arith, subst, inl, inr}
use Rattle.std.specs.List.{filter, AllByRecursion}
use Rattle.std.proofs.lemmas.List.{append-nil, map-append, reverse-append}
use Rattle.std.proofs.lemmas.List.Elements.{filter-append}
use Rattle.std.proofs.lemmas.Bool.{cases_order, eq-eqb, ne_eqb, or_from}
use Rattle.dutch_sequence.specs.Prelude.{is_member, numbers_from}
use Rattle.dutch_sequence.proofs.HalfWalks.{Climbs}
use Rattle.dutch_sequence.proofs.Sets.{Climbs-lower}

member-cond : (i a : ℕ) (b : Bool) (xs : List ℕ) → is_member i (cond b (a ∷ xs) xs) ≡ ((b && eqb a i) || is_member i xs)
member-cond i a true xs = refl
member-cond i a false xs = refl

pub member-none : (i low bound : ℕ) (xs : List ℕ) → Climbs low bound xs → i < low → is_member i xs ≡ false
member-none i low bound [] climbs h = refl
member-none i low bound (x ∷ xs) climbs h =
    or_from (eqb x i) (is_member i xs) (ne_eqb x i (λ e. omega (arith, climbs.0))) (member-none i (suc x) bound xs climbs.2 (omega (arith, climbs.0)))

-- what passes a test climbs
pub filter-climbs : (q : ℕ → Bool) (first count : ℕ) → Climbs first (first + count) (filter q (numbers_from first count))
filter-climbs q first zero = tt
filter-climbs q first (suc count) =
    let bound : suc first + count ≡ first + suc count = omega arith in
    let rest : Climbs (suc first) (first + suc count) (filter q (numbers_from (suc first) count)) = subst (λ b. Climbs (suc first) b (filter q (numbers_from (suc first) count))) bound (filter-climbs q (suc first) count) in
    elim (q first) as (λ b. Climbs first (first + suc count) (cond b (first ∷ filter q (numbers_from (suc first) count)) (filter q (numbers_from (suc first) count)))) [
      | true ↦ (omega arith, omega arith, rest)
      | false ↦ Climbs-lower first (suc first) (first + suc count) (filter q (numbers_from (suc first) count)) (omega arith) rest
    ]

and_on : (b : Bool) → ((b && true) || false) ≡ b
and_on true = refl
and_on false = refl

and_off : (b c : Bool) → ((b && false) || c) ≡ c
and_off true c = refl
and_off false c = refl

-- a place is among those that pass a test if it passes
pub member-filter : (q : ℕ → Bool) (first count i : ℕ) → first ≤ i → i < first + count → is_member i (filter q (numbers_from first count)) ≡ q i
member-filter q first zero i from below = absurd (omega arith)
member-filter q first (suc count) i from below =
    let rest : List ℕ = filter q (numbers_from (suc first) count) in
    member-cond i first (q first) rest
    ∙ elim (cases_order i first) [
      | inl same ↦
          ap (λ b. (q first && b) || is_member i rest) (eq-eqb first i (sym same))
          ∙ ap (λ b. (q first && true) || b) (member-none i (suc first) (suc first + count) rest (filter-climbs q (suc first) count) (omega (arith, same)))
          ∙ and_on (q first) ∙ ap q (sym same)
      | inr (inl lower) ↦ absurd (omega (arith, lower))
      | inr (inr higher) ↦
          ap (λ b. (q first && b) || is_member i rest) (ne_eqb first i (λ e. omega (arith, higher)))
          ∙ and_off (q first) (is_member i rest) ∙ member-filter q (suc first) count i (omega (arith, higher)) (omega arith)
    ]

-- two tests that agree on some numbers pass the same ones
pub filter-numbers : (p q : ℕ → Bool) (first count : ℕ) → ((i : ℕ) → first ≤ i → i < first + count → p i ≡ q i) → filter p (numbers_from first count) ≡ filter q (numbers_from first count)
filter-numbers p q first zero same = refl
filter-numbers p q first (suc count) same =
    ap (λ b. cond b (first ∷ filter p (numbers_from (suc first) count)) (filter p (numbers_from (suc first) count))) (same first (omega arith) (omega arith))
    ∙ ap (λ rest. cond (q first) (first ∷ rest) rest) (filter-numbers p q (suc first) count (λ i from below. same i (omega arith) (omega arith)))

filter-none : (first count : ℕ) → filter (λ i. false) (numbers_from first count) ≡ []
filter-none first zero = refl
filter-none first (suc count) = filter-none (suc first) count

-- rising places are those that are among them
pub climbs-filter : (first count : ℕ) (xs : List ℕ) → Climbs first (first + count) xs → filter (λ i. is_member i xs) (numbers_from first count) ≡ xs
climbs-filter first zero [] climbs = refl
climbs-filter first zero (x ∷ xs) climbs = absurd (omega (arith, climbs.0, climbs.1))
climbs-filter first (suc count) [] climbs = filter-none first (suc count)
climbs-filter first (suc count) (x ∷ xs) climbs =
    let bound : first + suc count ≡ suc first + count = omega arith in
    elim (cases_order x first) [
      | inl same ↦
          ap (λ b. cond (b || is_member first xs) (first ∷ filter (λ i. is_member i (x ∷ xs)) (numbers_from (suc first) count)) (filter (λ i. is_member i (x ∷ xs)) (numbers_from (suc first) count))) (eq-eqb x first same)
          ∙ ap (λ rest. first ∷ rest)
          (filter-numbers (λ i. is_member i (x ∷ xs)) (λ i. is_member i xs) (suc first) count (λ i from below. ap (λ b. b || is_member i xs) (ne_eqb x i (λ e. omega (arith, same))))
          ∙ climbs-filter (suc first) count xs (subst (λ y. Climbs (suc y) (suc first + count) xs) same (subst (λ b. Climbs (suc x) b xs) bound climbs.2)))
          ∙ ap (λ y. y ∷ xs) (sym same)
      | inr (inl lower) ↦ absurd (omega (arith, lower, climbs.0))
      | inr (inr higher) ↦
          ap (λ b. cond b (first ∷ filter (λ i. is_member i (x ∷ xs)) (numbers_from (suc first) count)) (filter (λ i. is_member i (x ∷ xs)) (numbers_from (suc first) count)))
          (member-none first (suc first) (first + suc count) (x ∷ xs) (omega (arith, higher), climbs.1, climbs.2) (omega arith))
          ∙ climbs-filter (suc first) count (x ∷ xs) (omega (arith, higher), omega (arith, climbs.1), subst (λ b. Climbs (suc x) b xs) bound climbs.2)
    ]

-- a test and its opposite share out a list
pub filter-length : (q : ℕ → Bool) (xs : List ℕ) → length (filter q xs) + length (filter (λ x. not (q x)) xs) ≡ length xs
filter-length q [] = omega arith
filter-length q (x ∷ xs) =
    elim (q x) as (λ b. length (cond b (x ∷ filter q xs) (filter q xs)) + length (cond (not b) (x ∷ filter (λ x. not (q x)) xs) (filter (λ x. not (q x)) xs)) ≡ suc (length xs)) [
      | true ↦ omega (arith, filter-length q xs)
      | false ↦ omega (arith, filter-length q xs)
    ]

pub length-numbers : (first count : ℕ) → length (numbers_from first count) ≡ count
length-numbers first zero = refl
length-numbers first (suc count) = ap suc (length-numbers (suc first) count)

pub numbers-append : (first m n : ℕ) → numbers_from first (m + n) ≡ numbers_from first m ++ numbers_from (first + m) n
numbers-append first zero n =
    ap (numbers_from first) (let e : 0 + n ≡ n = omega arith in e) ∙ ap (λ a. numbers_from a n) (let e : first ≡ first + 0 = omega arith in e)
numbers-append first (suc m) n =
    ap (numbers_from first) (let e : suc m + n ≡ suc (m + n) = omega arith in e)
    ∙ ap (λ rest. first ∷ rest) (numbers-append (suc first) m n ∙ ap (λ a. numbers_from (suc first) m ++ numbers_from a n) (let e : suc first + m ≡ first + suc m = omega arith in e))

pub numbers-shift : (by first count : ℕ) → map (λ i. by + i) (numbers_from first count) ≡ numbers_from (by + first) count
numbers-shift by first zero = refl
numbers-shift by first (suc count) =
    ap (λ rest. (by + first) ∷ rest) (numbers-shift by (suc first) count ∙ ap (λ a. numbers_from a count) (let e : by + suc first ≡ suc (by + first) = omega arith in e))

filter-map-cond : {A B : Type 0} (f : A → B) (b : Bool) (x : A) (xs : List A) → cond b (f x ∷ map f xs) (map f xs) ≡ map f (cond b (x ∷ xs) xs)
filter-map-cond f true x xs = refl
filter-map-cond f false x xs = refl

pub filter-map : {A B : Type 0} (q : B → Bool) (f : A → B) (xs : List A) → filter q (map f xs) ≡ map f (filter (λ x. q (f x)) xs)
filter-map q f [] = refl
filter-map q f (x ∷ xs) =
    ap (λ rest. cond (q (f x)) (f x ∷ rest) rest) (filter-map q f xs) ∙ filter-map-cond f (q (f x)) x (filter (λ x. q (f x)) xs)

-- numbers counted down from the last of k, read backwards, are those counted up
module _ (k : ℕ) (value : ℕ → ℕ) (q : ℕ → Bool) where
  down : ℕ → List ℕ → List ℕ
  down m xs = reverse (map (λ i. value (k - 1 - i)) (filter (λ i. q (k - 1 - i)) xs))

  mirror_from : (m : ℕ) → m ≤ k → down m (numbers_from (k - m) m) ≡ map value (filter q (numbers_from 0 m))
  unfolding down
  mirror_from zero h = refl
  mirror_from (suc m) h =
      let last : k - 1 - (k - suc m) ≡ m = omega arith in
      let rest : List ℕ = filter (λ i. q (k - 1 - i)) (numbers_from (k - m) m) in
      ap (λ a. reverse (map (λ i. value (k - 1 - i)) (filter (λ i. q (k - 1 - i)) ((k - suc m) ∷ numbers_from a m)))) (let e : suc (k - suc m) ≡ k - m = omega arith in e)
      ∙ ap (λ n. reverse (map (λ i. value (k - 1 - i)) (cond (q n) ((k - suc m) ∷ rest) rest))) last
      ∙ elim (q m) as (λ b. reverse (map (λ i. value (k - 1 - i)) (cond b ((k - suc m) ∷ rest) rest)) ≡ reverse (map (λ i. value (k - 1 - i)) rest) ++ map value (cond b (m ∷ []) [])) [
        | true ↦ reverse-append (value (k - 1 - (k - suc m)) ∷ []) (map (λ i. value (k - 1 - i)) rest) ∙ ap (λ n. reverse (map (λ i. value (k - 1 - i)) rest) ++ value n ∷ []) last
        | false ↦ sym (append-nil (reverse (map (λ i. value (k - 1 - i)) rest)))
      ]
      ∙ ap (λ front. front ++ map value (filter q (m ∷ []))) (mirror_from m (omega arith))
      ∙ sym (map-append value (filter q (numbers_from 0 m)) (filter q (m ∷ [])))
      ∙ ap (map value) (sym (filter-append q (numbers_from 0 m) (m ∷ [])))
      ∙ ap (λ n. map value (filter q (numbers_from 0 m ++ n ∷ []))) (let e : m ≡ 0 + m = omega arith in e)
      ∙ ap (λ xs. map value (filter q xs)) (sym (numbers-append 0 m 1))
      ∙ ap (λ n. map value (filter q (numbers_from 0 n))) (let e : m + 1 ≡ suc m = omega arith in e)

  pub mirror-filter : reverse (map (λ i. value (k - 1 - i)) (filter (λ i. q (k - 1 - i)) (numbers_from 0 k))) ≡ map value (filter q (numbers_from 0 k))
  unfolding down
  mirror-filter = ap (λ a. down k (numbers_from a k)) (let e : 0 ≡ k - k = omega arith in e) ∙ mirror_from k (omega arith)

-- one number more that passes, and one that does not
pub filter-more : (q : ℕ → Bool) (n : ℕ) → q n ≡ true → filter q (numbers_from 0 (n + 1)) ≡ filter q (numbers_from 0 n) ++ n ∷ []
filter-more q n passes =
    ap (filter q) (numbers-append 0 n 1) ∙ filter-append q (numbers_from 0 n) (numbers_from (0 + n) 1)
    ∙ ap (λ i. filter q (numbers_from 0 n) ++ filter q (i ∷ [])) (let e : 0 + n ≡ n = omega arith in e)
    ∙ ap (λ b. filter q (numbers_from 0 n) ++ cond b (n ∷ []) []) passes

pub filter-no_more : (q : ℕ → Bool) (n : ℕ) → q n ≡ false → filter q (numbers_from 0 (n + 1)) ≡ filter q (numbers_from 0 n)
filter-no_more q n fails =
    ap (filter q) (numbers-append 0 n 1) ∙ filter-append q (numbers_from 0 n) (numbers_from (0 + n) 1)
    ∙ ap (λ i. filter q (numbers_from 0 n) ++ filter q (i ∷ [])) (let e : 0 + n ≡ n = omega arith in e)
    ∙ ap (λ b. filter q (numbers_from 0 n) ++ cond b (n ∷ []) []) fails
    ∙ append-nil (filter q (numbers_from 0 n))

pub within-push : (bound n : ℕ) (xs : List ℕ) → n < bound → AllByRecursion (λ x. x < bound) xs → AllByRecursion (λ x. x < bound) (xs ++ n ∷ [])
within-push bound n [] low all = (low, tt)
within-push bound n (x ∷ xs) low all = (all.0, within-push bound n xs low all.1)
