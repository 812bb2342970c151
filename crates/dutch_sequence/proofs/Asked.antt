-- What the beginning of a path tells of the sets of its stage: who is in each of them, and who is in none.
use Rattle.std.proofs.Common.{◌≡◌, ℕ, zero, suc, ◌+◌, ◌-◌, ◌<◌, ◌≤◌, Bool, true, false, not, ◌&&◌, nat_lt, eqb, cond, List, [], ◌∷◌, ◌++◌, map, length, take, drop, refl, sym, ◌∙◌, ap, append_assoc, append-nil, arith, subst, ◌⊎◌, inl, inr, if◌then◌else◌, length-append}
use Rattle.std.specs.List.{AllByRecursion, filter}
use Rattle.std.specs.List.Sorted.{IsStrictlyIncreasing}
use Rattle.std.proofs.lemmas.List.Kept.{AllPairs-from_increasing}
use Rattle.std.proofs.lemmas.List.{take_all, drop_all, length-map, length-take-le, take-append-drop}
use Rattle.std.proofs.lemmas.List.Elements.{filter-append}
use Rattle.std.proofs.lemmas.List.Folds.{list_any-append}
use Rattle.std.proofs.Math.Bool.{and-false}
use Rattle.std.proofs.lemmas.Bool.{true≢false, cases_Bool, and_parts, not-true, or_from, or_left, ltb-true, ltb-false}
use Rattle.dutch_sequence.specs.Prelude.{is_member, numbers_from, subsets, moved_in, sum_of, IsExchange, GoesOn, count_of, half_start, IsIn, IsOfStage, fixed_numbers, is_fixed, kept_of, exchange_class, out_limit, in_limit, set_of, total, value_of}
use Rattle.dutch_sequence.specs.declared.exchange.Known.{Known}
use Rattle.dutch_sequence.specs.declared.exchange.Known.TheVariants.{Chosen, PassedOver}
use Rattle.dutch_sequence.specs.declared.exchange.Side.{Side}
use Rattle.dutch_sequence.specs.declared.exchange.Side.TheVariants.{Out, In}
use Rattle.dutch_sequence.proofs.Orders.{in-member, member-in, IsIn-filter, IsIn-map}
use Rattle.dutch_sequence.proofs.ExchangeSets.{v, front-is, kept-is, moved_in-is, outs-again, places-of_exchange, set-in_pool, set-is, sum_of-append, sum_of-map, sum_of-reverse}
use Rattle.dutch_sequence.proofs.Gains.{total-pairs}
use Rattle.dutch_sequence.proofs.StageSets.{Exchange, path-exchange, stage-hits}
use Rattle.dutch_sequence.proofs.HalfWalks.{Climbs, start-on, start-second}
use Rattle.dutch_sequence.proofs.LimboSets.{drop_front}
use Rattle.dutch_sequence.proofs.Members.{length-numbers, member-filter, member-none, numbers-append}
use Rattle.dutch_sequence.proofs.DifferenceRanges.{take_front_of}
use Rattle.dutch_sequence.proofs.Skipping.{all-append, all-members}

same-head : (x y : ℕ) (xs ys : List ℕ) → x ∷ xs ≡ y ∷ ys → x ≡ y
same-head x y xs ys same = cc

same-tail : (x y : ℕ) (xs ys : List ℕ) → x ∷ xs ≡ y ∷ ys → xs ≡ ys
same-tail x y xs ys same = cc

-- two lists that make the same one: the longer one goes on from the shorter one
prefix-of : (xs ys zs ws : List ℕ) → xs ++ ys ≡ zs ++ ws → length zs ≤ length xs → (more : List ℕ) × (xs ≡ zs ++ more) × (ws ≡ more ++ ys)
prefix-of xs ys [] ws same short = (xs, refl, sym same)
prefix-of [] ys (z ∷ zs) ws same short = absurd (omega arith)
prefix-of (x ∷ xs) ys (z ∷ zs) ws same short =
    let rest = prefix-of xs ys zs ws (same-tail x z (xs ++ ys) (zs ++ ws) same) (omega arith) in
    (rest.0, ap (λ a. a ∷ xs) (same-head x z (xs ++ ys) (zs ++ ws) same) ∙ ap (λ l. z ∷ l) rest.1, rest.2)

-- the last of a list
last-of : (xs : List ℕ) → (xs ≡ []) ⊎ ((front : List ℕ) × (x : ℕ) × (xs ≡ front ++ x ∷ []))
last-of [] = inl refl
last-of (y ∷ ys) =
    elim (last-of ys) [
      | inl none ↦ inr ([], y, ap (λ l. y ∷ l) none)
      | inr some ↦ inr (y ∷ some.0, some.1, ap (λ l. y ∷ l) some.2)
    ]

-- what follows in a rising list is above what stands before it
climbs-on : (low bound : ℕ) (front more : List ℕ) (x : ℕ) → Climbs low bound ((front ++ x ∷ []) ++ more) → Climbs (suc x) bound more
climbs-on low bound [] more x climbs = climbs.2
climbs-on low bound (y ∷ front) more x climbs = climbs-on (suc y) bound front more x climbs.2

-- so none of it is below the next number to be tried
next-bars : (next bound p : ℕ) (taken more : List ℕ) → (taken ≡ [] → next ≡ 0) → ((t : List ℕ) (x : ℕ) → taken ≡ t ++ x ∷ [] → next ≡ suc x) → Climbs 0 bound (taken ++ more) → p < next → is_member p more ≡ false
next-bars next bound p taken more start each climbs low =
    elim (last-of taken) [
      | inl none ↦ absurd (omega (arith, start none, low))
      | inr some ↦
          member-none p (suc some.1) bound more (climbs-on 0 bound some.0 more some.1 (subst (λ t. Climbs 0 bound (t ++ more)) some.2 climbs))
          (omega (arith, each some.0 some.1 some.2, low))
    ]

no_member : (p : ℕ) (xs : List ℕ) → length xs ≡ 0 → is_member p xs ≡ false
no_member p [] none = refl
no_member p (x ∷ xs) none = absurd (omega arith)

module _ (pool : List ℕ) (k size : ℕ) (outs ins beginning rest : List ℕ) (same : outs ++ ins ≡ beginning ++ rest) (whole : length outs ≡ size) (half : length ins ≡ size) where
  -- those moved out go on from those chosen
  pub beginning-outs : Climbs 0 k outs → (more : List ℕ) × (outs ≡ take size beginning ++ more) × ((p : ℕ) → p < out_limit pool k size beginning → is_member p more ≡ false)
  unfolding out_limit half_start
  beginning-outs climbs =
      elim (cases_Bool (nat_lt (length beginning) size)) [
        | inl short ↦
            let less : length beginning < size = ltb-true (length beginning) size short in
            let front = prefix-of outs ins beginning rest same (omega (arith, whole, less)) in
            let all : take size beginning ≡ beginning = take_all size beginning (omega (arith, less)) in (
              front.0,
              front.1 ∙ ap (λ l. l ++ front.0) (sym all),
              λ p low.
                  next-bars (half_start size beginning) k p beginning front.0 (λ none. ap (half_start size) none)
                  (λ t x is. ap (half_start size) is ∙ start-on size t x (λ e. omega (arith, e, less, ap length is, length-append t (x ∷ []))))
                  (subst (Climbs 0 k) front.1 climbs) (subst (λ b. p < (if b then half_start size beginning else k)) short low),
            )
        | inr long ↦
            let front = prefix-of beginning rest outs ins (sym same) (omega (arith, whole, ltb-false (length beginning) size long)) in
            let all : take size beginning ≡ outs = ap (take size) front.1 ∙ take_front_of outs front.0 size whole in
            ([], sym (append-nil outs) ∙ ap (λ l. l ++ []) (sym all), λ p low. refl)
      ]

  -- and so do those moved in
  pub beginning-ins : Climbs 0 (length pool - k) ins → (more : List ℕ) × (ins ≡ drop size beginning ++ more) × ((p : ℕ) → p < in_limit pool k size beginning → is_member p more ≡ false)
  unfolding in_limit
  beginning-ins climbs =
      elim (cases_Bool (nat_lt (length beginning) size)) [
        | inl short ↦
            let none : drop size beginning ≡ [] = drop_all size beginning (omega (arith, ltb-true (length beginning) size short)) in
            (ins, ap (λ l. l ++ ins) (sym none), λ p low. absurd (omega (arith, subst (λ b. p < (if b then 0 else (if nat_lt (length beginning) (size + size) then half_start size beginning else (length pool - k)))) short low)))
        | inr long ↦
            let front = prefix-of beginning rest outs ins (sym same) (omega (arith, whole, ltb-false (length beginning) size long)) in
            let taken : drop size beginning ≡ front.0 = ap (drop size) front.1 ∙ drop_front outs front.0 size whole in
            let is : ins ≡ front.0 ++ rest = front.2 in (
              rest,
              is ∙ ap (λ l. l ++ rest) (sym taken),
              λ p low.
                  let low' : p < (if nat_lt (length beginning) (size + size) then half_start size beginning else (length pool - k)) = subst (λ b. p < (if b then 0 else (if nat_lt (length beginning) (size + size) then half_start size beginning else (length pool - k)))) long low in
                  elim (cases_Bool (nat_lt (length beginning) (size + size))) [
                    | inl open' ↦
                        next-bars (half_start size beginning) (length pool - k) p front.0 rest
                        (λ none. ap (half_start size) (front.1 ∙ ap (λ l. outs ++ l) none ∙ append-nil outs) ∙ start-second size outs whole)
                        (λ t x e. ap (half_start size) (front.1 ∙ ap (λ l. outs ++ l) e ∙ sym (append_assoc outs t (x ∷ []))) ∙ start-on size (outs ++ t) x (λ h. omega (arith, h, whole, length-append outs t)))
                        (subst (Climbs 0 (length pool - k)) is climbs) (subst (λ b. p < (if b then half_start size beginning else (length pool - k))) open' low')
                    | inr full ↦
                        no_member p rest (omega (arith, ltb-false (length beginning) (size + size) full, whole, half, ap length is, length-append front.0 rest, ap length front.1, length-append outs front.0))
                  ],
            )
      ]

-- whether a place of which that is known is chosen
abbrev is_chosen : Known → Bool
is_chosen Chosen = true
is_chosen PassedOver = false

-- what is told of a place is so
pub told-decides : (taken more : List ℕ) (limit : ℕ) (known : Known) (place : ℕ) → (place < limit → is_member place more ≡ false) → is_fixed taken limit known place ≡ true → is_member place (taken ++ more) ≡ is_chosen known
told-decides taken more limit Chosen place barred told =
    list_any-append (λ y. eqb y place) taken more ∙ or_left (is_member place taken) (is_member place more) told
told-decides taken more limit PassedOver place barred told =
    let parts = and_parts (nat_lt place limit) (not (is_member place taken)) told in
    list_any-append (λ y. eqb y place) taken more
    ∙ or_from (is_member place taken) (is_member place more) (not-true (is_member place taken) parts.1) (barred (ltb-true place limit parts.0))

numbers-in : (x first count : ℕ) → IsIn x (numbers_from first count) → (first ≤ x) × (x < first + count)
numbers-in x first zero m = absurd m
numbers-in x first (suc count) (inl e) = (omega (arith, e), omega (arith, e))
numbers-in x first (suc count) (inr m) = let rest = numbers-in x (suc first) count m in (omega (arith, rest.0), omega (arith, rest.1))

-- what holds of the number of each place that a test passes
pub all-told : (P : ℕ → Type 0) (value : ℕ → ℕ) (q : ℕ → Bool) (count : ℕ) → ((place : ℕ) → place < count → q place ≡ true → P (value place)) → AllByRecursion P (map value (filter q (numbers_from 0 count)))
all-told P value q count each =
    all-members P (map value (filter q (numbers_from 0 count)))
    (λ x m.
    let from = IsIn-map value x (filter q (numbers_from 0 count)) m in
    let kept = IsIn-filter q from.0 (numbers_from 0 count) from.2 in
    subst P (sym from.1) (each from.0 (omega (arith, (numbers-in from.0 0 count kept.0).1)) kept.1))

total-split : (f : ℕ → ℕ) (q : ℕ → Bool) (xs : List ℕ) → total f (filter q xs) + total f (filter (λ x. not (q x)) xs) ≡ total f xs
total-split f q [] = refl
total-split f q (x ∷ xs) =
    elim (q x) as (λ b. total f (cond b (x ∷ filter q xs) (filter q xs)) + total f (cond (not b) (x ∷ filter (λ x. not (q x)) xs) (filter (λ x. not (q x)) xs)) ≡ f x + total f xs) [
      | true ↦ omega (arith, total-split f q xs)
      | false ↦ omega (arith, total-split f q xs)
    ]

filter-all : (xs : List ℕ) → filter (λ x. true) xs ≡ xs
filter-all [] = refl
filter-all (x ∷ xs) = ap (λ l. x ∷ l) (filter-all xs)

not-not : (b : Bool) → not (not b) ≡ b
not-not true = refl
not-not false = refl

module _ (pool : List ℕ) (k : ℕ) (rises : IsStrictlyIncreasing pool) (enough : k ≤ length pool) where
  abbrev inn : ℕ → ℕ
  inn = value_of pool k In

  abbrev out : ℕ → ℕ
  out = value_of pool k Out

  original-sum : sum_of (take k pool) ≡ total out (numbers_from 0 k)
  original-sum =
      ap sum_of (front-is pool k rises enough)
      ∙ ap (λ xs. sum_of (map (v pool k rises enough) xs)) (sym (filter-all (numbers_from 0 k)))
      ∙ ap sum_of (sym (kept-is pool k rises enough []))
      ∙ sum_of-reverse (map out (filter (λ x. true) (numbers_from 0 k)))
      ∙ sum_of-map out (filter (λ x. true) (numbers_from 0 k))
      ∙ ap (total out) (filter-all (numbers_from 0 k))

  module _ (size difference : ℕ) (set outs ins : List ℕ) (e : Exchange pool k size difference set outs ins) where
    exchange-sum : sum_of set ≡ sum_of (take k pool) + difference
    exchange-sum =
        let kept : List ℕ = filter (λ place. not (is_member place outs)) (numbers_from 0 k) in
        let kept_sum : sum_of (kept_of pool k outs) ≡ total out kept = sum_of-reverse (map out kept) ∙ sum_of-map out kept in
        let moved : total out (filter (λ place. is_member place outs) (numbers_from 0 k)) ≡ total out outs = ap (total out) (outs-again pool k rises enough outs e.outs_climb) in
        let le : total out outs ≤ total inn ins =
        total-pairs out inn k (length pool - k) 0 0 (λ i j below within. omega (arith, AllPairs-from_increasing pool rises (k - 1 - i) (k + j) 0 (omega arith) (omega arith)))
        outs ins e.outs_climb e.ins_climb (e.outs_size ∙ sym e.ins_size) in
        omega (
          arith,
          ap sum_of e.is_set,
          sum_of-append (kept_of pool k outs) (map inn ins),
          sum_of-map inn ins,
          kept_sum,
          moved,
          total-split out (λ place. is_member place outs) (numbers_from 0 k),
          le,
          original-sum,
          e.differs,
        )

    exchange-set : IsIn set (subsets (take k pool ++ drop k pool) (length (take k pool)))
    exchange-set =
        subst (λ n. IsIn set (subsets (take k pool ++ drop k pool) n)) (sym (length-take-le k pool enough))
        (subst (λ l. IsIn set (subsets l k)) (sym (take-append-drop k pool))
        (subst (λ s. IsIn s (subsets pool k)) (sym e.is_set) (set-in_pool pool k rises enough outs ins e.outs_climb e.ins_climb (e.outs_size ∙ sym e.ins_size))))

    exchange-size : length (filter (λ x. not (is_member x (take k pool))) set) ≡ size
    exchange-size =
        ap (λ s. length (moved_in pool k s)) (e.is_set ∙ set-is pool k rises enough outs ins)
        ∙ ap length (moved_in-is pool k rises enough outs ins e.outs_climb e.ins_climb)
        ∙ length-map ins inn ∙ e.ins_size

    -- who is moved out is not in the set, and who is moved in is
    out-member : (place : ℕ) → place < k → not (is_member (out place) set) ≡ is_member place outs
    out-member place low =
        sym (member-filter (λ place. not (is_member (out place) set)) 0 k place (omega arith) (omega arith))
        ∙ ap (is_member place) (places-of_exchange pool k rises enough set outs ins e.outs_climb e.ins_climb e.is_set).0

    in-member-of : (place : ℕ) → place < length pool - k → is_member (inn place) set ≡ is_member place ins
    in-member-of place low =
        sym (member-filter (λ place. is_member (inn place) set) 0 (length pool - k) place (omega arith) (omega arith))
        ∙ ap (is_member place) (places-of_exchange pool k rises enough set outs ins e.outs_climb e.ins_climb e.is_set).1

    module _ (beginning rest : List ℕ) (same : outs ++ ins ≡ beginning ++ rest) where
      out-told : (known : Known) (place : ℕ) → place < k → is_fixed (take size beginning) (out_limit pool k size beginning) known place ≡ true → is_member (out place) set ≡ not (is_chosen known)
      out-told known place low told =
          let from = beginning-outs pool k size outs ins beginning rest same e.outs_size e.ins_size e.outs_climb in
          let is : not (is_member (out place) set) ≡ is_chosen known =
          out-member place low ∙ ap (is_member place) from.1 ∙ told-decides (take size beginning) from.0 (out_limit pool k size beginning) known place (from.2 place) told in
          sym (not-not (is_member (out place) set)) ∙ ap not is

      in-told : (known : Known) (place : ℕ) → place < length pool - k → is_fixed (drop size beginning) (in_limit pool k size beginning) known place ≡ true → is_member (inn place) set ≡ is_chosen known
      in-told known place low told =
          let from = beginning-ins pool k size outs ins beginning rest same e.outs_size e.ins_size e.ins_climb in
          in-member-of place low ∙ ap (is_member place) from.1 ∙ told-decides (drop size beginning) from.0 (in_limit pool k size beginning) known place (from.2 place) told

      barred-out : (x : ℕ) → is_member x set ≡ false → ¬ IsIn x set
      barred-out x no' m = true≢false (sym (in-member x set m) ∙ no')

      exchange-of_class : IsExchange (exchange_class pool k size difference beginning) set
      exchange-of_class = record {
        ascends = subst IsStrictlyIncreasing (sym (take-append-drop k pool)) rises;
        set = exchange-set;
        size = exchange-size;
        sum = exchange-sum;
        held = all-append (λ x. IsIn x set) _ _
            (all-told (λ x. IsIn x set) out (is_fixed (take size beginning) (out_limit pool k size beginning) PassedOver) k (λ place low told. member-in (out place) set (out-told PassedOver place low told)))
            (all-told (λ x. IsIn x set) inn (is_fixed (drop size beginning) (in_limit pool k size beginning) Chosen) (length pool - k) (λ place low told. member-in (inn place) set (in-told Chosen place low told)));
        barred = all-append (λ x. ¬ IsIn x set) _ _
            (all-told (λ x. ¬ IsIn x set) out (is_fixed (take size beginning) (out_limit pool k size beginning) Chosen) k (λ place low told. barred-out (out place) (out-told Chosen place low told)))
            (all-told (λ x. ¬ IsIn x set) inn (is_fixed (drop size beginning) (in_limit pool k size beginning) PassedOver) (length pool - k) (λ place low told. barred-out (inn place) (in-told PassedOver place low told)));
      }

  -- the set of a path that goes on from a beginning is of the class that the beginning tells
  pub path-of_class : (size difference : ℕ) (beginning path : List ℕ) → 0 < size → IsOfStage pool k size difference path → GoesOn beginning path → IsExchange (exchange_class pool k size difference beginning) (set_of pool k size path)
  path-of_class size difference beginning path some of on =
      let by = path-exchange pool k rises enough size difference (λ none. absurd (omega (arith, some, none))) path (subst (IsIn path) (stage-hits pool k rises enough size difference) of) in
      exchange-of_class size difference (set_of pool k size path) by.0 by.1 by.3 beginning on.rest (sym by.2 ∙ on.is)

-- there is room for one more that passes
pub filter-room : (q : ℕ → Bool) (i count : ℕ) → i < count → q i ≡ true → length (filter q (numbers_from 0 i)) < length (filter q (numbers_from 0 count))
filter-room q i count low passes =
    let m : ℕ = count - suc i in
    let split : numbers_from 0 count ≡ numbers_from 0 i ++ numbers_from (0 + i) (suc m) = ap (numbers_from 0) (let e : count ≡ i + suc m = omega arith in e) ∙ numbers-append 0 i (suc m) in
    let at : filter q (numbers_from (0 + i) (suc m)) ≡ (0 + i) ∷ filter q (numbers_from (suc (0 + i)) m) =
    ap (λ b. cond b ((0 + i) ∷ filter q (numbers_from (suc (0 + i)) m)) (filter q (numbers_from (suc (0 + i)) m))) (ap q (let e : 0 + i ≡ i = omega arith in e) ∙ passes) in
    omega (
      arith,
      ap (λ l. length (filter q l)) split,
      ap length (filter-append q (numbers_from 0 i) (numbers_from (0 + i) (suc m))),
      length-append (filter q (numbers_from 0 i)) (filter q (numbers_from (0 + i) (suc m))),
      ap length at,
    )

length-cond : (b : Bool) (x : ℕ) (xs : List ℕ) → length (cond b (x ∷ xs) xs) ≤ suc (length xs)
length-cond true x xs = omega arith
length-cond false x xs = omega arith

-- no number is told both to be chosen and to be passed over
told-apart : (taken : List ℕ) (limit : ℕ) (xs : List ℕ) → length (filter (is_fixed taken limit Chosen) xs) + length (filter (is_fixed taken limit PassedOver) xs) ≤ length xs
told-apart taken limit [] = omega arith
told-apart taken limit (x ∷ xs) =
    let rest = told-apart taken limit xs in
    let chosen : List ℕ = filter (is_fixed taken limit Chosen) xs in
    let passed_over : List ℕ = filter (is_fixed taken limit PassedOver) xs in
    elim (cases_Bool (is_member x taken)) [
      | inl yes' ↦
          omega (
            arith,
            rest,
            ap (λ b. length (cond b (x ∷ chosen) chosen)) yes',
            ap (λ b. length (cond (nat_lt x limit && not b) (x ∷ passed_over) passed_over)) yes',
            ap (λ b. length (cond b (x ∷ passed_over) passed_over)) (and-false (nat_lt x limit)),
          )
      | inr no' ↦
          omega (
            arith,
            rest,
            ap (λ b. length (cond b (x ∷ chosen) chosen)) no',
            length-cond (nat_lt x limit && not (is_member x taken)) x passed_over,
          )
    ]

-- so both lists are no more than there are
pub told-room : (pool : List ℕ) (k : ℕ) (side : Side) (taken : List ℕ) (limit : ℕ) → length (fixed_numbers pool k side taken limit Chosen) + length (fixed_numbers pool k side taken limit PassedOver) ≤ count_of pool k side
told-room pool k side taken limit =
    let all : List ℕ = numbers_from 0 (count_of pool k side) in
    omega (
      arith,
      told-apart taken limit all,
      length-numbers 0 (count_of pool k side),
      length-map (filter (is_fixed taken limit Chosen) all) (value_of pool k side),
      length-map (filter (is_fixed taken limit PassedOver) all) (value_of pool k side),
    )
