-- Which beginnings of exchanges can reach a difference of the sums.
use Rattle.std.proofs.Common.{◌≡◌, ℕ, suc, ◌+◌, ◌-◌, ◌<◌, ◌≤◌, Bool, true, nat_lt, nat_le, List, [], ◌∷◌, ◌++◌, length, take, drop, refl, sym, ◌∙◌, ap, append_assoc, arith, length-append, subst, if◌then◌else◌, inl, inr}
use Rattle.std.specs.List.Sorted.{IsStrictlyIncreasing}
use Rattle.std.proofs.lemmas.List.Kept.{AllPairs-from_increasing}
use Rattle.std.proofs.lemmas.Bool.{lt-ltb, le-ltb, le-leb, leb-true, and_from, and_parts, cases_lt}
use Rattle.dutch_sequence.specs.declared.exchange.Side.TheVariants.{Out, In}
use Rattle.dutch_sequence.specs.Prelude.{numbers_from, total, value_of, run, least_at, greatest_at, within_reach}
use Rattle.dutch_sequence.proofs.HalfWalks.{Climbs, AllFit, Climbs-room}
use Rattle.dutch_sequence.proofs.LimboSets.{drop_front}
use Rattle.dutch_sequence.proofs.Sets.{Climbs-lower}

pub total-append : (f : ℕ → ℕ) (xs ys : List ℕ) → total f (xs ++ ys) ≡ total f xs + total f ys
total-append f [] ys = omega arith
total-append f (x ∷ xs) ys = omega (arith, total-append f xs ys)

-- of numbers that climb, the sum lies between those of the first and of the last so many: of a relation that sums keep
module _ (R : ℕ → ℕ → Type 0) (none : R 0 0) (plus : (a b c d : ℕ) → R a b → R c d → R (a + c) (b + d)) (f : ℕ → ℕ) (bound : ℕ) (goes : (i j : ℕ) → i ≤ j → j < bound → R (f j) (f i)) where
  pub front-bound : (low : ℕ) (xs : List ℕ) → Climbs low bound xs → R (total f xs) (total f (numbers_from low (length xs)))
  front-bound low [] climbs = none
  front-bound low (x ∷ xs) climbs =
      plus (f x) (f low) (total f xs) (total f (numbers_from (suc low) (length xs))) (goes low x climbs.0 climbs.1)
      (front-bound (suc low) xs (Climbs-lower (suc low) (suc x) bound xs (omega (arith, climbs.0)) climbs.2))

  pub back-bound : (low : ℕ) (xs : List ℕ) → Climbs low bound xs → R (total f (numbers_from (bound - length xs) (length xs))) (total f xs)
  back-bound low [] climbs = none
  back-bound low (x ∷ xs) climbs =
      let room : x + length xs < bound = Climbs-room low bound xs x climbs in
      plus (f (bound - suc (length xs))) (f x) (total f (numbers_from (suc (bound - suc (length xs))) (length xs))) (total f xs)
      (goes x (bound - suc (length xs)) (omega arith) (omega arith))
      (subst (λ a. R (total f (numbers_from a (length xs))) (total f xs)) (let e : bound - length xs ≡ suc (bound - suc (length xs)) = omega arith in e) (back-bound (suc x) xs climbs.2))

pub take_front_of : (xs ys : List ℕ) (n : ℕ) → length xs ≡ n → take n (xs ++ ys) ≡ xs
take_front_of [] ys n e = ap (λ n. take n ys) (sym e)
take_front_of (x ∷ xs) ys n e = ap (λ n. take n (x ∷ (xs ++ ys))) (sym e) ∙ ap (λ rest. x ∷ rest) (take_front_of xs ys (length xs) refl)

module _ (pool : List ℕ) (k : ℕ) (rises : IsStrictlyIncreasing pool) (enough : k ≤ length pool) where
  abbrev pub out : ℕ → ℕ
  out = value_of pool k Out

  abbrev pub inn : ℕ → ℕ
  inn = value_of pool k In

  pub out-falls : (i j : ℕ) → i < j → j < k → out j < out i
  out-falls i j below within = AllPairs-from_increasing pool rises (k - 1 - j) (k - 1 - i) 0 (omega arith) (omega arith)

  pub inn-raises : (i j : ℕ) → i < j → j < length pool - k → inn i < inn j
  inn-raises i j below within = AllPairs-from_increasing pool rises (k + i) (k + j) 0 (omega arith) (omega arith)

  out_goes : (i j : ℕ) → i ≤ j → j < k → out j ≤ out i
  out_goes i j h within =
      elim (cases_lt i j) [ inl below ↦ (let lower : out j < out i = out-falls i j below within in omega arith) | inr same ↦ (let e : out j ≡ out i = ap out (let e : j ≡ i = omega (arith, same) in e) in omega arith) ]

  inn_goes : (i j : ℕ) → i ≤ j → j < length pool - k → inn i ≤ inn j
  inn_goes i j h within =
      elim (cases_lt i j) [ inl below ↦ (let lower : inn i < inn j = inn-raises i j below within in omega arith) | inr same ↦ (let e : inn j ≡ inn i = ap inn (let e : j ≡ i = omega (arith, same) in e) in omega arith) ]

  out_most : (low : ℕ) (xs : List ℕ) → Climbs low k xs → total out xs ≤ run pool k Out low (length xs)
  out_most = front-bound (λ a b. a ≤ b) (omega arith) (λ a b c d p q. omega arith) out k out_goes

  out_least : (low : ℕ) (xs : List ℕ) → Climbs low k xs → run pool k Out (k - length xs) (length xs) ≤ total out xs
  out_least = back-bound (λ a b. a ≤ b) (omega arith) (λ a b c d p q. omega arith) out k out_goes

  inn_least : (low : ℕ) (xs : List ℕ) → Climbs low (length pool - k) xs → run pool k In low (length xs) ≤ total inn xs
  inn_least = front-bound (λ a b. b ≤ a) (omega arith) (λ a b c d p q. omega arith) inn (length pool - k) inn_goes

  inn_most : (low : ℕ) (xs : List ℕ) → Climbs low (length pool - k) xs → total inn xs ≤ run pool k In (length pool - k - length xs) (length xs)
  inn_most = back-bound (λ a b. b ≤ a) (omega arith) (λ a b c d p q. omega arith) inn (length pool - k) inn_goes

  -- the least and the greatest difference of so many
  pub difference-least : (outs ins : List ℕ) (size : ℕ) → length outs ≡ size → length ins ≡ size → Climbs 0 k outs → Climbs 0 (length pool - k) ins → run pool k In 0 size - run pool k Out 0 size ≤ total inn ins - total out outs
  difference-least outs ins size out_size in_size p q =
      let most : total out outs ≤ run pool k Out 0 size = subst (λ n. total out outs ≤ run pool k Out 0 n) out_size (out_most 0 outs p) in
      let least : run pool k In 0 size ≤ total inn ins = subst (λ n. run pool k In 0 n ≤ total inn ins) in_size (inn_least 0 ins q) in
      omega arith

  pub difference-greatest : (outs ins : List ℕ) (size : ℕ) → length outs ≡ size → length ins ≡ size → Climbs 0 k outs → Climbs 0 (length pool - k) ins → total inn ins - total out outs ≤ run pool k In (length pool - k - size) size - run pool k Out (k - size) size
  difference-greatest outs ins size out_size in_size p q =
      let least : run pool k Out (k - size) size ≤ total out outs = subst (λ n. run pool k Out (k - n) n ≤ total out outs) out_size (out_least 0 outs p) in
      let most : total inn ins ≤ run pool k In (length pool - k - size) size = subst (λ n. total inn ins ≤ run pool k In (length pool - k - n) n) in_size (inn_most 0 ins q) in
      omega arith

  module _ (size difference : ℕ) where
    abbrev pub fits : List ℕ → ℕ → Bool
    fits = within_reach pool k size difference

    reached : (least greatest : ℕ) (path : List ℕ) (place : ℕ) → least_at pool k size path place ≡ least → greatest_at pool k size path place ≡ greatest → least ≤ difference → difference ≤ greatest → fits path place ≡ true
    unfolding within_reach
    reached least greatest path place is_least is_greatest low high =
        and_from (nat_le (least_at pool k size path place) difference) (nat_le difference (greatest_at pool k size path place))
        (ap (λ n. nat_le n difference) is_least ∙ le-leb least difference low) (ap (λ n. nat_le difference n) is_greatest ∙ le-leb difference greatest high)

    -- the places moved out fit, where the difference is that of the whole
    pub outs-fit : (beginning outs ins : List ℕ) (low : ℕ) → length beginning + length outs ≡ size → length ins ≡ size → Climbs low k outs → Climbs 0 (length pool - k) ins → difference ≡ total inn ins - total out (beginning ++ outs) → AllFit fits beginning outs
    unfolding least_at greatest_at
    outs-fit beginning [] ins low whole same p q is = tt
    outs-fit beginning (c ∷ outs) ins low whole same p q is =
        let short : nat_lt (length beginning) size ≡ true = lt-ltb (length beginning) size (omega arith) in
        let rest : size - 1 - length beginning ≡ length outs = omega arith in
        let sum : total out (beginning ++ c ∷ outs) ≡ total out beginning + (out c + total out outs) = total-append out beginning (c ∷ outs) in
        let least_in : run pool k In 0 size ≤ total inn ins = subst (λ n. run pool k In 0 n ≤ total inn ins) same (inn_least 0 ins q) in
        let most_in : total inn ins ≤ run pool k In (length pool - k - size) size = subst (λ n. total inn ins ≤ run pool k In (length pool - k - n) n) same (inn_most 0 ins q) in
        let most_out : total out outs ≤ run pool k Out (c + 1) (size - 1 - length beginning) =
        subst (λ n. total out outs ≤ run pool k Out (c + 1) n) (sym rest) (out_most (c + 1) outs (subst (λ l. Climbs l k outs) (let e : suc c ≡ c + 1 = omega arith in e) p.2)) in
        let least_out : run pool k Out (k - (size - 1 - length beginning)) (size - 1 - length beginning) ≤ total out outs =
        subst (λ n. run pool k Out (k - n) n ≤ total out outs) (sym rest) (out_least (suc c) outs p.2) in (
          reached (run pool k In 0 size - (total out beginning + out c + run pool k Out (c + 1) (size - 1 - length beginning)))
              (run pool k In (length pool - k - size) size - (total out beginning + out c + run pool k Out (k - (size - 1 - length beginning)) (size - 1 - length beginning)))
              beginning c
              (ap (λ b. if b then (run pool k In 0 size - (total out beginning + out c + run pool k Out (c + 1) (size - 1 - length beginning))) else ((total inn (drop size beginning) + inn c + run pool k In (c + 1) (size + size - 1 - length beginning)) - total out (take size beginning))) short)
              (ap (λ b. if b then (run pool k In (length pool - k - size) size - (total out beginning + out c + run pool k Out (k - (size - 1 - length beginning)) (size - 1 - length beginning))) else ((total inn (drop size beginning) + inn c + run pool k In (length pool - k - (size + size - 1 - length beginning)) (size + size - 1 - length beginning)) - total out (take size beginning))) short)
              (omega arith) (omega arith),
          outs-fit (beginning ++ c ∷ []) outs ins (suc c) (omega (arith, length-append beginning (c ∷ []))) same p.2 q
              (is ∙ ap (λ xs. total inn ins - total out xs) (sym (append_assoc beginning (c ∷ []) outs))),
        )

    module _ (outs : List ℕ) (out_size : length outs ≡ size) where
      least-second : (beginning : List ℕ) (a : ℕ) → least_at pool k size (outs ++ beginning) a ≡ (total inn beginning + inn a + run pool k In (a + 1) (size + size - 1 - length (outs ++ beginning))) - total out outs
      unfolding least_at
      least-second beginning a =
          ap (λ b. if b then (run pool k In 0 size - (total out (outs ++ beginning) + out a + run pool k Out (a + 1) (size - 1 - length (outs ++ beginning)))) else ((total inn (drop size (outs ++ beginning)) + inn a + run pool k In (a + 1) (size + size - 1 - length (outs ++ beginning))) - total out (take size (outs ++ beginning)))) (le-ltb (length (outs ++ beginning)) size (omega (arith, length-append outs beginning)))
          ∙ ap (λ xs. (total inn xs + inn a + run pool k In (a + 1) (size + size - 1 - length (outs ++ beginning))) - total out (take size (outs ++ beginning))) (drop_front outs beginning size out_size)
          ∙ ap (λ xs. (total inn beginning + inn a + run pool k In (a + 1) (size + size - 1 - length (outs ++ beginning))) - total out xs) (take_front_of outs beginning size out_size)

      greatest-second : (beginning : List ℕ) (a : ℕ) → greatest_at pool k size (outs ++ beginning) a ≡ (total inn beginning + inn a + run pool k In (length pool - k - (size + size - 1 - length (outs ++ beginning))) (size + size - 1 - length (outs ++ beginning))) - total out outs
      unfolding greatest_at
      greatest-second beginning a =
          ap (λ b. if b then (run pool k In (length pool - k - size) size - (total out (outs ++ beginning) + out a + run pool k Out (k - (size - 1 - length (outs ++ beginning))) (size - 1 - length (outs ++ beginning)))) else ((total inn (drop size (outs ++ beginning)) + inn a + run pool k In (length pool - k - (size + size - 1 - length (outs ++ beginning))) (size + size - 1 - length (outs ++ beginning))) - total out (take size (outs ++ beginning)))) (le-ltb (length (outs ++ beginning)) size (omega (arith, length-append outs beginning)))
          ∙ ap (λ xs. (total inn xs + inn a + run pool k In (length pool - k - (size + size - 1 - length (outs ++ beginning))) (size + size - 1 - length (outs ++ beginning))) - total out (take size (outs ++ beginning))) (drop_front outs beginning size out_size)
          ∙ ap (λ xs. (total inn beginning + inn a + run pool k In (length pool - k - (size + size - 1 - length (outs ++ beginning))) (size + size - 1 - length (outs ++ beginning))) - total out xs) (take_front_of outs beginning size out_size)

      -- and so do the places moved in
      pub ins-fit : (beginning ins : List ℕ) (low : ℕ) → length beginning + length ins ≡ size → Climbs low (length pool - k) ins → difference ≡ total inn (beginning ++ ins) - total out outs → AllFit fits (outs ++ beginning) ins
      ins-fit beginning [] low whole p is = tt
      ins-fit beginning (a ∷ ins) low whole p is =
          let n : ℕ = size + size - 1 - length (outs ++ beginning) in
          let rest : n ≡ length ins = omega (arith, length-append outs beginning) in
          let sum : total inn (beginning ++ a ∷ ins) ≡ total inn beginning + (inn a + total inn ins) = total-append inn beginning (a ∷ ins) in
          let least : run pool k In (a + 1) n ≤ total inn ins =
          subst (λ n. run pool k In (a + 1) n ≤ total inn ins) (sym rest) (inn_least (a + 1) ins (subst (λ l. Climbs l (length pool - k) ins) (let e : suc a ≡ a + 1 = omega arith in e) p.2)) in
          let most : total inn ins ≤ run pool k In (length pool - k - n) n =
          subst (λ n. total inn ins ≤ run pool k In (length pool - k - n) n) (sym rest) (inn_most (suc a) ins p.2) in (
            reached ((total inn beginning + inn a + run pool k In (a + 1) n) - total out outs) ((total inn beginning + inn a + run pool k In (length pool - k - n) n) - total out outs)
                (outs ++ beginning) a (least-second beginning a) (greatest-second beginning a) (omega arith) (omega arith),
            subst (λ path. AllFit fits path ins) (sym (append_assoc outs beginning (a ∷ [])))
                (ins-fit (beginning ++ a ∷ []) ins (suc a) (omega (arith, length-append beginning (a ∷ []))) p.2
                (is ∙ ap (λ xs. total inn xs - total out outs) (sym (append_assoc beginning (a ∷ []) ins)))),
          )

      -- where all places fit, the difference is the wanted one
      pub ins-exact : (beginning ins : List ℕ) → length beginning + length ins ≡ size → 0 < length ins → AllFit fits (outs ++ beginning) ins → total inn (beginning ++ ins) - total out outs ≡ difference
      unfolding within_reach
      ins-exact beginning [] whole more fit = absurd (omega arith)
      ins-exact beginning (a ∷ []) whole more fit =
          let n : ℕ = size + size - 1 - length (outs ++ beginning) in
          let rest : n ≡ 0 = omega (arith, length-append outs beginning) in
          let tests = and_parts (nat_le (least_at pool k size (outs ++ beginning) a) difference) (nat_le difference (greatest_at pool k size (outs ++ beginning) a)) fit.0 in
          let low : least_at pool k size (outs ++ beginning) a ≤ difference = leb-true (least_at pool k size (outs ++ beginning) a) difference tests.0 in
          let high : difference ≤ greatest_at pool k size (outs ++ beginning) a = leb-true difference (greatest_at pool k size (outs ++ beginning) a) tests.1 in
          let no_least : run pool k In (a + 1) n ≡ 0 = ap (run pool k In (a + 1)) rest in
          let no_most : run pool k In (length pool - k - n) n ≡ 0 = ap (run pool k In (length pool - k - n)) rest in
          let sum : total inn (beginning ++ a ∷ []) ≡ total inn beginning + (inn a + 0) = total-append inn beginning (a ∷ []) in
          let l = least-second beginning a in
          let h = greatest-second beginning a in
          omega arith
      ins-exact beginning (a ∷ b ∷ ins) whole more fit =
          ap (λ xs. total inn xs - total out outs) (sym (append_assoc beginning (a ∷ []) (b ∷ ins)))
          ∙ ins-exact (beginning ++ a ∷ []) (b ∷ ins) (omega (arith, length-append beginning (a ∷ []))) (omega arith)
          (subst (λ path. AllFit fits path (b ∷ ins)) (append_assoc outs beginning (a ∷ [])) fit.1)
