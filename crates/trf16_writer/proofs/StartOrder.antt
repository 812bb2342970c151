-- Who goes before whom by rating, title and start rank is a strict order, in which any two of different start ranks compare.
use Rattle.std.proofs.Common.{◌≡◌, ◌⊎◌, inl, inr, ℕ, ◌<◌, ◌≤◌, Bool, true, false, ◌==◌, nat_lt, cond, refl, sym, ◌∙◌, arith}
use Rattle.std.proofs.lemmas.Bool.{eqb-true, ltb-true, lt-ltb, eq-eqb, ne_eqb, cases_lt}
use Rattle.trf16_report.specs.Prelude.{Entry, rating_of, higher_titles, goes_before}

-- rating, place of the title and start rank of one, and of another
abbrev IsBefore : ℕ → ℕ → ℕ → ℕ → ℕ → ℕ → Type 0
IsBefore r t s r' t' s' = (r' < r) ⊎ ((r ≡ r') × ((t < t') ⊎ ((t ≡ t') × (s < s'))))

abbrev test : ℕ → ℕ → ℕ → ℕ → ℕ → ℕ → Bool
test r t s r' t' s' = cond (r == r') (cond (t == t') (nat_lt s s') (nat_lt t t')) (nat_lt r' r)

before_is : (r t s r' t' s' : ℕ) → test r t s r' t' s' ≡ true → IsBefore r t s r' t' s'
before_is r t s r' t' s' e = by (r == r') refl (t == t') refl e
  where
    by : (rated : Bool) → (r == r') ≡ rated → (titled : Bool) → (t == t') ≡ titled → cond rated (cond titled (nat_lt s s') (nat_lt t t')) (nat_lt r' r) ≡ true
        → IsBefore r t s r' t' s'
    by true a true b e = inr (eqb-true r r' a, inr (eqb-true t t' b, ltb-true s s' e))
    by true a false b e = inr (eqb-true r r' a, inl (ltb-true t t' e))
    by false a titled b e = inl (ltb-true r' r e)

differ : (a b : ℕ) → a < b → a ≡ b → ⊥
differ a b lt e = absurd (omega arith)

before_from : (r t s r' t' s' : ℕ) → IsBefore r t s r' t' s' → test r t s r' t' s' ≡ true
before_from r t s r' t' s' (inl lt) = rw (ne_eqb r r' (λ e. differ r' r lt (sym e))) (lt-ltb r' r lt)
before_from r t s r' t' s' (inr (e, inl lt)) = rw (eq-eqb r r' e, ne_eqb t t' (differ t t' lt)) (lt-ltb t t' lt)
before_from r t s r' t' s' (inr (e, inr (d, lt))) = rw (eq-eqb r r' e, eq-eqb t t' d) (lt-ltb s s' lt)

chain : (r t s r' t' s' r2 t2 s2 : ℕ) → IsBefore r t s r' t' s' → IsBefore r' t' s' r2 t2 s2 → IsBefore r t s r2 t2 s2
chain r t s r' t' s' r2 t2 s2 (inl a) (inl b) = inl (omega arith)
chain r t s r' t' s' r2 t2 s2 (inl a) (inr (e, b)) = inl (omega arith)
chain r t s r' t' s' r2 t2 s2 (inr (e, a)) (inl b) = inl (omega arith)
chain r t s r' t' s' r2 t2 s2 (inr (e, inl a)) (inr (e', inl b)) = inr (e ∙ e', inl (omega arith))
chain r t s r' t' s' r2 t2 s2 (inr (e, inl a)) (inr (e', inr (d, b))) = inr (e ∙ e', inl (omega arith))
chain r t s r' t' s' r2 t2 s2 (inr (e, inr (d, a))) (inr (e', inl b)) = inr (e ∙ e', inl (omega arith))
chain r t s r' t' s' r2 t2 s2 (inr (e, inr (d, a))) (inr (e', inr (d', b))) = inr (e ∙ e', inr (d ∙ d', omega arith))

never : (r t s : ℕ) → IsBefore r t s r t s → ⊥
never r t s (inl lt) = absurd (omega arith)
never r t s (inr (e, inl lt)) = absurd (omega arith)
never r t s (inr (e, inr (d, lt))) = absurd (omega arith)

-- two numbers
either : (a b : ℕ) → (a < b) ⊎ ((b < a) ⊎ (a ≡ b))
either a b = by (cases_lt a b) (cases_lt b a)
  where
    by : (a < b) ⊎ (b ≤ a) → (b < a) ⊎ (a ≤ b) → (a < b) ⊎ ((b < a) ⊎ (a ≡ b))
    by (inl lt) more = inl lt
    by (inr le) (inl lt) = inr (inl lt)
    by (inr le) (inr le') = inr (inr (omega arith))

one_of : (r t s r' t' s' : ℕ) → (s ≡ s' → ⊥) → IsBefore r t s r' t' s' ⊎ IsBefore r' t' s' r t s
one_of r t s r' t' s' other = by (either r r') (either t t') (either s s')
  where
    by : (r < r') ⊎ ((r' < r) ⊎ (r ≡ r')) → (t < t') ⊎ ((t' < t) ⊎ (t ≡ t')) → (s < s') ⊎ ((s' < s) ⊎ (s ≡ s'))
        → IsBefore r t s r' t' s' ⊎ IsBefore r' t' s' r t s
    by (inl lt) b c = inr (inl lt)
    by (inr (inl lt)) b c = inl (inl lt)
    by (inr (inr e)) (inl lt) c = inl (inr (e, inl lt))
    by (inr (inr e)) (inr (inl lt)) c = inr (inr (sym e, inl lt))
    by (inr (inr e)) (inr (inr d)) (inl lt) = inl (inr (e, inr (d, lt)))
    by (inr (inr e)) (inr (inr d)) (inr (inl lt)) = inr (inr (sym e, inr (sym d, lt)))
    by (inr (inr e)) (inr (inr d)) (inr (inr f)) = absurd (other f)

-- ---- of players

module _ (utf8 : Bool) where
  pub goes_further : (x y z : Entry) → goes_before utf8 x y ≡ true → goes_before utf8 y z ≡ true → goes_before utf8 x z ≡ true
  goes_further x y z e e' =
      let r = rating_of utf8 x in
      let r' = rating_of utf8 y in
      let r2 = rating_of utf8 z in
      let t = higher_titles utf8 x in
      let t' = higher_titles utf8 y in
      let t2 = higher_titles utf8 z in
      before_from r t x.start r2 t2 z.start
      (chain r t x.start r' t' y.start r2 t2 z.start (before_is r t x.start r' t' y.start e) (before_is r' t' y.start r2 t2 z.start e'))

  pub goes_never : (x : Entry) → goes_before utf8 x x ≡ false
  goes_never x = by (goes_before utf8 x x) refl
    where
      by : (b : Bool) → goes_before utf8 x x ≡ b → b ≡ false
      by true e = absurd (never (rating_of utf8 x) (higher_titles utf8 x) x.start (before_is (rating_of utf8 x) (higher_titles utf8 x) x.start (rating_of utf8 x) (higher_titles utf8 x) x.start e))
      by false e = refl

  pub goes_either : (x y : Entry) → (x.start ≡ y.start → ⊥) → (goes_before utf8 x y ≡ true) ⊎ (goes_before utf8 y x ≡ true)
  goes_either x y other = by (one_of r t x.start r' t' y.start other)
    where
      r : ℕ
      r = rating_of utf8 x

      r' : ℕ
      r' = rating_of utf8 y

      t : ℕ
      t = higher_titles utf8 x

      t' : ℕ
      t' = higher_titles utf8 y

      by : IsBefore r t x.start r' t' y.start ⊎ IsBefore r' t' y.start r t x.start → (goes_before utf8 x y ≡ true) ⊎ (goes_before utf8 y x ≡ true)
      by (inl a) = inl (before_from r t x.start r' t' y.start a)
      by (inr b) = inr (before_from r' t' y.start r t x.start b)

  -- the higher rated goes before the other
  pub goes_rated : (x y : Entry) → rating_of utf8 y < rating_of utf8 x → goes_before utf8 x y ≡ true
  goes_rated x y lt = before_from (rating_of utf8 x) (higher_titles utf8 x) x.start (rating_of utf8 y) (higher_titles utf8 y) y.start (inl lt)
