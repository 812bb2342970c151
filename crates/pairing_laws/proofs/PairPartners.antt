-- Who is whose partner in a list of pairs in which no number stands twice, and what the pairs come to when they are counted by number.
use Rattle.std.proofs.Common.{◌≡◌, ℕ, zero, suc, ◌+◌, ◌<◌, ◌≤◌, ◌==◌, cond, List, [], ◌∷◌, All, sum_by, inl, inr, refl, sym, ap, subst, ◌∙◌, arith}
use Rattle.std.proofs.lemmas.Bool.{cases_eq, eq-eqb, ne_eqb}
use Rattle.std.proofs.lemmas.List.Elements.{All-head, All-tail}
use Rattle.std.proofs.lemmas.List.Sums.{sum_by-cons}
use Rattle.dual.specs.Prelude.{MakeUp, in_both}
use Rattle.dual.proofs.Sums.{one, one_itself}
use Rattle.dutch_arrangements.specs.Prelude.{numbers_from}

-- the partner of a number in some pairs; whoever is in none is their own
abbrev pub partner_in : List (ℕ × ℕ) → ℕ → ℕ
partner_in [] x = x
partner_in (pair ∷ pairs) x = cond (x == pair.0) pair.1 (cond (x == pair.1) pair.0 (partner_in pairs x))

-- no number stands twice in some pairs
abbrev pub Once : List (ℕ × ℕ) → Type 0
Once pairs = (x : ℕ) → sum_by (in_both (one x)) pairs ≤ 1

one_same : (x y : ℕ) → x ≡ y → one x y ≡ 1
one_same x y e = ap (λ t. cond t 1 0) (eq-eqb y x (sym e))

partner_first : (pair : ℕ × ℕ) (pairs : List (ℕ × ℕ)) (x : ℕ) → x ≡ pair.0 → partner_in (pair ∷ pairs) x ≡ pair.1
partner_first pair pairs x e = ap (λ t. cond t pair.1 (cond (x == pair.1) pair.0 (partner_in pairs x))) (eq-eqb x pair.0 e)

partner_second : (pair : ℕ × ℕ) (pairs : List (ℕ × ℕ)) (x : ℕ) → (x ≡ pair.0 → ⊥) → x ≡ pair.1 → partner_in (pair ∷ pairs) x ≡ pair.0
partner_second pair pairs x off e =
    ap (λ t. cond t pair.1 (cond (x == pair.1) pair.0 (partner_in pairs x))) (ne_eqb x pair.0 off)
    ∙ ap (λ t. cond t pair.0 (partner_in pairs x)) (eq-eqb x pair.1 e)

partner_later : (pair : ℕ × ℕ) (pairs : List (ℕ × ℕ)) (x : ℕ) → (x ≡ pair.0 → ⊥) → (x ≡ pair.1 → ⊥)
    → partner_in (pair ∷ pairs) x ≡ partner_in pairs x
partner_later pair pairs x off off' =
    ap (λ t. cond t pair.1 (cond (x == pair.1) pair.0 (partner_in pairs x))) (ne_eqb x pair.0 off)
    ∙ ap (λ t. cond t pair.0 (partner_in pairs x)) (ne_eqb x pair.1 off')

-- any number is the first of a pair, or the second, or neither
of_three : (P : ℕ → Type 0) (u v x : ℕ) → (x ≡ u → P x) → ((x ≡ u → ⊥) → x ≡ v → P x) → ((x ≡ u → ⊥) → (x ≡ v → ⊥) → P x) → P x
of_three P u v x first second neither =
    elim (cases_eq x u) [ inl same ↦ first same | inr off ↦ elim (cases_eq x v) [ inl same ↦ second off same | inr off' ↦ neither off off' ] ]

module _ (pair : ℕ × ℕ) (pairs : List (ℕ × ℕ)) (once : Once (pair ∷ pairs)) where
  tail_once : Once pairs
  tail_once x = omega (arith, once x, sum_by-cons (in_both (one x)) pair pairs)

  first_off : sum_by (in_both (one pair.0)) pairs ≡ 0
  first_off = omega (arith, once pair.0, sum_by-cons (in_both (one pair.0)) pair pairs, one_itself pair.0)

  second_off : sum_by (in_both (one pair.1)) pairs ≡ 0
  second_off = omega (arith, once pair.1, sum_by-cons (in_both (one pair.1)) pair pairs, one_itself pair.1)

  apart : pair.0 ≡ pair.1 → ⊥
  apart e = omega (arith, once pair.0, sum_by-cons (in_both (one pair.0)) pair pairs, one_itself pair.0, one_same pair.0 pair.1 e)

-- whoever stands in none of some pairs is their own partner
pub partner_none : (pairs : List (ℕ × ℕ)) (x : ℕ) → sum_by (in_both (one x)) pairs ≡ 0 → partner_in pairs x ≡ x
partner_none [] x none = refl
partner_none (pair ∷ pairs) x none =
    let parts = sum_by-cons (in_both (one x)) pair pairs in
    partner_later pair pairs x (λ e. omega (arith, none, parts, one_same x pair.0 e)) (λ e. omega (arith, none, parts, one_same x pair.1 e))
    ∙ partner_none pairs x (omega (arith, none, parts))

-- what holds of all pairs, either way, holds of a number and its partner
pub partner_met : (P : ℕ → ℕ → Type 0) → ((a b : ℕ) → P a b → P b a) → (pairs : List (ℕ × ℕ)) → All (λ pair. P pair.0 pair.1) pairs → (x : ℕ)
    → (partner_in pairs x ≡ x → ⊥) → P x (partner_in pairs x)
partner_met P turned [] all x ne = absurd (ne refl)
partner_met P turned (pair ∷ pairs) all x ne =
    let here : P pair.0 pair.1 = All-head (λ pair. P pair.0 pair.1) pair pairs all in
    of_three (λ z. (partner_in (pair ∷ pairs) z ≡ z → ⊥) → P z (partner_in (pair ∷ pairs) z)) pair.0 pair.1 x
    (λ e ne. subst (P x) (sym (partner_first pair pairs x e)) (subst (λ z. P z pair.1) (sym e) here))
    (λ off e ne. subst (P x) (sym (partner_second pair pairs x off e)) (subst (λ z. P z pair.0) (sym e) (turned pair.0 pair.1 here)))
    (λ off off' ne.
    let same = partner_later pair pairs x off off' in
    subst (P x) (sym same) (partner_met P turned pairs (All-tail (λ pair. P pair.0 pair.1) pair pairs all) x (λ e. ne (same ∙ e)))) ne

-- each number is the partner of its partner
pub partner_back : (pairs : List (ℕ × ℕ)) → Once pairs → (x : ℕ) → partner_in pairs (partner_in pairs x) ≡ x
partner_back [] once x = refl
partner_back (pair ∷ pairs) once x =
    let back = partner_back pairs (tail_once pair pairs once) in
    let own : partner_in pairs pair.0 ≡ pair.0 = partner_none pairs pair.0 (first_off pair pairs once) in
    let own' : partner_in pairs pair.1 ≡ pair.1 = partner_none pairs pair.1 (second_off pair pairs once) in
    of_three (λ z. partner_in (pair ∷ pairs) (partner_in (pair ∷ pairs) z) ≡ z) pair.0 pair.1 x
    (λ e.
    ap (partner_in (pair ∷ pairs)) (partner_first pair pairs x e)
    ∙ partner_second pair pairs pair.1 (λ e'. apart pair pairs once (sym e')) refl ∙ sym e)
    (λ off e. ap (partner_in (pair ∷ pairs)) (partner_second pair pairs x off e) ∙ partner_first pair pairs pair.0 refl ∙ sym e)
    (λ off off'.
    ap (partner_in (pair ∷ pairs)) (partner_later pair pairs x off off')
    ∙ partner_later pair pairs (partner_in pairs x)
    (λ e. off (sym (back x) ∙ ap (partner_in pairs) e ∙ own))
    (λ e. off' (sym (back x) ∙ ap (partner_in pairs) e ∙ own'))
    ∙ back x)

-- ---- what is counted

-- weights that agree where a number stands
pairs_agree : (f g : ℕ → ℕ) (pairs : List (ℕ × ℕ)) → ((x : ℕ) → 0 < sum_by (in_both (one x)) pairs → f x ≡ g x)
    → sum_by (in_both f) pairs ≡ sum_by (in_both g) pairs
pairs_agree f g [] same = refl
pairs_agree f g (pair ∷ pairs) same =
    omega (
      arith,
      sum_by-cons (in_both f) pair pairs,
      sum_by-cons (in_both g) pair pairs,
      same pair.0 (omega (arith, sum_by-cons (in_both (one pair.0)) pair pairs, one_itself pair.0)),
      same pair.1 (omega (arith, sum_by-cons (in_both (one pair.1)) pair pairs, one_itself pair.1)),
      pairs_agree f g pairs (λ x some. same x (omega (arith, some, sum_by-cons (in_both (one x)) pair pairs))),
    )

none_weigh : (f : ℕ → ℕ) (xs : List ℕ) → ((x : ℕ) → 0 < sum_by (one x) xs → f x ≡ 0) → sum_by f xs ≡ 0
none_weigh f [] same = refl
none_weigh f (x ∷ xs) same =
    omega (
      arith,
      sum_by-cons f x xs,
      same x (omega (arith, sum_by-cons (one x) x xs, one_itself x)),
      none_weigh f xs (λ y some. same y (omega (arith, some, sum_by-cons (one y) x xs))),
    )

module _ (g : ℕ → ℕ → ℕ) where
  -- what a pair comes to, by each of its two
  abbrev pub of_two : ℕ × ℕ → ℕ
  of_two pair = g pair.0 pair.1 + g pair.1 pair.0

  pairs_told : (pairs : List (ℕ × ℕ)) → Once pairs → sum_by (in_both (λ x. g x (partner_in pairs x))) pairs ≡ sum_by of_two pairs
  pairs_told [] once = refl
  pairs_told (pair ∷ pairs) once =
      let here : ℕ → ℕ = λ x. g x (partner_in (pair ∷ pairs) x) in
      let later : ℕ → ℕ = λ x. g x (partner_in pairs x) in
      let first : here pair.0 ≡ g pair.0 pair.1 = ap (g pair.0) (partner_first pair pairs pair.0 refl) in
      let second : here pair.1 ≡ g pair.1 pair.0 =
      ap (g pair.1) (partner_second pair pairs pair.1 (λ e. apart pair pairs once (sym e)) refl) in
      let same : sum_by (in_both here) pairs ≡ sum_by (in_both later) pairs =
      pairs_agree here later pairs (λ x some. ap (g x) (partner_later pair pairs x
      (λ e. omega (arith, some, first_off pair pairs once, ap (λ z. sum_by (in_both (one z)) pairs) e))
      (λ e. omega (arith, some, second_off pair pairs once, ap (λ z. sum_by (in_both (one z)) pairs) e)))) in
      omega (arith, sum_by-cons (in_both here) pair pairs, sum_by-cons of_two pair pairs, first, second, same, pairs_told pairs (tail_once pair pairs once))

  module _ (players rest : List ℕ) (pairs : List (ℕ × ℕ)) (whole : MakeUp players pairs rest) (each_once : (x : ℕ) → sum_by (one x) players ≤ 1)
      (alone : (x : ℕ) → g x x ≡ 0) where
    -- counted by the players, each with their partner, or by the pairs
    pub partners_told : sum_by (λ x. g x (partner_in pairs x)) players ≡ sum_by of_two pairs
    partners_told =
        let here : ℕ → ℕ = λ x. g x (partner_in pairs x) in
        let others : sum_by here rest ≡ 0 =
        none_weigh here rest (λ x some. ap (g x) (partner_none pairs x (omega (arith, some, whole (one x), each_once x))) ∙ alone x) in
        omega (arith, whole here, others, pairs_told pairs (λ x. omega (arith, whole (one x), each_once x)))

-- ---- numbers from one on

from_off : (x first many : ℕ) → x < first → sum_by (one x) (numbers_from first many) ≡ 0
from_off x first zero h = refl
from_off x first (suc many) h =
    let off : one x first ≡ 0 = ap (λ t. cond t 1 0) (ne_eqb first x (λ e. omega (arith, h, e))) in
    omega (arith, sum_by-cons (one x) first (numbers_from (suc first) many), off, from_off x (suc first) many (omega (arith, h)))

-- each stands there once at most
pub from_once : (x first many : ℕ) → sum_by (one x) (numbers_from first many) ≤ 1
from_once x first zero = omega arith
from_once x first (suc many) =
    let parts = sum_by-cons (one x) first (numbers_from (suc first) many) in
    elim (cases_eq first x) [
      | inl same ↦ omega (arith, parts, one_same x first (sym same), from_off x (suc first) many (omega (arith, same)))
      | inr off ↦
          (let none : one x first ≡ 0 = ap (λ t. cond t 1 0) (ne_eqb first x off) in
          omega (arith, parts, none, from_once x (suc first) many))
    ]
