-- Pairs that cover a list are pairs of whoever the list is made of (C.04.3 A.9, C.4).
use Rattle.std.proofs.Common.{◌≡◌, ℕ, ◌+◌, ◌*◌, ◌≤◌, Bool, true, List, [], ◌∷◌, ◌++◌, All, map, length, sum_by, refl, sym, ap, subst, ◌∙◌, arith}
use Rattle.std.specs.Prelude.{◌%◌}
use Rattle.std.specs.List.{AllByRecursion}
use Rattle.std.proofs.lemmas.List.{map-append}
use Rattle.std.proofs.lemmas.List.Elements.{All-nil, All-cons, All-head, All-tail}
use Rattle.std.proofs.lemmas.List.Sums.{sum_by-cons, sum_by-append}
use Rattle.dual.specs.Prelude.{MakeUp, in_both}
use Rattle.dutch_bracket.specs.Completion.{Covers as Covering, MayBeLeftOut}
use Rattle.dutch_bracket.proofs.AllLemmas.{all_join}

-- ---- what holds of all members

pub one_by_one : {X : Type 0} (P : X → Type 0) (xs : List X) → All P xs → AllByRecursion P xs
one_by_one P [] all = tt
one_by_one P (x ∷ xs) all = (All-head P x xs all, one_by_one P xs (All-tail P x xs all))

pub each : {X : Type 0} (P : X → Type 0) (xs : List X) → AllByRecursion P xs → All P xs
each P [] all = All-nil P
each P (x ∷ xs) all = All-cons P x xs all.0 (each P xs all.1)

pub both_parts : (P : ℕ → Type 0) (xs ys : List ℕ) → AllByRecursion P (xs ++ ys) → AllByRecursion P xs × AllByRecursion P ys
both_parts P [] ys all = (tt, all)
both_parts P (x ∷ xs) ys all = let rest = both_parts P xs ys all.1 in ((all.0, rest.0), rest.1)

pub sums_same : (f g : ℕ → ℕ) (xs : List ℕ) → AllByRecursion (λ x. f x ≡ g x) xs → sum_by f xs ≡ sum_by g xs
sums_same f g [] all = refl
sums_same f g (x ∷ xs) all = omega (arith, sum_by-cons f x xs, sum_by-cons g x xs, all.0, sums_same f g xs all.1)

pub sums_rise : {X : Type 0} (f g : X → ℕ) (xs : List X) → AllByRecursion (λ x. f x ≤ g x) xs → sum_by f xs ≤ sum_by g xs
sums_rise f g [] all = omega arith
sums_rise f g (x ∷ xs) all = omega (arith, sum_by-cons f x xs, sum_by-cons g x xs, all.0, sums_rise f g xs all.1)

-- ---- pairs that cover a list are pairs of whoever the list is made of

-- the first of a list that is mapped, and the others
record First (f : ℕ → ℕ) (y : ℕ) (ys vs : List ℕ) : Type 0 where
  number : ℕ
  others : List ℕ
  is : vs ≡ number ∷ others
  first_is : y ≡ f number
  others_are : map f others ≡ ys

first_of_map : (f : ℕ → ℕ) (y : ℕ) (ys vs : List ℕ) → map f vs ≡ y ∷ ys → First f y ys vs
first_of_map f y ys [] e = absurd (cc)
first_of_map f y ys (v ∷ vs) e =
    let here : f v ≡ y = cc in
    let there : map f vs ≡ ys = cc in
    record { number = v; others = vs; is = refl; first_is = sym here; others_are = there }

-- two parts of it
record Cut (f : ℕ → ℕ) (xs ys vs : List ℕ) : Type 0 where
  front : List ℕ
  back : List ℕ
  is : vs ≡ front ++ back
  front_is : map f front ≡ xs
  back_is : map f back ≡ ys

cut_map : (f : ℕ → ℕ) (xs ys vs : List ℕ) → map f vs ≡ xs ++ ys → Cut f xs ys vs
cut_map f [] ys vs e = record { front = []; back = vs; is = refl; front_is = refl; back_is = e }
cut_map f (x ∷ xs) ys vs e =
    let one = first_of_map f x (xs ++ ys) vs e in
    let rest = cut_map f xs ys one.others one.others_are in
    record {
      front = one.number ∷ rest.front;
      back = rest.back;
      is = one.is ∙ ap (λ zs. one.number ∷ zs) rest.is;
      front_is = ap (λ y. y ∷ map f rest.front) (sym one.first_is) ∙ ap (λ zs. x ∷ zs) rest.front_is;
      back_is = rest.back_is;
    }

module _ (f : ℕ → ℕ) (meets : ℕ → ℕ → Bool) (P : ℕ → Type 0) where
  -- two of whom the same holds meet
  abbrev pub Meet : ℕ × ℕ → Type 0
  Meet pair = (P pair.0 × P pair.1) × (meets (f pair.0) (f pair.1) ≡ true)

  pub record PairedOut (vs out' : List ℕ) : Type 0 where
    pub pairs : List (ℕ × ℕ)
    pub out : List ℕ
    pub whole : MakeUp vs pairs out
    pub meet : AllByRecursion Meet pairs
    pub stay : AllByRecursion P out
    pub out_is : out' ≡ map f out

  pub paired_out : (pairs' : List (ℕ × ℕ)) (players out' : List ℕ) → Covering meets players pairs' out' → (vs : List ℕ) → map f vs ≡ players
      → AllByRecursion P vs → PairedOut vs out'
  paired_out [] players out' e vs mapped all =
      record { pairs = []; out = vs; whole = λ w. omega arith; meet = tt; stay = all; out_is = sym e ∙ sym mapped }
  paired_out (pair ∷ pairs') players out' c vs mapped all =
      let one = cut_map f c.skipped (pair.0 ∷ (c.between ++ pair.1 ∷ c.behind)) vs (mapped ∙ c.players_are) in
      let u = first_of_map f pair.0 (c.between ++ pair.1 ∷ c.behind) one.back one.back_is in
      let two = cut_map f c.between (pair.1 ∷ c.behind) u.others u.others_are in
      let v = first_of_map f pair.1 c.behind two.back two.back_is in
      let from_v : two.back ≡ v.number ∷ v.others = v.is in
      let from_u : one.back ≡ u.number ∷ (two.front ++ v.number ∷ v.others) =
      u.is ∙ ap (λ zs. u.number ∷ zs) (two.is ∙ ap (λ zs. two.front ++ zs) from_v) in
      let these : vs ≡ one.front ++ u.number ∷ (two.front ++ v.number ∷ v.others) = one.is ∙ ap (λ zs. one.front ++ zs) from_u in
      let holds = both_parts P one.front (u.number ∷ (two.front ++ v.number ∷ v.others)) (subst (AllByRecursion P) these all) in
      let later = both_parts P two.front (v.number ∷ v.others) holds.1.1 in
      let rest = paired_out pairs' (c.between ++ c.behind) c.later c.covered (two.front ++ v.others)
      (map-append f two.front v.others ∙ ap (λ zs. zs ++ map f v.others) two.front_is ∙ ap (λ zs. c.between ++ zs) v.others_are)
      (all_join P two.front v.others later.0 later.1.1) in
      record {
        pairs = (u.number, v.number) ∷ rest.pairs;
        out = one.front ++ rest.out;
        whole = λ w. omega (
          arith,
          sum_by-cons (in_both w) (u.number, v.number) rest.pairs,
          rest.whole w,
          ap (sum_by w) these,
          sum_by-append w one.front rest.out,
          sum_by-append w two.front v.others,
          sum_by-append w one.front (u.number ∷ (two.front ++ v.number ∷ v.others)),
          sum_by-cons w u.number (two.front ++ v.number ∷ v.others),
          sum_by-append w two.front (v.number ∷ v.others),
          sum_by-cons w v.number v.others,
        );
        meet = (
          ((holds.1.0, later.1.0), ap (λ y. meets y (f v.number)) (sym u.first_is) ∙ ap (meets pair.0) (sym v.first_is) ∙ c.may_meet),
          rest.meet,
        );
        stay = all_join P one.front rest.out holds.0 rest.stay;
        out_is = c.out_are
            ∙ ap (λ zs. zs ++ c.later) (sym one.front_is)
            ∙ ap (λ zs. map f one.front ++ zs) rest.out_is
            ∙ sym (map-append f one.front rest.out);
      }

-- one at most is left out, who may be
pub few_left : (may : ℕ → Bool) (f : ℕ → ℕ) (out out' : List ℕ) → out' ≡ map f out → MayBeLeftOut may out'
    → (length out ≤ 1) × AllByRecursion (λ v. may (f v) ≡ true) out
few_left may f [] out' e left = (omega arith, tt)
few_left may f (v ∷ []) out' e left = (omega arith, (subst (MayBeLeftOut may) e left, tt))
few_left may f (v ∷ w ∷ rest) out' e left = absurd (subst (MayBeLeftOut may) e left)

-- of pairs and one left over at most it is told by the number whether one is
pub odd_one : (pairs left n : ℕ) → 2 * pairs + left ≡ n → left ≤ 1 → left ≡ n % 2
odd_one pairs left n whole few = omega (arith, whole, few)
