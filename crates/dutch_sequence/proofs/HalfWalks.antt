-- The paths of a search of two halves.
use Rattle.std.proofs.Common.{◌≡◌, ℕ, zero, suc, ◌+◌, ◌-◌, ◌<◌, ◌≤◌, Bool, true, false, ◌||◌, ◌==◌, nat_lt, List, [], ◌∷◌, ◌++◌, length, get_or, refl, sym, ◌∙◌, ap, append_assoc, arith, length-append, subst, if◌then◌else◌, take, drop, Option}
use Rattle.std.specs.List.{AllByRecursion}
use Rattle.dutch_sequence.specs.Prelude.{Walked, Plan, half_start, half_stop, two_halves}
use Rattle.std.proofs.lemmas.List.{append-nil}
use Rattle.std.proofs.lemmas.Bool.{ne_eqb, eq-eqb, or_right, lt-ltb, le-ltb}

cond-below : (b : Bool) (x y bound : ℕ) → x ≤ bound → y ≤ bound → (if b then x else y) ≤ bound
cond-below true x y bound p q = p
cond-below false x y bound p q = q

-- where both counts are one, it bounds each number
pub half_stop-one : (half count : ℕ) (path : List ℕ) → half_stop half count count path ≤ count
unfolding half_stop
half_stop-one half count path =
    cond-below (nat_lt (length path) half) (count - (half - 1 - length path)) (count - (half + half - 1 - length path)) count (omega arith) (omega arith)

-- what a search admits: each number is between the start and the stop of its place, and fits
abbrev pub Admitted : Plan → ℕ → List ℕ → List ℕ → Type 0
Admitted plan zero beginning path = path ≡ []
Admitted plan (suc open_places) beginning [] = ⊥
Admitted plan (suc open_places) beginning (number ∷ path) =
    (plan.start beginning ≤ number) × (number < plan.stop beginning) × (plan.fits beginning number ≡ true) × Admitted plan open_places (beginning ++ number ∷ []) path

-- numbers that rise from a first one on, below a bound
abbrev pub Climbs : ℕ → ℕ → List ℕ → Type 0
Climbs low bound [] = Unit {0}
Climbs low bound (x ∷ xs) = (low ≤ x) × (x < bound) × Climbs (suc x) bound xs

-- each number of a path fits where it stands
abbrev pub AllFit : (List ℕ → ℕ → Bool) → List ℕ → List ℕ → Type 0
AllFit fits beginning [] = Unit {0}
AllFit fits beginning (number ∷ path) = (fits beginning number ≡ true) × AllFit fits (beginning ++ number ∷ []) path

pub Climbs-room : (low bound : ℕ) (xs : List ℕ) (x : ℕ) → Climbs low bound (x ∷ xs) → x + length xs < bound
Climbs-room low bound [] x climbs = omega (arith, climbs.1)
Climbs-room low bound (y ∷ ys) x climbs =
    let above : suc x ≤ y = climbs.2.0 in omega (arith, Climbs-room (suc x) bound ys y climbs.2)

-- one half of a search
module _ (plan : Plan) (first last count : ℕ) (starts : (beginning : List ℕ) (x : ℕ) → first ≤ length beginning → suc (length beginning) < last → plan.start (beginning ++ x ∷ []) ≡ suc x) (stops : (beginning : List ℕ) → first ≤ length beginning → length beginning < last → plan.stop beginning ≡ count - (last - 1 - length beginning)) where
  pub half-climbs : (m : ℕ) (beginning path : List ℕ) (low : ℕ) → length beginning + m ≡ last → first ≤ length beginning → (0 < m → plan.start beginning ≡ low) → Admitted plan m beginning path → Climbs low count path × AllFit plan.fits beginning path × (length path ≡ m)
  half-climbs zero beginning [] low whole later start admitted = (tt, tt, refl)
  half-climbs zero beginning (x ∷ path) low whole later start admitted = let no : (x ∷ path) ≡ [] = admitted in cc
  half-climbs (suc m) beginning [] low whole later start admitted = absurd admitted
  half-climbs (suc m) beginning (x ∷ path) low whole later start admitted =
      let rest = half-climbs m (beginning ++ x ∷ []) path (suc x) (omega (arith, length-append beginning (x ∷ []))) (omega (arith, length-append beginning (x ∷ [])))
      (λ more. starts beginning x later (omega arith)) admitted.3 in
      let from : low ≤ x = omega (arith, start (omega arith), admitted.0) in
      let below : x < count = omega (arith, stops beginning later (omega arith), admitted.1) in
      ((from, below, rest.0), (admitted.2, rest.1), ap suc rest.2)

  pub half-admitted : (m : ℕ) (beginning path : List ℕ) (low : ℕ) → length beginning + m ≡ last → first ≤ length beginning → (0 < m → plan.start beginning ≡ low) → Climbs low count path → AllFit plan.fits beginning path → length path ≡ m → Admitted plan m beginning path
  half-admitted zero beginning [] low whole later start climbs fit same = refl
  half-admitted zero beginning (x ∷ path) low whole later start climbs fit same = absurd (omega arith)
  half-admitted (suc m) beginning [] low whole later start climbs fit same = absurd (omega arith)
  half-admitted (suc m) beginning (x ∷ path) low whole later start climbs fit same =
      let shorter : length path ≡ m = omega arith in
      let from : plan.start beginning ≤ x = omega (arith, start (omega arith), climbs.0) in
      let below : x < plan.stop beginning = omega (arith, stops beginning later (omega arith), Climbs-room low count path x climbs) in (
        from,
        below,
        fit.0,
        half-admitted m (beginning ++ x ∷ []) path (suc x) (omega (arith, length-append beginning (x ∷ []))) (omega (arith, length-append beginning (x ∷ [])))
            (λ more. starts beginning x later (omega arith)) climbs.2 fit.1 shorter,
      )

-- a path that is admitted at so many and more places, in two parts
pub Admitted-split : (plan : Plan) (m n total : ℕ) (beginning path : List ℕ) → total ≡ m + n → Admitted plan total beginning path → (front : List ℕ) × (back : List ℕ) × (path ≡ front ++ back) × Admitted plan m beginning front × Admitted plan n (beginning ++ front) back
Admitted-split plan zero n total beginning path whole admitted =
    let same : total ≡ n = omega arith in
    ([], path, refl, refl, subst (λ b. Admitted plan n b path) (sym (append-nil beginning)) (subst (λ k. Admitted plan k beginning path) same admitted))
Admitted-split plan (suc m) n zero beginning path whole admitted = absurd (omega arith)
Admitted-split plan (suc m) n (suc total) beginning [] whole admitted = absurd admitted
Admitted-split plan (suc m) n (suc total) beginning (x ∷ path) whole admitted =
    let rest = Admitted-split plan m n total (beginning ++ x ∷ []) path (omega arith) admitted.3 in (
      x ∷ rest.0,
      rest.1,
      ap (λ xs. x ∷ xs) rest.2,
      (admitted.0, admitted.1, admitted.2, rest.3),
      subst (λ b. Admitted plan n b rest.1) (append_assoc beginning (x ∷ []) rest.0) rest.4,
    )

pub Admitted-join : (plan : Plan) (m n total : ℕ) (beginning front back : List ℕ) → total ≡ m + n → Admitted plan m beginning front → Admitted plan n (beginning ++ front) back → Admitted plan total beginning (front ++ back)
Admitted-join plan zero n total beginning front back whole p q =
    let same : n ≡ total = omega arith in
    subst (λ xs. Admitted plan total beginning (xs ++ back)) (sym p)
    (subst (λ k. Admitted plan k beginning back) same
    (subst (λ b. Admitted plan n b back) (ap (λ xs. beginning ++ xs) p ∙ append-nil beginning) q))
Admitted-join plan (suc m) n zero beginning front back whole p q = absurd (omega arith)
Admitted-join plan (suc m) n (suc total) beginning [] back whole p q = absurd p
Admitted-join plan (suc m) n (suc total) beginning (x ∷ front) back whole p q = (
  p.0,
  p.1,
  p.2,
  Admitted-join plan m n total (beginning ++ x ∷ []) front back (omega arith) p.3
      (subst (λ b. Admitted plan n b back) (sym (append_assoc beginning (x ∷ []) front)) q),
)

get_or-last : (beginning : List ℕ) (x : ℕ) → get_or (beginning ++ x ∷ []) (length beginning) 0 ≡ x
get_or-last [] x = refl
get_or-last (y ∷ beginning) x = get_or-last beginning x

-- after a number that does not end a half, the next one is tried
pub start-on : (half : ℕ) (beginning : List ℕ) (x : ℕ) → (suc (length beginning) ≡ half → ⊥) → half_start half (beginning ++ x ∷ []) ≡ suc x
unfolding half_start
start-on half beginning x apart =
    let long : length (beginning ++ x ∷ []) ≡ suc (length beginning) = omega (arith, length-append beginning (x ∷ [])) in
    ap (λ n. if (n == 0) || (n == half) then 0 else (get_or (beginning ++ x ∷ []) (n - 1) 0 + 1)) long
    ∙ ap (λ b. if b || (suc (length beginning) == half) then 0 else (get_or (beginning ++ x ∷ []) (suc (length beginning) - 1) 0 + 1)) (ne_eqb (suc (length beginning)) 0 (λ e. omega arith))
    ∙ ap (λ b. if b then 0 else (get_or (beginning ++ x ∷ []) (suc (length beginning) - 1) 0 + 1)) (ne_eqb (suc (length beginning)) half apart)
    ∙ ap (λ n. get_or (beginning ++ x ∷ []) n 0 + 1) (let e : suc (length beginning) - 1 ≡ length beginning = omega arith in e)
    ∙ ap (λ n. n + 1) (get_or-last beginning x)
    ∙ (let e : x + 1 ≡ suc x = omega arith in e)

-- the second half starts at 0
pub start-second : (half : ℕ) (front : List ℕ) → length front ≡ half → half_start half front ≡ 0
unfolding half_start
start-second half front same =
    ap (λ b. if b then 0 else (get_or front (length front - 1) 0 + 1)) (or_right (length front == 0) (length front == half) (eq-eqb (length front) half same))

pub stop-first : (half first_count second_count : ℕ) (path : List ℕ) → length path < half → half_stop half first_count second_count path ≡ first_count - (half - 1 - length path)
unfolding half_stop
stop-first half first_count second_count path h =
    ap (λ b. if b then (first_count - (half - 1 - length path)) else (second_count - (half + half - 1 - length path))) (lt-ltb (length path) half h)

pub stop-second : (half first_count second_count : ℕ) (path : List ℕ) → half ≤ length path → half_stop half first_count second_count path ≡ second_count - (half + half - 1 - length path)
unfolding half_stop
stop-second half first_count second_count path h =
    ap (λ b. if b then (first_count - (half - 1 - length path)) else (second_count - (half + half - 1 - length path))) (le-ltb (length path) half h)

-- the two halves of a path
pub record Halved (fits : List ℕ → ℕ → Bool) (half first_count second_count : ℕ) (front back : List ℕ) : Type 0 where
  pub front_climbs : Climbs 0 first_count front
  pub back_climbs : Climbs 0 second_count back
  pub front_fits : AllFit fits [] front
  pub back_fits : AllFit fits front back
  pub front_length : length front ≡ half
  pub back_length : length back ≡ half

module _ (half first_count second_count : ℕ) (fits : List ℕ → ℕ → Bool) (beyond : List ℕ → ℕ → Option ℕ) where
  pub halves-split : (path : List ℕ) → Admitted (two_halves half first_count second_count fits beyond) (half + half) [] path → (front : List ℕ) × (back : List ℕ) × (path ≡ front ++ back) × Halved fits half first_count second_count front back
  unfolding half_start
  halves-split path admitted =
      let plan : Plan = two_halves half first_count second_count fits beyond in
      let parts = Admitted-split plan half half (half + half) [] path refl admitted in
      let one = half-climbs plan 0 half first_count (λ beginning x later more. start-on half beginning x (λ e. omega arith)) (λ beginning later more. stop-first half first_count second_count beginning more) half [] parts.0 0 (omega arith) (omega arith) (λ more. refl) parts.3 in
      let two = half-climbs plan half (half + half) second_count (λ beginning x later more. start-on half beginning x (λ e. omega arith)) (λ beginning later more. stop-second half first_count second_count beginning later) half parts.0 parts.1 0 (omega (arith, one.2)) (omega (arith, one.2)) (λ more. start-second half parts.0 one.2) parts.4 in (
        parts.0,
        parts.1,
        parts.2,
        record {
          front_climbs = one.0;
          back_climbs = two.0;
          front_fits = one.1;
          back_fits = two.1;
          front_length = one.2;
          back_length = two.2;
        },
      )

  pub halves-join : (front back : List ℕ) → Halved fits half first_count second_count front back → Admitted (two_halves half first_count second_count fits beyond) (half + half) [] (front ++ back)
  unfolding half_start
  halves-join front back halved =
      let plan : Plan = two_halves half first_count second_count fits beyond in
      Admitted-join plan half half (half + half) [] front back refl
      (half-admitted plan 0 half first_count (λ beginning x later more. start-on half beginning x (λ e. omega arith)) (λ beginning later more. stop-first half first_count second_count beginning more) half [] front 0 (omega arith) (omega arith) (λ more. refl) halved.front_climbs halved.front_fits halved.front_length)
      (half-admitted plan half (half + half) second_count (λ beginning x later more. start-on half beginning x (λ e. omega arith)) (λ beginning later more. stop-second half first_count second_count beginning later) half front back 0 (omega (arith, halved.front_length)) (omega (arith, halved.front_length)) (λ more. start-second half front halved.front_length) halved.back_climbs halved.back_fits halved.back_length)

-- the two halves of a path that a search has walked are below their counts
module _ (half first_count second_count : ℕ) (fits : List ℕ → ℕ → Bool) (beyond : List ℕ → ℕ → Option ℕ) where
  pub Walked-second : (beginning path : List ℕ) → half ≤ length beginning → Walked (two_halves half first_count second_count fits beyond) beginning path → AllByRecursion (λ place. place < second_count) path
  Walked-second beginning [] later walked = tt
  Walked-second beginning (x ∷ path) later walked = (
    omega (arith, walked.0, stop-second half first_count second_count beginning later),
    Walked-second (beginning ++ x ∷ []) path (omega (arith, length-append beginning (x ∷ []))) walked.2,
  )

  pub Walked-first : (m : ℕ) (beginning path : List ℕ) → length beginning + m ≡ half → Walked (two_halves half first_count second_count fits beyond) beginning path → AllByRecursion (λ place. place < first_count) (take m path) × AllByRecursion (λ place. place < second_count) (drop m path)
  Walked-first zero beginning path whole walked = (tt, Walked-second beginning path (omega arith) walked)
  Walked-first (suc m) beginning [] whole walked = (tt, tt)
  Walked-first (suc m) beginning (x ∷ path) whole walked =
      let rest = Walked-first m (beginning ++ x ∷ []) path (omega (arith, whole, length-append beginning (x ∷ []))) walked.2 in
      ((omega (arith, walked.0, stop-first half first_count second_count beginning (omega arith)), rest.0), rest.1)

  pub Walked-halves : (path : List ℕ) → Walked (two_halves half first_count second_count fits beyond) [] path → AllByRecursion (λ place. place < first_count) (take half path) × AllByRecursion (λ place. place < second_count) (drop half path)
  Walked-halves path walked = Walked-first half [] path (omega arith) walked

pub take_short : (n : ℕ) (xs : List ℕ) → length xs ≤ n → take n xs ≡ xs
take_short zero [] h = refl
take_short zero (x ∷ xs) h = absurd (omega arith)
take_short (suc n) [] h = refl
take_short (suc n) (x ∷ xs) h = ap (λ rest. x ∷ rest) (take_short n xs (omega arith))
