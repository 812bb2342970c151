-- A witness gives a list of pairs that completes: the first player is left over, or is paired, and so on with the others.
use Rattle.std.proofs.Common.{◌≡◌, ℕ, zero, suc, ◌+◌, ◌*◌, ◌<◌, ◌≤◌, Bool, true, nat_eq, cond, List, [], ◌∷◌, ◌++◌, Option, None, Some, All, length, slice_index_or, sum_by, inl, inr, refl, sym, ap, subst, ◌∙◌, arith}
use Rattle.std.specs.Option.{option_to_list}
use Rattle.std.proofs.lemmas.Bool.{cases_Bool, cases_lt, eqb-true}
use Rattle.std.proofs.lemmas.List.Elements.{All-nil, All-cons, All-head, All-tail}
use Rattle.std.proofs.lemmas.List.Sums.{sum_by-cons, sum_by-append}
use Rattle.dual.specs.Prelude.{in_both, MakeUp, Covers, MayBeLeftOut, Completable, IsWitness, times_named, StandsAsOften}
use Rattle.dual.proofs.Sums.{sum_plus, sum_of_ones, sum_of_twos, one, one_itself, of_member, named, sum_named}

-- ---- where a member stands

record Stands (x : ℕ) (xs : List ℕ) : Type 0 where
  front : List ℕ
  behind : List ℕ
  parts : xs ≡ front ++ x ∷ behind

stands : (x : ℕ) (xs : List ℕ) → 0 < sum_by (one x) xs → Stands x xs
stands x [] h = absurd (omega arith)
stands x (y ∷ ys) h = elim (cases_Bool (nat_eq y x)) [
  | inl here ↦ record { front = []; behind = ys; parts = ap (λ z. z ∷ ys) (eqb-true y x here) }
  | inr other ↦
      (let off : one x y ≡ 0 = ap (λ b. cond b 1 0) other in
      let later = stands x ys (omega (arith, h, off, sum_by-cons (one x) y ys)) in
      record { front = y ∷ later.front; behind = later.behind; parts = ap (λ zs. y ∷ zs) later.parts })
]

-- what is left of the sum without it
without : (w : ℕ → ℕ) (x : ℕ) (xs front behind : List ℕ) → xs ≡ front ++ x ∷ behind → sum_by w xs ≡ w x + sum_by w (front ++ behind)
without w x xs front behind parts =
    omega (arith, ap (sum_by w) parts, sum_by-append w front (x ∷ behind), sum_by-cons w x behind, sum_by-append w front behind)

-- ---- lists in which each member of one stands as often

pub same_sums : (xs ys : List ℕ) → length xs ≡ length ys → ((v : ℕ) → 0 < sum_by (one v) xs → sum_by (one v) xs ≡ sum_by (one v) ys)
    → (w : ℕ → ℕ) → sum_by w xs ≡ sum_by w ys
same_sums [] [] e each w = refl
same_sums [] (y ∷ ys) e each w = absurd (omega arith)
same_sums (x ∷ xs) ys e each w =
    let own = sum_by-cons (one x) x xs in
    let at = stands x ys (omega (arith, each x (omega (arith, own, one_itself x)), own, one_itself x)) in
    let fewer : length xs ≡ length (at.front ++ at.behind) =
    omega (arith, e, without (λ v. 1) x ys at.front at.behind at.parts, sum_of_ones ys, sum_of_ones (at.front ++ at.behind)) in
    let rest = same_sums xs (at.front ++ at.behind) fewer (λ v some. omega (
      arith,
      some,
      each v (omega (arith, some, sum_by-cons (one v) x xs)),
      sum_by-cons (one v) x xs,
      without (one v) x ys at.front at.behind at.parts,
    )) w in
    omega (arith, rest, sum_by-cons w x xs, without w x ys at.front at.behind at.parts)

-- ---- the pairs in order

module _ (meets : ℕ → ℕ → Bool) where
  abbrev EitherMeets : ℕ × ℕ → Type 0
  EitherMeets pair = (meets pair.0 pair.1 ≡ true) × (meets pair.1 pair.0 ≡ true)

  -- a player's partner, and the other pairs
  record Partner (x : ℕ) (pairs : List (ℕ × ℕ)) : Type 0 where
    partner : ℕ
    others : List (ℕ × ℕ)
    may_meet : meets x partner ≡ true
    all_meet : All EitherMeets others
    whole : (w : ℕ → ℕ) → sum_by (in_both w) pairs ≡ w x + w partner + sum_by (in_both w) others

  partner_of : (x : ℕ) (pairs : List (ℕ × ℕ)) → All EitherMeets pairs → 0 < sum_by (in_both (one x)) pairs → Partner x pairs
  partner_of x [] all h = absurd (omega arith)
  partner_of x (pair ∷ pairs) all h = elim (cases_Bool (nat_eq pair.0 x)) [
    | inl first ↦
        (let e : pair.0 ≡ x = eqb-true pair.0 x first in
        record {
          partner = pair.1;
          others = pairs;
          may_meet = ap (λ v. meets v pair.1) (sym e) ∙ (All-head EitherMeets pair pairs all).0;
          all_meet = All-tail EitherMeets pair pairs all;
          whole = λ w. omega (arith, sum_by-cons (in_both w) pair pairs, ap w e);
        })
    | inr other ↦ elim (cases_Bool (nat_eq pair.1 x)) [
      | inl second ↦
          (let e : pair.1 ≡ x = eqb-true pair.1 x second in
          record {
            partner = pair.0;
            others = pairs;
            may_meet = ap (λ v. meets v pair.0) (sym e) ∙ (All-head EitherMeets pair pairs all).1;
            all_meet = All-tail EitherMeets pair pairs all;
            whole = λ w. omega (arith, sum_by-cons (in_both w) pair pairs, ap w e);
          })
      | inr neither ↦
          (let off : one x pair.0 ≡ 0 = ap (λ b. cond b 1 0) other in
          let off_too : one x pair.1 ≡ 0 = ap (λ b. cond b 1 0) neither in
          let later = partner_of x pairs (All-tail EitherMeets pair pairs all) (omega (arith, h, off, off_too, sum_by-cons (in_both (one x)) pair pairs)) in
          record {
            partner = later.partner;
            others = pair ∷ later.others;
            may_meet = later.may_meet;
            all_meet = All-cons EitherMeets pair later.others (All-head EitherMeets pair pairs all) later.all_meet;
            whole = λ w. omega (arith, sum_by-cons (in_both w) pair pairs, sum_by-cons (in_both w) pair later.others, later.whole w);
          })
    ]
  ]

  leave_first : (x : ℕ) (players : List ℕ) (pairs : List (ℕ × ℕ)) (out : List ℕ) → Covers meets players pairs out → Covers meets (x ∷ players) pairs (x ∷ out)
  leave_first x players [] out e = ap (λ vs. x ∷ vs) e
  leave_first x players (pair ∷ pairs) out c = record {
    skipped = x ∷ c.skipped;
    between = c.between;
    behind = c.behind;
    later = c.later;
    players_are = ap (λ vs. x ∷ vs) c.players_are;
    may_meet = c.may_meet;
    out_are = ap (λ vs. x ∷ vs) c.out_are;
    covered = c.covered;
  }

  record InOrder (players left : List ℕ) : Type 0 where
    pairs : List (ℕ × ℕ)
    covered : Covers meets players pairs left

  -- whoever is in no pair is the one left over
  stays : (x : ℕ) (players : List ℕ) (pairs : List (ℕ × ℕ)) (left : Option ℕ) → MakeUp (x ∷ players) pairs (option_to_list left)
      → sum_by (in_both (one x)) pairs ≡ 0 → (MakeUp players pairs [] → InOrder players []) → InOrder (x ∷ players) (option_to_list left)
  stays x players pairs None fills none later = absurd (omega (arith, fills (one x), none, sum_by-cons (one x) x players, one_itself x))
  stays x players pairs (Some v) fills none later =
      let e : v ≡ x =
      of_member (λ z. v ≡ z) x (v ∷ []) (All-cons (λ z. v ≡ z) v [] refl (All-nil (λ z. v ≡ z)))
      (omega (arith, fills (one x), none, sum_by-cons (one x) x players, one_itself x)) in
      let c = later (λ w. omega (arith, fills w, ap w e, sum_by-cons w x players, sum_by-cons w v [])) in
      subst (λ z. InOrder (x ∷ players) (z ∷ [])) (sym e) (record { pairs = c.pairs; covered = leave_first x players c.pairs [] c.covered })

  in_order : (n : ℕ) (players : List ℕ) (pairs : List (ℕ × ℕ)) (left : Option ℕ) → length players ≤ n → All EitherMeets pairs
      → MakeUp players pairs (option_to_list left) → InOrder players (option_to_list left)
  in_order n [] pairs None few all fills = record { pairs = []; covered = refl }
  in_order n [] pairs (Some v) few all fills = absurd (omega (arith, fills (λ v. 1), sum_by-cons (λ v. 1) v []))
  in_order zero (x ∷ players) pairs left few all fills = absurd (omega arith)
  in_order (suc n) (x ∷ players) pairs left few all fills = elim (cases_lt 0 (sum_by (in_both (one x)) pairs)) [
    | inl some ↦
        (let p = partner_of x pairs all some in
        let y = p.partner in
        let rest : MakeUp players p.others (y ∷ option_to_list left) =
        λ w. omega (arith, fills w, p.whole w, sum_by-cons w x players, sum_by-cons w y (option_to_list left)) in
        let at = stands y players (omega (arith, rest (one y), one_itself y, sum_by-cons (one y) y (option_to_list left))) in
        let fewer : length (at.front ++ at.behind) ≤ n =
        omega (arith, few, without (λ v. 1) y players at.front at.behind at.parts, sum_of_ones players, sum_of_ones (at.front ++ at.behind)) in
        let later = in_order n (at.front ++ at.behind) p.others left fewer p.all_meet
        (λ w. omega (arith, rest w, sum_by-cons w y (option_to_list left), without w y players at.front at.behind at.parts)) in
        record {
          pairs = (x, y) ∷ later.pairs;
          covered = record {
            skipped = [];
            between = at.front;
            behind = at.behind;
            later = option_to_list left;
            players_are = ap (λ vs. x ∷ vs) {y = at.front ++ y ∷ at.behind} at.parts;
            may_meet = p.may_meet;
            out_are = refl;
            covered = later.covered;
          };
        })
    | inr none ↦
        stays x players pairs left fills (omega (arith, none))
        (λ rest. in_order n players pairs None (omega (arith, few)) all rest)
  ]

pub completable : (meets : ℕ → ℕ → Bool) (may_be_left : ℕ → Bool) (players : List ℕ) (pairs : List (ℕ × ℕ)) (left : Option ℕ)
    → IsWitness meets may_be_left players pairs left → Completable meets may_be_left players
completable meets may_be_left players pairs left witness =
    let c = in_order meets (length players) players pairs left (omega arith) witness.may_meet witness.whole in
    record { pairs = c.pairs; out = option_to_list left; covered = c.covered; left_out = stays_if left witness.may_stay } where
      stays_if : (left : Option ℕ) → All (λ v. may_be_left v ≡ true) (option_to_list left) → MayBeLeftOut may_be_left (option_to_list left)
      stays_if None may = tt {0}
      stays_if (Some v) may = All-head (λ v. may_be_left v ≡ true) v [] may

-- ---- what is counted

times_are : (pairs : List (ℕ × ℕ)) (others : List ℕ) (v : ℕ) → times_named v pairs others ≡ sum_by (in_both (one v)) pairs + sum_by (one v) others
times_are pairs others v = omega (arith, sum_plus (λ pair. one v pair.0) (λ pair. one v pair.1) pairs)

pub make_up : (players : List ℕ) (pairs : List (ℕ × ℕ)) (others : List ℕ) → 2 * length pairs + length others ≡ length players
    → All (StandsAsOften players pairs others) players → MakeUp players pairs others
unfolding StandsAsOften
make_up players pairs others many often w =
    let both : (w : ℕ → ℕ) → sum_by w (named pairs ++ others) ≡ sum_by (in_both w) pairs + sum_by w others =
    λ w. omega (arith, sum_by-append w (named pairs) others, sum_named w pairs) in
    let e : length players ≡ length (named pairs ++ others) =
    omega (arith, many, both (λ v. 1), sum_of_ones (named pairs ++ others), sum_of_ones others, sum_of_twos pairs) in
    let each : (v : ℕ) → 0 < sum_by (one v) players → sum_by (one v) players ≡ sum_by (one v) (named pairs ++ others) =
    λ v some. omega (arith, both (one v), times_are pairs others v, of_member (StandsAsOften players pairs others) v players often some) in
    omega (arith, both w, same_sums players (named pairs ++ others) e each w)

pub as_many : (players : List ℕ) (pairs : List (ℕ × ℕ)) (others : List ℕ) → MakeUp players pairs others → 2 * length pairs + length others ≡ length players
as_many players pairs others whole = omega (arith, whole (λ v. 1), sum_of_twos pairs, sum_of_ones others, sum_of_ones players)

pub as_often : (players : List ℕ) (pairs : List (ℕ × ℕ)) (others : List ℕ) → MakeUp players pairs others
    → All (StandsAsOften players pairs others) players
unfolding StandsAsOften
as_often players pairs others whole = λ k d inside.
    omega (arith, times_are pairs others (slice_index_or players k d), whole (one (slice_index_or players k d)))
