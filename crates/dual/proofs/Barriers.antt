-- A barrier is a certificate: each player who is no blocker has the potential 1, each pair and each player left over is given 1, and a pair
-- inside a group pays 1. It is asked about the players in pairs alone: whoever is left over out of an even group makes it odd.
use Rattle.std.proofs.Common.{◌≡◌, ℕ, zero, suc, ◌+◌, ◌-◌, ◌*◌, ◌<◌, ◌≤◌, ◌%◌, Bool, true, false, ◌&&◌, not, cond, nat_eq, List, [], ◌∷◌, All, length, sum_by, count_by, inl, inr, refl, sym, ap, ◌∙◌, arith}
use Rattle.std.specs.List.{list_any}
use Rattle.std.proofs.lemmas.Bool.{cases_Bool, cases_lt, eqb-true, eq-eqb}
use Rattle.std.proofs.lemmas.List.Elements.{All-nil}
use Rattle.std.proofs.lemmas.List.Folds.{list_any_at}
use Rattle.std.proofs.lemmas.List.Sums.{sum_by-cons, sum_by-le-sum_by}
use Rattle.dual.specs.Prelude.{Costs, IsMatching, MakeUp, Covers, MayBeLeftOut, Completable, Priced, Certificate, toll, Bears, BearsLeft, IsFeasible, most_inside, Suits, IsBarrier, group_size, blockers, odd_groups, is_of_odd_group, served, IsTooNarrow}
use Rattle.dual.proofs.Sums.{sum_plus, sum_none, sum_of_ones, one, one_itself, of_member, of_members, named, sum_named}
use Rattle.dual.proofs.WeakDuality.{counted, bounded}
use Rattle.dual.proofs.Covering.{covers_whole, covers_meet}

abbrev one_if : Bool → ℕ
one_if b = cond b 1 0

not_same : (a b : ℕ) → nat_eq a b ≡ false → a ≡ b → ⊥
not_same a b other e = let same : nat_eq a b ≡ true = eq-eqb a b e in absurd (cc)

below_next : (a k : ℕ) → a ≤ suc k → (a ≡ suc k → ⊥) → a ≤ k
below_next a k few not_it = elim (cases_lt a (suc k)) [ inl below ↦ omega (arith, below) | inr above ↦ absurd (not_it (omega (arith, few, above))) ]

one_if_small : (b : Bool) → one_if b ≤ 1
one_if_small b = elim b as (λ b. one_if b ≤ 1) [ true ↦ omega arith | false ↦ omega arith ]

not_zero : (k : ℕ) → one_if (nat_eq (suc k) 0) ≡ 0
not_zero k = elim (cases_Bool (nat_eq (suc k) 0)) [
  | inl here ↦ (let e : suc k ≡ 0 = eqb-true (suc k) 0 here in absurd (omega (arith, e)))
  | inr other ↦ ap one_if other
]

-- ---- the certificate

module _ (label : ℕ → ℕ) where
  abbrev group : ℕ → Priced
  group l = record { has = λ v. nat_eq (label v) l; price = 1 }

  abbrev groups : ℕ → List Priced
  groups zero = []
  groups (suc k) = group (suc k) ∷ groups k

  abbrev outside : ℕ → ℕ
  outside v = 1 - one_if (nat_eq (label v) 0)

  abbrev certificate_of : ℕ → Certificate
  certificate_of k = record { potential = outside; given = 1; given_left = 1; sets = groups k }

  -- a player is in at most one group, and a blocker in none
  abbrev marks : ℕ → ℕ → ℕ
  marks zero v = 0
  marks (suc k) v = one_if (nat_eq (label v) (suc k)) + marks k v

  is_one : (v l : ℕ) → label v ≡ l → one_if (nat_eq (label v) l) ≡ 1
  is_one v l e = ap one_if (eq-eqb (label v) l e)

  no_marks : (k v : ℕ) → k < label v → marks k v ≡ 0
  no_marks zero v h = refl
  no_marks (suc k) v h = elim (cases_Bool (nat_eq (label v) (suc k))) [
    | inl here ↦ (let e : label v ≡ suc k = eqb-true (label v) (suc k) here in absurd (omega (arith, h, e)))
    | inr other ↦ (let off : one_if (nat_eq (label v) (suc k)) ≡ 0 = ap one_if other in omega (arith, off, no_marks k v (omega (arith, h))))
  ]

  few_marks : (k v : ℕ) → marks k v ≤ outside v
  few_marks zero v = omega arith
  few_marks (suc k) v = elim (cases_Bool (nat_eq (label v) (suc k))) [
    | inl here ↦
        (let e : label v ≡ suc k = eqb-true (label v) (suc k) here in
        let on : one_if (nat_eq (label v) (suc k)) ≡ 1 = ap one_if here in
        let out : one_if (nat_eq (label v) 0) ≡ 0 = ap (λ l. one_if (nat_eq l 0)) e ∙ not_zero k in
        omega (arith, on, out, no_marks k v (omega (arith, e))))
    | inr other ↦ (let off : one_if (nat_eq (label v) (suc k)) ≡ 0 = ap one_if other in omega (arith, off, few_marks k v))
  ]

  module _ (players : List ℕ) where
    -- halves of the groups, and what is odd
    halves : (k : ℕ) → 2 * sum_by (λ set. set.price * most_inside players set) (groups k) + odd_groups players label k ≡ sum_by (marks k) players
    halves zero = omega (arith, sum_none players)
    halves (suc k) =
        omega (
          arith,
          halves k,
          sum_by-cons (λ set. set.price * most_inside players set) (group (suc k)) (groups k),
          sum_plus (λ v. one_if (nat_eq (label v) (suc k))) (marks k) players,
        )

    parted : blockers players label + sum_by outside players ≡ length players
    parted =
        omega (
          arith,
          sum_plus (λ v. one_if (nat_eq (label v) 0)) outside players,
          sum_by-le-sum_by (λ v. one_if (nat_eq (label v) 0) + outside v) (λ v. 1) players (λ v. omega (arith, one_if_small (nat_eq (label v) 0))),
          sum_by-le-sum_by (λ v. 1) (λ v. one_if (nat_eq (label v) 0) + outside v) players (λ v. omega (arith, one_if_small (nat_eq (label v) 0))),
          sum_of_ones players,
        )

  -- a pair in a group pays
  pays : (k u v : ℕ) → 0 < label u → label u ≤ k → label u ≡ label v → 1 ≤ sum_by (toll (u, v)) (groups k)
  pays zero u v some few same = absurd (omega arith)
  pays (suc k) u v some few same = elim (cases_Bool (nat_eq (label u) (suc k))) [
    | inl here ↦
        (let e : label v ≡ suc k = sym same ∙ eqb-true (label u) (suc k) here in
        let paid : toll (u, v) (group (suc k)) ≡ 1 =
        ap (λ b. cond (b && nat_eq (label v) (suc k)) 1 0) here ∙ ap (λ b. cond (true && b) 1 0) (eq-eqb (label v) (suc k) e) in
        omega (arith, paid, sum_by-cons (toll (u, v)) (group (suc k)) (groups k)))
    | inr other ↦
        (let lower : label u ≤ k = below_next (label u) k few (not_same (label u) (suc k) other) in
        omega (arith, pays k u v some lower same, sum_by-cons (toll (u, v)) (group (suc k)) (groups k)))
  ]

-- ---- where nobody is left over, a blocker serves each odd group

module _ (meets : ℕ → ℕ → Bool) (players : List ℕ) (label : ℕ → ℕ) (k : ℕ) (barrier : IsBarrier meets players label k) where
  abbrev free : Costs
  free = record { meets = meets; weight = λ u v. 0; may_be_left = λ v. true; left_cost = λ v. 0 }

  in_barrier : (v : ℕ) → label v ≡ 0 → outside label v ≡ 0
  in_barrier v e = omega (arith, is_one label v 0 e)

  outside_small : (v : ℕ) → outside label v ≤ 1
  outside_small v = omega arith

  pair_bears : (u v : ℕ) → label u ≤ k → Suits meets label u v → Bears free (certificate_of label k) u v
  pair_bears u v few suits = λ may. elim (suits may) [
    | inl first ↦ omega (arith, in_barrier u first, outside_small v)
    | inr more ↦ elim more [
      | inl second ↦ omega (arith, in_barrier v second, outside_small u)
      | inr same ↦ elim (cases_lt 0 (label u)) [
        | inl some ↦ omega (arith, outside_small u, outside_small v, pays label k u v some few same)
        | inr none ↦ omega (arith, in_barrier u (omega (arith, none)), in_barrier v (sym same ∙ omega (arith, none)))
      ]
    ]
  ]

  feasible : IsFeasible free players (certificate_of label k)
  feasible = record {
    pairs =
        of_members (λ u. All (Bears free (certificate_of label k) u) players) players (λ u here.
        of_members (Bears free (certificate_of label k) u) players (λ v there.
        pair_bears u v (of_member (λ v. label v ≤ k) u players barrier.labelled here)
        (of_member (Suits meets label u) v players (of_member (λ u. All (Suits meets label u) players) u players barrier.apart here) there)));
    left = of_members (BearsLeft free (certificate_of label k)) players (λ v here may. omega (arith, outside_small v));
  }

  pub all_served : (pairs : List (ℕ × ℕ)) → IsMatching free players pairs [] → odd_groups players label k ≤ blockers players label
  all_served pairs matching =
      omega (
        arith,
        bounded free players (certificate_of label k) pairs [] feasible matching,
        sum_none pairs,
        counted free players pairs [] matching,
        halves label players k,
        sum_by-le-sum_by (marks label k) (outside label) players (few_marks label k),
        parted label players,
      )

-- ---- with some left over

module _ (meets : ℕ → ℕ → Bool) (players : List ℕ) (label : ℕ → ℕ) (k : ℕ) (barrier : IsBarrier meets players label k) (pairs : List (ℕ × ℕ)) (out : List ℕ)
    (whole : MakeUp players pairs out) (met : All (λ pair. meets pair.0 pair.1 ≡ true) pairs) where
  parts : (w : ℕ → ℕ) → sum_by w (named pairs) + sum_by w out ≡ sum_by w players
  parts w = omega (arith, sum_named w pairs, whole w)

  among : (x : ℕ) → 0 < sum_by (one x) (named pairs) → 0 < sum_by (one x) players
  among x some = omega (arith, some, parts (one x))

  paired : IsBarrier meets (named pairs) label k
  paired = record {
    labelled = of_members (λ v. label v ≤ k) (named pairs) (λ v here. of_member (λ v. label v ≤ k) v players barrier.labelled (among v here));
    apart =
        of_members (λ u. All (Suits meets label u) (named pairs)) (named pairs) (λ u here.
        of_members (Suits meets label u) (named pairs) (λ v there.
        of_member (Suits meets label u) v players (of_member (λ u. All (Suits meets label u) players) u players barrier.apart (among u here)) (among v there)));
  }

  paired_served : odd_groups (named pairs) label k ≤ blockers (named pairs) label
  paired_served =
      all_served meets (named pairs) label k paired pairs
      (record { whole = λ w. omega (arith, sum_named w pairs); may_meet = met; may_be_left = All-nil (λ v. true ≡ true) })

  -- those left over out of an odd group
  abbrev of_group : ℕ → ℕ → ℕ
  of_group l v = one_if (nat_eq (label v) l && is_of_odd_group players label v)

  abbrev of_groups : ℕ → ℕ → ℕ
  of_groups zero v = 0
  of_groups (suc j) v = of_group (suc j) v + of_groups j v

  -- whoever is of an odd group counts there
  counts : (l v : ℕ) → group_size players label (suc l) % 2 ≡ 1 → one_if (nat_eq (label v) (suc l)) ≤ of_group (suc l) v
  counts l v odd = elim (cases_Bool (nat_eq (label v) (suc l))) [
    | inl here ↦
        (let e : label v ≡ suc l = eqb-true (label v) (suc l) here in
        let is_odd : (group_size players label (label v) % 2) ≡ 1 = ap (λ l. group_size players label l % 2) e ∙ odd in
        let no_blocker : nat_eq (label v) 0 ≡ false =
        elim (cases_Bool (nat_eq (label v) 0)) [ inl zero_it ↦ absurd (omega (arith, e, eqb-true (label v) 0 zero_it)) | inr other ↦ other ] in
        let it : is_of_odd_group players label v ≡ true = ap (λ b. not b && nat_eq (group_size players label (label v) % 2) 1) no_blocker ∙ eq-eqb (group_size players label (label v) % 2) 1 is_odd in
        let whole : of_group (suc l) v ≡ 1 = ap (λ b. one_if (b && is_of_odd_group players label v)) here ∙ ap one_if it in
        omega (arith, whole, one_if_small (nat_eq (label v) (suc l))))
    | inr other ↦ (let off : one_if (nat_eq (label v) (suc l)) ≡ 0 = ap one_if other in omega (arith, off))
  ]

  kept_in : (l : ℕ) → group_size players label (suc l) % 2 ≤ group_size (named pairs) label (suc l) % 2 + sum_by (of_group (suc l)) out
  kept_in l = elim (cases_lt 0 (group_size players label (suc l) % 2)) [
    | inl some ↦
        (let odd : group_size players label (suc l) % 2 ≡ 1 = omega (arith, some) in
        omega (
          arith,
          parts (λ v. one_if (nat_eq (label v) (suc l))),
          sum_by-le-sum_by (λ v. one_if (nat_eq (label v) (suc l))) (of_group (suc l)) out (λ v. counts l v odd),
        ))
    | inr none ↦ omega (arith, none)
  ]

  kept : (j : ℕ) → odd_groups players label j ≤ odd_groups (named pairs) label j + sum_by (of_groups j) out
  kept zero = omega arith
  kept (suc j) = omega (arith, kept j, kept_in j, sum_plus (of_group (suc j)) (of_groups j) out)

  -- and in one group at most
  few_of : (j v : ℕ) → of_groups j v ≤ marks label j v
  few_of zero v = omega arith
  few_of (suc j) v = omega (arith, few_of j v, and_small (nat_eq (label v) (suc j)) (is_of_odd_group players label v)) where
    and_small : (a b : Bool) → one_if (a && b) ≤ one_if a
    and_small true b = one_if_small b
    and_small false b = omega arith

  none_of : (j v : ℕ) → is_of_odd_group players label v ≡ false → of_groups j v ≡ 0
  none_of zero v even = refl
  none_of (suc j) v even = omega (arith, none_of j v even, and_none (nat_eq (label v) (suc j))) where
    and_none : (a : Bool) → one_if (a && is_of_odd_group players label v) ≡ 0
    and_none true = ap one_if even
    and_none false = refl

  at_most_once : (v : ℕ) → of_groups k v ≤ one_if (is_of_odd_group players label v)
  at_most_once v = elim (cases_Bool (is_of_odd_group players label v)) [
    | inl odd ↦ (let it : one_if (is_of_odd_group players label v) ≡ 1 = ap one_if odd in omega (arith, it, few_of k v, few_marks label k v))
    | inr even ↦ omega (arith, none_of k v even)
  ]

  -- of each odd group somebody meets a blocker, or is left over
  pub all_but_left : odd_groups players label k ≤ blockers players label + count_by (is_of_odd_group players label) out
  all_but_left =
      omega (
        arith,
        paired_served,
        kept k,
        sum_by-le-sum_by (of_groups k) (λ v. one_if (is_of_odd_group players label v)) out at_most_once,
        parts (λ v. one_if (nat_eq (label v) 0)),
      )

  -- so what is odd beyond the blockers is left over
  pub left_over : odd_groups players label k - blockers players label ≤ length out
  left_over =
      omega (
        arith,
        all_but_left,
        sum_by-le-sum_by (λ v. one_if (is_of_odd_group players label v)) (λ v. 1) out (λ v. one_if_small (is_of_odd_group players label v)),
        sum_of_ones out,
      )

-- the same of pairs that cover players
pub left_out : (meets : ℕ → ℕ → Bool) (players : List ℕ) (label : ℕ → ℕ) (k : ℕ) → IsBarrier meets players label k
    → (pairs : List (ℕ × ℕ)) (out : List ℕ) → Covers meets players pairs out
    → odd_groups players label k ≤ blockers players label + count_by (is_of_odd_group players label) out
left_out meets players label k barrier pairs out covers =
    all_but_left meets players label k barrier pairs out (λ w. covers_whole meets w players pairs out covers) (covers_meet meets players pairs out covers)

-- ---- so players are not completable where more groups are odd than are served

any_member : (p : ℕ → Bool) (x : ℕ) (xs : List ℕ) → 0 < sum_by (one x) xs → p x ≡ true → list_any p xs ≡ true
any_member p x xs here passes = of_member (λ y. p y ≡ true → list_any p xs ≡ true) x xs (λ k d inside. list_any_at p xs k d inside) here passes

module _ (meets : ℕ → ℕ → Bool) (may_be_left : ℕ → Bool) (players : List ℕ) (label : ℕ → ℕ) (k : ℕ) (narrow : IsTooNarrow meets may_be_left players label k) where
  abbrev g : ℕ → Bool
  g = is_of_odd_group players label

  few_left : (pairs : List (ℕ × ℕ)) (out : List ℕ) → Covers meets players pairs out → MayBeLeftOut may_be_left out
      → blockers players label + count_by g out ≤ served may_be_left players label
  few_left pairs [] covers may = omega arith
  few_left pairs (a ∷ []) covers may = elim (cases_Bool (g a)) [
    | inl odd ↦
        (let here : 0 < sum_by (one a) players =
        omega (arith, covers_whole meets (one a) players pairs (a ∷ []) covers, one_itself a, sum_by-cons (one a) a []) in
        let some : list_any (λ v. may_be_left v && g v) players ≡ true =
        any_member (λ v. may_be_left v && g v) a players here (ap (λ b. b && g a) may ∙ odd) in
        omega (arith, ap one_if some, one_if_small (g a), sum_by-cons (λ v. one_if (g v)) a []))
    | inr even ↦ omega (arith, ap one_if even, sum_by-cons (λ v. one_if (g v)) a [])
  ]
  few_left pairs (a ∷ b ∷ rest) covers may = absurd may

  pub not_completable : ¬ Completable meets may_be_left players
  not_completable = λ c.
      let bad : ⊥ = omega (arith, narrow.too_few, left_out meets players label k narrow.barrier c.pairs c.out c.covered, few_left c.pairs c.out c.covered c.left_out) in bad
