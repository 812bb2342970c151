-- Numbers that weigh alike weigh the same in each pair (C.04.3 C.6, C.7, C.8 to C.19).
use Rattle.std.proofs.Common.{◌≡◌, ◌≢◌, ℕ, ◌+◌, ◌<◌, ◌≤◌, Bool, true, false, ◌&&◌, cond, List, [], ◌∷◌, ◌++◌, length, inl, inr, refl, sym, ap, subst, ◌∙◌, arith}
use Rattle.std.proofs.lemmas.Bool.{cases_lt, le-leb}
use Rattle.std.proofs.lemmas.List.{get_or_append_left, get_or_default, get_or_push}
use Rattle.std.specs.Prelude.{slice_index}
use Rattle.dual.specs.Prelude.{WeighByClass, class_of}
use Rattle.dutch_weighing.specs.Prelude.{met_weight, pair_weight}
use Rattle.dutch_weighing.proofs.AlikePairs.{same_weight}
use Rattle.dutch_weight_floors.specs.declared.scoped.Reach.{Reach}
use Rattle.dutch_weight_floors.specs.declared.scoped.Reach.TheVariants.{Bracket, Lower, Next}
use Rattle.dutch_weight_floors.specs.Prelude.{AddsNothing, IsReached, Scoped, TellAlike, WeighAlike, bracket_costs, costs_by, costs_in, is_inside, next_costs, size_by}
use Rattle.dutch_weight_floors.proofs.OtherScopes.{none_with}

-- two who weigh as a third one does
join : (s : Scoped) (a b c : ℕ) → WeighAlike s a c → WeighAlike s b c → WeighAlike s a b
join s a b c first second = record {
  inside = first.inside ∙ sym second.inside;
  class = λ in'. first.class in' ∙ sym (second.class (sym (first.inside ∙ sym second.inside) ∙ in'));
  met = λ next. first.met next ∙ sym (second.met next);
}

-- the classes of two are the same, and so both are named by one number
named : (list : List ℕ) (a b : ℕ) → a < length list → b < length list → class_of list a ≡ class_of list b → slice_index list a ≡ slice_index list b
named list a b p q same = get_or_default list a 0 (65536 + a) p ∙ (same ∙ get_or_default list b (65536 + b) 0 q)

-- a pair of two of the bracket, or of two of whom one is not
by_inside : (i j : Bool) (p q m n m' n' : ℕ) → (i ≡ true → j ≡ true → p ≡ q) → m ≡ m' → n ≡ n'
    → cond (i && j) p (cond i m n) ≡ cond (i && j) q (cond i m' n')
by_inside true true p q m n m' n' both first second = both refl refl
by_inside true false p q m n m' n' both first second = first
by_inside false j p q m n m' n' both first second = second

module _ (s : Scoped) (none : AddsNothing s.order) (u v a b : ℕ) (first : WeighAlike s u a) (second : WeighAlike s v b) where
  -- as a pair of the bracket
  pub inside_alike : is_inside s u ≡ true → is_inside s v ≡ true → (bracket_costs s).weight u v ≡ (bracket_costs s).weight a b
  inside_alike p q =
      none_with s.order none s.weighing.reached.mdps u v (pair_weight s.weighing u v)
      ∙ (same_weight s.weighing a b u v (first.class p) (second.class q)
      ∙ sym (none_with s.order none s.weighing.reached.mdps a b (pair_weight s.weighing a b)))

  -- where the matchings go over the next lower scoregroup too
  pub next_alike : s.reach ≡ Next → (next_costs s).weight u v ≡ (next_costs s).weight a b
  next_alike next =
      by_inside (is_inside s u) (is_inside s v) ((bracket_costs s).weight u v) ((bracket_costs s).weight a b) (met_weight s.weighing u)
      (met_weight s.weighing v) (met_weight s.weighing a) (met_weight s.weighing b) inside_alike (first.met next) (second.met next)
      ∙ (ap (λ (i : Bool). cond (i && is_inside s v) ((bracket_costs s).weight a b) (cond i (met_weight s.weighing a) (met_weight s.weighing b))) first.inside
      ∙ ap (λ (j : Bool). cond (is_inside s a && j) ((bracket_costs s).weight a b) (cond (is_inside s a) (met_weight s.weighing a) (met_weight s.weighing b)))
      second.inside)

module _ (s : Scoped) (none : AddsNothing s.order) (list : List ℕ) (count : length list ≡ size_by s.reach s.weighing + 1) (told : TellAlike s list (length list)) where
  both : (u a : ℕ) → IsReached s u → IsReached s a → class_of list u ≡ class_of list a → WeighAlike s u a
  both u a p q same =
      join s u a (slice_index list a)
      (subst (WeighAlike s u) (named list u a (omega (arith, count, p.1)) (omega (arith, count, q.1)) same) (told u p.0 (omega (arith, count, p.1))))
      (told a q.0 (omega (arith, count, q.1)))

  by_class_in_bracket : s.reach ≡ Bracket → WeighByClass (IsReached s) (costs_in s) list
  by_class_in_bracket bracket u v a b p q p' q' one other =
      let inside : (x : ℕ) → IsReached s x → is_inside s x ≡ true =
      λ x reached. le-leb x (length s.weighing.reached.seats) (subst (λ (r : Reach). x ≤ size_by r s.weighing) bracket reached.1) in
      subst (λ (r : Reach). (costs_by r s).weight u v ≡ (costs_by r s).weight a b) (sym bracket)
      (inside_alike s none u v a b (both u a p p' one) (both v b q q' other) (inside u p) (inside v q))

  by_class_with_next : s.reach ≡ Next → WeighByClass (IsReached s) (costs_in s) list
  by_class_with_next next u v a b p q p' q' one other =
      subst (λ (r : Reach). (costs_by r s).weight u v ≡ (costs_by r s).weight a b) (sym next)
      (next_alike s none u v a b (both u a p p' one) (both v b q q' other) next)

by_class_at : (s : Scoped) → AddsNothing s.order → (reach : Reach) → s.reach ≡ reach → reach ≢ Lower → (list : List ℕ)
    → length list ≡ size_by s.reach s.weighing + 1 → TellAlike s list (length list) → WeighByClass (IsReached s) (costs_in s) list
by_class_at s none Bracket is other list count told = by_class_in_bracket s none list count told is
by_class_at s none Lower is other list count told = absurd (other refl)
by_class_at s none Next is other list count told = by_class_with_next s none list count told is

-- where nothing is added, and a pair weighs one thing
pub by_class : (s : Scoped) → AddsNothing s.order → s.reach ≢ Lower → (list : List ℕ) → length list ≡ size_by s.reach s.weighing + 1
    → TellAlike s list (length list) → WeighByClass (IsReached s) (costs_in s) list
by_class s none other = by_class_at s none s.reach refl other

-- where nothing is told, each is of a class of their own
pub each_alone : (s : Scoped) → WeighByClass (IsReached s) (costs_in s) []
each_alone s u v a b p q p' q' one other =
    let first : u ≡ a = omega (arith, one) in
    let second : v ≡ b = omega (arith, other) in
    ap (λ (x : ℕ). (costs_in s).weight x v) first ∙ ap (λ (y : ℕ). (costs_in s).weight a y) second

-- one more who is told of
pub one_alike_more : (s : Scoped) (list : List ℕ) (class : ℕ) → TellAlike s list (length list) → WeighAlike s (length list) class
    → TellAlike s (list ++ class ∷ []) (length list + 1)
one_alike_more s list class told is a some below =
    elim (cases_lt a (length list)) [
      | inl lt ↦ subst (WeighAlike s a) (sym (get_or_append_left list (class ∷ []) 0 a lt)) (told a some lt)
      | inr ge ↦
          let here : length list ≡ a = omega (arith, below, ge) in
          subst (WeighAlike s a) (sym (get_or_push list class 0 a here)) (subst (λ (i : ℕ). WeighAlike s i class) here is)
    ]
