-- One number more is in the table.
use Rattle.std.proofs.Common.{◌≡◌, ℕ, ◌+◌, ◌-◌, ◌<◌, ◌^◌, List, [], ◌∷◌, ◌++◌, length, length-append, inl, inr, ap, subst, sym, ◌∙◌, arith}
use Rattle.std.proofs.lemmas.List.{get_or_append_left, get_or_push}
use Rattle.dutch_weighing.proofs.WrittenNumbers.{at_most}
use Rattle.dutch_weight_floors.specs.Prelude.{AreAdded, Order, added_for}
use Rattle.dutch_weight_floors.proofs.order.Order.table_upto.Goals as goal

one_more : (order : Order) (old : List ℕ) (sum above : ℕ) → AreAdded order old → length old ≡ above → sum ≡ added_for order (above + 1)
    → added_for order (above + 1) < 2 ^ 1024 → AreAdded order (old ++ (sum ∷ []))
one_more order old sum above told count is small x some few = elim (at_most x above) [
  | inl le ↦
      let was = told x some (omega (arith, le, count)) in
      (get_or_append_left old (sum ∷ []) 0 (x - 1) (omega (arith, some, le, count)) ∙ was.0, was.1)
  | inr more ↦
      let e : above + 1 ≡ x = omega (arith, more, few, length-append old (sum ∷ []), count) in
      (get_or_push old sum 0 (x - 1) (omega (arith, e, count)) ∙ is ∙ ap (added_for order) e, subst (λ (n : ℕ). added_for order n < 2 ^ 1024) e small)
]

pub loop-above-preserved : goal.loop-above-preserved
loop-above-preserved c = (
  omega (arith, simp length-append at (ap length c.in_ok-push.ensures.items), c.loop-above.invariant.0),
  subst (λ (table : List ℕ). AreAdded c.args.self.now table) (sym c.in_ok-push.ensures.items)
      (one_more c.args.self.now c.loop-above.table.items c.in-Some.sum c.loop-above.above c.loop-above.invariant.1 c.loop-above.invariant.0
      c.in-Some.ensures.1 c.in-Some.ensures.0),
)
